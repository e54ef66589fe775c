-- Answer rows by cells that fit the tables: what the search for them is held to. A cell is assumed for each attribute
-- of each variable; each kept set asks for a row with these cells of some object that shows it.
-- In order: cells that fit a maximal object, cells that fit a query.
-- Assumes nothing.
use Rattle.std.specs.Prelude.{◌≡◌, true, false, ℕ, ◌<◌, get_or}
use mathlib.Core.List.{List, Memᴰ}
use Rattle.sets.specs.Sets.{◌∈◌, ◌⊆◌, ATTRIBUTES}
use Rattle.values.specs.Values.{missing}
use Rattle.relation.specs.Tables.{Row, cell_of, Table}
use Rattle.scheme.specs.Growing.{attributes_of}
use Rattle.scheme.specs.OfScheme.{maximal_of}
use Rattle.book.specs.Reading.{Outcome}
use Rattle.book.specs.TablesOf.{rows_of}
use Rattle.query.specs.Asking.{Asking, Named, attributes_named}
use Rattle.scheme.specs.KeptSets.{kept_for, Shows}
use Rattle.connection.specs.Answers.{Cells, item_cells, meets}

-- ---- cells that fit a maximal object

-- the table of an object
abbrev pub table_of : List ℕ → Outcome → ℕ → Table
table_of b o c = record { set = get_or o.scheme.sets c 0; rows = rows_of b o.rows c }

-- some object of M that contains the set K has a row with these cells under K's attributes
pub record RowFits (b : List ℕ) (o : Outcome) (M K : ℕ) (at : ℕ → ℕ) : Type 0 where
  pub object : ℕ
  pub shown : Shows o.scheme.sets M K object
  pub row : Row
  pub there : Memᴰ row (rows_of b o.rows object)
  pub cells : (a : ℕ) → a < ATTRIBUTES → a ∈ K → cell_of (get_or o.scheme.sets object 0) row a ≡ at a

pub record FitsObject (b : List ℕ) (o : Outcome) (M X : ℕ) (at : ℕ → ℕ) : Type 0 where
  pub each : (K : ℕ) → Memᴰ K (kept_for o.scheme.sets M X) → RowFits b o M K at
  -- "in a join a missing cell matches nothing" (request 5): none stands under an attribute of two kept sets
  pub stated : (a K L : ℕ) → Memᴰ K (kept_for o.scheme.sets M X)
      → Memᴰ L (kept_for o.scheme.sets M X) → (K ≡ L → ⊥) → a < ATTRIBUTES → a ∈ K → a ∈ L
      → missing (get_or o.scheme.kinds a 0) (at a) ≡ false

-- ---- cells that fit a query: for each variable named a maximal object that contains its attributes

pub record FitsVariable (b : List ℕ) (o : Outcome) (X : ℕ) (at : ℕ → ℕ) : Type 0 where
  pub object : ℕ
  pub there : Memᴰ object (maximal_of o.scheme)
  pub contains : X ⊆ attributes_of o.scheme.sets object
  pub fits : FitsObject b o object X at

pub record FitsQuery (b : List ℕ) (o : Outcome) (q : Asking) (row : Row) : Type 0 where
  pub at : Cells
  pub variables : (v a : ℕ) → Named q v a → FitsVariable b o (attributes_named q v) (at v)
  pub holding : meets o q.condition at ≡ true
  pub shows : row ≡ item_cells q.items at
