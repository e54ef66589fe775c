-- The tables of a book that was read: for each object of a maximal object its set and its rows.
-- In order: the rows of an object, the tables, rows in range.
-- Assumes nothing.
use Rattle.std.specs.Prelude.{◌≡◌, true, false, List, [], ◌∷◌, ◌++◌, map, ℕ, ◌≤◌, eqb, length, get_or}
use Rattle.sets.specs.Sets.{◌∈◌, count, members, ATTRIBUTES, OBJECTS}
use Rattle.values.specs.Values.{in_range}
use Rattle.records.specs.Reader.{read_at}
use Rattle.records.specs.declared.Record.{Record}
use Rattle.records.specs.declared.Record.TheVariants.{OfBook, OfQuery}
use Rattle.records.specs.declared.BookRecord.TheVariants.{Attribute, Object, Dependency, Row, Declared, Removed}
use Rattle.records.specs.declared.BookRecord.TheVariants.{ComparisonTable, OnlyDeclared, DeclaredWide}
use Rattle.records.specs.declared.Reading.{Reading}
use Rattle.records.specs.declared.Reading.TheVariants.{Nothing, Unknown, Short, Found}
use Rattle.relation.specs.Tables as Tables
use Rattle.relation.specs.Tables.{Table, cell_of}
use Rattle.book.specs.Reading.{Outcome}

-- ---- the rows of an object

-- the six cells of a record that is a row of object k
unfoldable pub cells_of : ℕ → Record → List Tables.Row
cells_of k (OfBook (Attribute id kind)) = []
cells_of k (OfBook (Object number set)) = []
cells_of k (OfBook (Dependency left right)) = []
cells_of k (OfBook (Row object c0 c1 c2 c3 c4 c5)) =
    elim (eqb object k) [ true ↦ (c0 ∷ c1 ∷ c2 ∷ c3 ∷ c4 ∷ c5 ∷ []) ∷ [] | false ↦ [] ]
cells_of k (OfBook (Declared set)) = []
cells_of k (OfBook (Removed set)) = []
cells_of k (OfBook (ComparisonTable names lengths angles dates)) = []
cells_of k (OfBook OnlyDeclared) = []
cells_of k (OfBook (DeclaredWide set)) = []
cells_of k (OfQuery r) = []

unfoldable pub row_of : ℕ → Reading → List Tables.Row
row_of k Nothing = []
row_of k Unknown = []
row_of k (Short kind) = []
row_of k (Found r next) = cells_of k r

-- those that stand at some positions of b, in their order
unfoldable pub rows_of : List ℕ → List ℕ → ℕ → List Tables.Row
rows_of b [] k = []
rows_of b (at ∷ rows) k = row_of k (read_at b at) ++ rows_of b rows k

-- ---- the tables of the objects of M, ascending

unfoldable pub tables_of : List ℕ → Outcome → ℕ → List Table
tables_of b o M =
    map (λ k. record { set = get_or o.scheme.sets k 0; rows = rows_of b o.rows k }) (members OBJECTS M)

-- ---- rows in range: "A row's cells follow ascending attribute id; cells not needed are zero."

pub record InRange (kinds : List ℕ) (set : ℕ) (row : Tables.Row) : Type 0 where
  pub long : length row ≡ 6
  pub unneeded : (i : ℕ) → count ATTRIBUTES set ≤ i → get_or row i 0 ≡ 0
  pub needed : (a : ℕ) → a ∈ set → in_range (get_or kinds a 0) (cell_of set row a) ≡ true
