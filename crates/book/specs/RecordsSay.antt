-- What the records of a book say, by their fields alone: those of the records of one kind, in their order, all of them
-- and no other. That the scheme, the positions and the rows that reading gives are these is a theorem (`Statements`).
-- In order: the fields of one kind in order, the fields of one kind by number, the scheme, the rows, a table.
-- Assumes nothing.
use Rattle.std.specs.Prelude.{◌≡◌, true, ◌⊎◌, ◌↔◌, ℕ, ◌+◌, ◌≤◌, length, get_or, take}
use mathlib.Core.List.{List, [], ◌∷◌, Memᴰ}
use Rattle.sets.specs.Sets.{◌∈◌, ◌∉◌}
use Rattle.records.specs.Gathered.{Gathered}
use Rattle.records.specs.Records.{kind_of, bytes_of, masks_of}
use Rattle.records.specs.Reader.{Reads}
use Rattle.values.specs.Table.{built_in}
use Rattle.records.specs.declared.Record.{Record}
use Rattle.records.specs.declared.BookRecord.{BookRecord}
use Rattle.records.specs.declared.Record.TheVariants.{OfBook}
use Rattle.records.specs.declared.BookRecord.TheVariants.{Attribute, Object, Dependency, Row, Declared, Removed}
use Rattle.records.specs.declared.BookRecord.TheVariants.{ComparisonTable, OnlyDeclared, DeclaredWide}
use Rattle.relation.specs.Tables as Tables
use Rattle.scheme.specs.declared.Scheme.{Scheme}
use Rattle.scheme.specs.declared.MaximalRecords.{MaximalRecords}
use Rattle.scheme.specs.declared.TableOfMasks.{TableOfMasks}
use Rattle.scheme.specs.Dependencies as Dependencies
use Rattle.scheme.specs.OfScheme.{dependencies_of}
use Rattle.book.specs.TablesOf.{rows_of}

-- ---- the fields of one kind in order

-- "dependency: left determines right"
abbrev pub SaysDependency : Record → Dependencies.Dependency → Type 0
SaysDependency r d = r ≡ OfBook (Dependency d.left d.right)

-- "declared maximal object", by kind 5 or by kind 15: "Kind 15 is kind 5 with an 8-byte set" (request 9)
abbrev pub SaysDeclared : Record → ℕ → Type 0
SaysDeclared r M = (r ≡ OfBook (Declared M)) ⊎ (r ≡ OfBook (DeclaredWide M))

-- "computed maximal object to be removed"
abbrev pub SaysRemoved : Record → ℕ → Type 0
SaysRemoved r M = r ≡ OfBook (Removed M)

-- a row of object k: "object, six cells"
pub record SaysRow (k : ℕ) (r : Record) (row : Tables.Row) : Type 0 where
  pub c0 : ℕ
  pub c1 : ℕ
  pub c2 : ℕ
  pub c3 : ℕ
  pub c4 : ℕ
  pub c5 : ℕ
  pub is_row : r ≡ OfBook (Row k c0 c1 c2 c3 c4 c5)
  pub cells : row ≡ c0 ∷ c1 ∷ c2 ∷ c3 ∷ c4 ∷ c5 ∷ []

-- ---- the fields of one kind by number

-- number i is declared, with the field v at its place, exactly if a record says so; the other places hold 0
pub record ByNumber (says : ℕ → ℕ → BookRecord) (rs : List Record) (numbers : ℕ) (fields : List ℕ) : Type 0 where
  pub exactly : (i v : ℕ) → Memᴰ (OfBook (says i v)) rs ↔ ((i ∈ numbers) × (get_or fields i 0 ≡ v))
  pub nothing_else : (i : ℕ) → i ∉ numbers → get_or fields i 0 ≡ 0

-- ---- the scheme

-- from place n on an array holds 0
abbrev pub ZeroFrom : ℕ → List ℕ → Type 0
ZeroFrom n l = (i : ℕ) → n ≤ i → get_or l i 0 ≡ 0

-- maximal objects: what kinds 5, 6 and 14 say
pub record MaximalSaid (rs : List Record) (m : MaximalRecords) : Type 0 where
  pub declared : Gathered SaysDeclared rs (take m.declarations m.declared)
  pub removed : Gathered SaysRemoved rs (take m.removals m.removed)
  pub only : (m.only ≡ true) ↔ Memᴰ (OfBook OnlyDeclared) rs
  pub declared_behind : ZeroFrom m.declarations m.declared
  pub removed_behind : ZeroFrom m.removals m.removed

-- the comparison table: "Book kind 13, at most one .., replacing the built-in table for that book"
pub data ComparisonsSaid (rs : List Record) (t : TableOfMasks) : Type 0 where
  built_in_one : ((names lengths angles dates : ℕ)
      → Memᴰ (OfBook (ComparisonTable names lengths angles dates)) rs → ⊥)
      → t.given ≡ 0 → t.masks ≡ built_in → ComparisonsSaid rs t
  own_one : (names lengths angles dates : ℕ) → Memᴰ (OfBook (ComparisonTable names lengths angles dates)) rs
      → t.given ≡ 1 → t.masks ≡ masks_of names lengths angles dates → ComparisonsSaid rs t

pub record SchemeSaid (rs : List Record) (s : Scheme) : Type 0 where
  pub attributes : ByNumber Attribute rs s.attributes s.kinds
  pub objects : ByNumber Object rs s.objects s.sets
  pub dependencies : Gathered SaysDependency rs (dependencies_of s)
  pub left_behind : ZeroFrom s.dependencies s.left
  pub right_behind : ZeroFrom s.dependencies s.right
  pub maximal : MaximalSaid rs s.maximal
  pub comparisons : ComparisonsSaid rs s.table

-- ---- the rows

-- where the records of kind 4 stand, if the first record stands at a position: each behind the bytes of those before it
pub data RowsAt : ℕ → List Record → List ℕ → Type 0 where
  behind_last : {at : ℕ} → RowsAt at [] []
  row : {at : ℕ} {r : Record} {rs : List Record} {rows : List ℕ} → kind_of r ≡ 4
      → RowsAt (at + length (bytes_of r)) rs rows → RowsAt at (r ∷ rs) (at ∷ rows)
  no_row : {at : ℕ} {r : Record} {rs : List Record} {rows : List ℕ} → (kind_of r ≡ 4 → ⊥)
      → RowsAt (at + length (bytes_of r)) rs rows → RowsAt at (r ∷ rs) rows

-- the records stand in b from its start on, up to a position; the positions are those of their rows, and the rows of
-- each object are the cells of its row records
pub record RowsSaid (b : List ℕ) (rs : List Record) (rows : List ℕ) (at : ℕ) : Type 0 where
  pub read : Reads b 0 rs at
  pub positions : RowsAt 0 rs rows
  pub of_object : (k : ℕ) → Gathered (SaysRow k) rs (rows_of b rows k)

-- ---- a table

-- the table of object k: its set, and the cells of its row records, in order, all of them and no other
pub record TableSaid (rs : List Record) (s : Scheme) (k : ℕ) (T : Tables.Table) : Type 0 where
  pub set_is : T.set ≡ get_or s.sets k 0
  pub rows_are : Gathered (SaysRow k) rs T.rows
