-- The checks of a record in the paper's words, as conditions and not as tests. That `fault_of` is the number of the
-- first that holds is a theorem (`Statements`).
-- In order: a row's cells, the conditions of each kind. Not here: the first of some conditions (`records`).
-- Assumes nothing.
use Rattle.std.specs.Prelude.{◌≡◌, false, ◌⊎◌, List, [], ◌∷◌, ℕ, ◌≤◌, ◌<◌, get_or}
use Rattle.sets.specs.Sets.{◌∈◌, ◌∉◌, ◌⊆◌, count, ATTRIBUTES, OBJECTS}
use Rattle.values.specs.Values.{in_range}
use Rattle.records.specs.Checks.{Condition, ◌gives◌}
use Rattle.values.specs.Table.{TableRules}
use Rattle.records.specs.Records.{masks_of}
use Rattle.records.specs.declared.Record.{Record}
use Rattle.records.specs.declared.Record.TheVariants.{OfBook, OfQuery}
use Rattle.records.specs.declared.BookRecord.TheVariants.{Attribute, Object, Dependency, Row, Declared, Removed}
use Rattle.records.specs.declared.BookRecord.TheVariants.{ComparisonTable, OnlyDeclared, DeclaredWide}
use Rattle.relation.specs.Tables.{cell_of}
use Rattle.scheme.specs.declared.Scheme.{Scheme}

-- ---- a row's cells

-- "a non-zero unneeded cell": one at a place from the count of the object's attributes on
pub record NonZeroUnneeded (set : ℕ) (cells : List ℕ) : Type 0 where
  pub place : ℕ
  pub unneeded : count ATTRIBUTES set ≤ place
  pub non_zero : get_or cells place 0 ≡ 0 → ⊥

-- an attribute of the object has a cell outside the range of its kind. Of value kinds 0 to 3 only angles have such
-- cells: "an angle over 35,999"
pub record OutsideItsKind (kinds : List ℕ) (set : ℕ) (cells : List ℕ) : Type 0 where
  pub attribute : ℕ
  pub below : attribute < ATTRIBUTES
  pub member : attribute ∈ set
  pub outside : in_range (get_or kinds attribute 0) (cell_of set cells attribute) ≡ false

-- ---- the conditions of each kind, in a scheme of what stands before the record

-- "For a row, once its object is known, a non-zero unneeded cell or an angle over 35,999 is 5."
unfoldable pub row_conditions : Scheme → ℕ → List ℕ → List Condition
row_conditions s object cells =
    (OBJECTS ≤ object gives 5)
    ∷ (object ∉ s.objects gives 7)
    ∷ (NonZeroUnneeded (get_or s.sets object 0) cells ⊎ OutsideItsKind s.kinds (get_or s.sets object 0) cells
    gives 5)
    ∷ []

-- kinds 5 and 6, with n of the kind before it
unfoldable pub maximal_conditions : Scheme → ℕ → ℕ → List Condition
maximal_conditions s n set =
    (8 ≤ n gives 4)
    ∷ (set ≡ 0 gives 5)
    ∷ ((set ⊆ s.objects → ⊥) gives 7)
    ∷ []

-- "kind not allowed 2; .. one more than its bound 4; field outside its range, or an empty set, or an object of over six
-- attributes 5; attribute or object already declared 6; attribute or object not declared 7."
unfoldable pub conditions : Scheme → Record → List Condition
conditions s (OfBook (Attribute id kind)) =
    ((ATTRIBUTES ≤ id) ⊎ (3 < kind) gives 5)
    ∷ (id ∈ s.attributes gives 6)
    ∷ []
conditions s (OfBook (Object number set)) =
    ((OBJECTS ≤ number) ⊎ (set ≡ 0) ⊎ (6 < count ATTRIBUTES set) gives 5)
    ∷ (number ∈ s.objects gives 6)
    ∷ ((set ⊆ s.attributes → ⊥) gives 7)
    ∷ []
conditions s (OfBook (Dependency left right)) =
    (64 ≤ s.dependencies gives 4)
    ∷ ((left ≡ 0) ⊎ (right ≡ 0) gives 5)
    ∷ ((left ⊆ s.attributes → ⊥) ⊎ (right ⊆ s.attributes → ⊥) gives 7)
    ∷ []
conditions s (OfBook (Row object c0 c1 c2 c3 c4 c5)) = row_conditions s object (c0 ∷ c1 ∷ c2 ∷ c3 ∷ c4 ∷ c5 ∷ [])
conditions s (OfBook (Declared set)) = maximal_conditions s s.maximal.declarations set
conditions s (OfBook (Removed set)) = maximal_conditions s s.maximal.removals set
conditions s (OfBook (ComparisonTable names lengths angles dates)) =
    (1 ≤ s.table.given gives 4)
    ∷ ((TableRules (masks_of names lengths angles dates) → ⊥) gives 20)
    ∷ []
conditions s (OfBook OnlyDeclared) = []
-- request 9: "Kind 15 is kind 5 with an 8-byte set and shares its bound of 8"
conditions s (OfBook (DeclaredWide set)) = maximal_conditions s s.maximal.declarations set
-- a kind of a query
conditions s (OfQuery r) = (Unit {0} gives 2) ∷ []
