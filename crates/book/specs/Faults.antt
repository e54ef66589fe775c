-- What is wrong with a record of a book: "Reading a book" of the paper. The checks of each kind stand in the paper's
-- order, each with the number that it gives; the first that holds is the fault.
-- In order: a row's cells, the checks of a record, its fault.
-- Not here: the first of some checks (`records`), a body that is cut short (`Reading`). Assumes nothing.
use Rattle.std.specs.Prelude.{Bool, true, false, not, ◌&&◌, ◌||◌, List, [], ◌∷◌, ℕ, zero, suc, ◌≤◌, eqb, ltb, leb, get_or, drop}
use Rattle.sets.specs.Sets.{has, within, is_empty, count, ATTRIBUTES, OBJECTS}
use Rattle.values.specs.Values.{in_range}
use Rattle.records.specs.Checks.{first_of}
use Rattle.values.specs.Table.{keeps_rules}
use Rattle.records.specs.Records.{masks_of}
use Rattle.records.specs.declared.Record.{Record}
use Rattle.records.specs.declared.Record.TheVariants.{OfBook, OfQuery}
use Rattle.records.specs.declared.BookRecord.TheVariants.{Attribute, Object, Dependency, Row, Declared, Removed}
use Rattle.records.specs.declared.BookRecord.TheVariants.{ComparisonTable, OnlyDeclared, DeclaredWide}
use Rattle.relation.specs.Tables.{cell_of}
use Rattle.scheme.specs.declared.Scheme.{Scheme}

-- ---- a row's cells. "A row's cells follow ascending attribute id; cells not needed are zero."

-- some cell is not zero
unfoldable pub some_non_zero : List ℕ → Bool
some_non_zero [] = false
some_non_zero (c ∷ cells) = not (eqb c 0) || some_non_zero cells

-- some attribute of the set below k has a cell outside the range of its kind
unfoldable pub some_outside : List ℕ → ℕ → List ℕ → ℕ → Bool
some_outside kinds set cells zero = false
some_outside kinds set cells (suc k) =
    some_outside kinds set cells k || (has set k && not (in_range (get_or kinds k 0) (cell_of set cells k)))

-- "a non-zero unneeded cell or an angle over 35,999"
unfoldable pub wrong_cells : List ℕ → ℕ → List ℕ → Bool
wrong_cells kinds set cells = some_non_zero (drop (count ATTRIBUTES set) cells) || some_outside kinds set cells ATTRIBUTES

-- ---- the checks of a record, in a scheme of what stands before it

-- "An object has one to six attributes": no set of the scheme has more
pub record SixAtMost (s : Scheme) : Type 0 where
  pub six : (k : ℕ) → count ATTRIBUTES (get_or s.sets k 0) ≤ 6

-- the checks of a row: "For a row, once its object is known, a non-zero unneeded cell or an angle over 35,999 is 5."
unfoldable pub row_checks : Scheme → ℕ → List ℕ → List (Bool × ℕ)
row_checks s object cells =
    (leb OBJECTS object, 5)
    ∷ (not (has s.objects object), 7)
    ∷ (wrong_cells s.kinds (get_or s.sets object 0) cells, 5)
    ∷ []

-- the checks of a declared maximal object or one to be removed, with n of its kind before it
unfoldable pub maximal_checks : Scheme → ℕ → ℕ → List (Bool × ℕ)
maximal_checks s n set =
    (leb 8 n, 4)
    ∷ (is_empty set, 5)
    ∷ (not (within set s.objects), 7)
    ∷ []

-- "kind not allowed 2; .. one more than its bound 4; field outside its range, or an empty set, or an object of over six
-- attributes 5; attribute or object already declared 6; attribute or object not declared 7."
unfoldable pub checks : Scheme → Record → List (Bool × ℕ)
checks s (OfBook (Attribute id kind)) =
    (leb ATTRIBUTES id || ltb 3 kind, 5)
    ∷ (has s.attributes id, 6)
    ∷ []
checks s (OfBook (Object number set)) =
    (leb OBJECTS number || is_empty set || ltb 6 (count ATTRIBUTES set), 5)
    ∷ (has s.objects number, 6)
    ∷ (not (within set s.attributes), 7)
    ∷ []
checks s (OfBook (Dependency left right)) =
    (leb 64 s.dependencies, 4)
    ∷ (is_empty left || is_empty right, 5)
    ∷ (not (within left s.attributes) || not (within right s.attributes), 7)
    ∷ []
checks s (OfBook (Row object c0 c1 c2 c3 c4 c5)) = row_checks s object (c0 ∷ c1 ∷ c2 ∷ c3 ∷ c4 ∷ c5 ∷ [])
checks s (OfBook (Declared set)) = maximal_checks s s.maximal.declarations set
checks s (OfBook (Removed set)) = maximal_checks s s.maximal.removals set
-- "Book kind 13, at most one (else 4)"; "20 a table that breaks this, after 4 for that record."
checks s (OfBook (ComparisonTable names lengths angles dates)) =
    (leb 1 s.table.given, 4)
    ∷ (not (keeps_rules (masks_of names lengths angles dates)), 20)
    ∷ []
-- "Book kind 14, no body .. any number of them is one"
checks s (OfBook OnlyDeclared) = []
-- request 9: "Kind 15 is kind 5 with an 8-byte set and shares its bound of 8"
checks s (OfBook (DeclaredWide set)) = maximal_checks s s.maximal.declarations set
-- a kind of a query
checks s (OfQuery r) = (true, 2) ∷ []

-- the fault of a record, 0 where it has none
unfoldable pub fault_of : Scheme → Record → ℕ
fault_of s r = first_of (checks s r)
