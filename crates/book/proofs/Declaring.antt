-- What a record without a fault has, by its kind, and records by their variant.
-- In order: what a fault of 0 says, what a record is by its variant, rows.
-- Assumes nothing.
use mathlib.Core.Path.{◌≡◌, refl, ap, sym, ◌∙◌}
use mathlib.Core.Bool.{Bool, true, false, not, ◌||◌}
use mathlib.Core.List.{List, [], ◌∷◌, ◌++◌}
use Prim.Native.Nat.{ℕ, ◌≤◌, ◌<◌}
use native.Mathlib.Omega.{arith}
use borrow.Author.Tests.{eqb-true, ne_eqb, ltb-false, leb-false, not-false}
use lib.Dec.{ltb, leb}
use lib.ListN.{get_or}
use Rattle.values.specs.Table.{TableRules, keeps_rules}
use Rattle.values.proofs.Table.{rules_tested}
use Rattle.records.specs.Checks.{first_of}
use Rattle.records.specs.Records.{kind_of, masks_of}
use Rattle.records.specs.declared.Record.{Record}
use Rattle.records.specs.declared.BookRecord.{BookRecord}
use Rattle.records.specs.declared.Record.TheVariants.{OfBook}
use Rattle.records.specs.declared.BookRecord.TheVariants.{Attribute, Object, Dependency, Row, Declared, Removed}
use Rattle.records.specs.declared.BookRecord.TheVariants.{ComparisonTable, DeclaredWide}
use Rattle.records.proofs.Checks.{none_first}
use Rattle.records.proofs.Records.{RowOrNot, a_row, another_kind, row_or_not}
use Rattle.scheme.specs.declared.Scheme.{Scheme}
use Rattle.scheme.specs.Statements.{SomeObjects}
use Rattle.sets.specs.Sets.{◌∈◌, ◌∉◌, has, within, is_empty, count, ATTRIBUTES, OBJECTS}
use Rattle.sets.proofs.Tests.{no_or}
use Rattle.sets.proofs.Sets.{yes_has, no_has, yes_within, no_is_empty}
use Rattle.book.specs.Faults.{wrong_cells, row_checks, maximal_checks, checks, fault_of}
use Rattle.book.specs.Declaring.{declare, with_maximal, with_declared, with_removed}
use Rattle.book.specs.Reading.{is_row, with_row}
use Rattle.book.specs.WellFormed.{SomeAttributes}

-- ---- what a fault of 0 says of a record, by its kind

-- the code has the record by its variant
pub same_fault : (s : Scheme) {r q : BookRecord} → r ≡ q → fault_of s (OfBook r) ≡ 0 → fault_of s (OfBook q) ≡ 0
same_fault s e f = ap (λ (r : BookRecord). fault_of s (OfBook r)) (sym e) ∙ f

pub record NewAttribute (s : Scheme) (id kind : ℕ) : Type 0 where
  pub below : id < ATTRIBUTES
  pub known : kind < 4
  pub new : id ∉ s.attributes

pub record NewObject (s : Scheme) (number set : ℕ) : Type 0 where
  pub below : number < OBJECTS
  pub six : count ATTRIBUTES set ≤ 6
  pub new : number ∉ s.objects
  pub some : SomeAttributes s.attributes set

pub record NewDependency (s : Scheme) (left right : ℕ) : Type 0 where
  pub room : s.dependencies < 64
  pub left_some : SomeAttributes s.attributes left
  pub right_some : SomeAttributes s.attributes right

-- of a kind of which there are n before it
pub record NewMaximal (s : Scheme) (n set : ℕ) : Type 0 where
  pub room : n < 8
  pub some : SomeObjects s.objects set

pub record KnownRow (s : Scheme) (object : ℕ) (cells : List ℕ) : Type 0 where
  pub declared : object ∈ s.objects
  pub right : wrong_cells s.kinds (get_or s.sets object 0) cells ≡ false

-- a set that is not empty and lies within another
some_attributes : {attributes : ℕ} (s : ℕ) → is_empty s ≡ false → not (within s attributes) ≡ false → SomeAttributes
    attributes s
some_attributes {attributes} s e w =
    record { filled = no_is_empty s e; inside = yes_within s attributes (not-false (within s attributes) w) }

pub attribute_accepted : (s : Scheme) (id kind : ℕ) → fault_of s (OfBook (Attribute id kind)) ≡ 0
    → NewAttribute s id kind
unfolding fault_of checks
attribute_accepted s id kind e =
    let range = none_first (leb ATTRIBUTES id || ltb 3 kind) 5 _ (λ z. omega arith) e in
    let small = no_or (leb ATTRIBUTES id) (ltb 3 kind) range.0 in
    let new = none_first (has s.attributes id) 6 _ (λ z. omega arith) range.1 in
    record {
      below = omega (arith, leb-false ATTRIBUTES id small.0);
      known = omega (arith, ltb-false 3 kind small.1);
      new = no_has s.attributes id new.0;
    }

pub object_accepted : (s : Scheme) (number set : ℕ) → fault_of s (OfBook (Object number set)) ≡ 0
    → NewObject s number set
unfolding fault_of checks
object_accepted s number set e =
    let range = none_first (leb OBJECTS number || is_empty set || ltb 6 (count ATTRIBUTES set)) 5 _
    (λ z. omega arith) e in
    let few = no_or (leb OBJECTS number || is_empty set) (ltb 6 (count ATTRIBUTES set)) range.0 in
    let filled = no_or (leb OBJECTS number) (is_empty set) few.0 in
    let new = none_first (has s.objects number) 6 _ (λ z. omega arith) range.1 in
    let inside = none_first (not (within set s.attributes)) 7 _ (λ z. omega arith) new.1 in
    record {
      below = omega (arith, leb-false OBJECTS number filled.0);
      six = ltb-false 6 (count ATTRIBUTES set) few.1;
      new = no_has s.objects number new.0;
      some = some_attributes set filled.1 inside.0;
    }

pub dependency_accepted : (s : Scheme) (left right : ℕ) → fault_of s (OfBook (Dependency left right)) ≡ 0
    → NewDependency s left right
unfolding fault_of checks
dependency_accepted s left right e =
    let room = none_first (leb 64 s.dependencies) 4 _ (λ z. omega arith) e in
    let range = none_first (is_empty left || is_empty right) 5 _ (λ z. omega arith) room.1 in
    let filled = no_or (is_empty left) (is_empty right) range.0 in
    let known =
    none_first (not (within left s.attributes) || not (within right s.attributes)) 7 _ (λ z. omega arith) range.1 in
    let inside = no_or (not (within left s.attributes)) (not (within right s.attributes)) known.0 in
    record {
      room = leb-false 64 s.dependencies room.0;
      left_some = some_attributes left filled.0 inside.0;
      right_some = some_attributes right filled.1 inside.1;
    }

maximal_accepted : (s : Scheme) (n set : ℕ) → first_of (maximal_checks s n set) ≡ 0 → NewMaximal s n set
unfolding maximal_checks
maximal_accepted s n set e =
    let room = none_first (leb 8 n) 4 _ (λ z. omega arith) e in
    let filled = none_first (is_empty set) 5 _ (λ z. omega arith) room.1 in
    let known = none_first (not (within set s.objects)) 7 _ (λ z. omega arith) filled.1 in
    record {
      room = leb-false 8 n room.0;
      some = record {
        filled = no_is_empty set filled.0;
        inside = yes_within set s.objects (not-false (within set s.objects) known.0);
      };
    }

pub declared_accepted : (s : Scheme) (set : ℕ) → fault_of s (OfBook (Declared set)) ≡ 0
    → NewMaximal s s.maximal.declarations set
unfolding fault_of checks
declared_accepted s set e = maximal_accepted s s.maximal.declarations set e

pub declared_wide_accepted : (s : Scheme) (set : ℕ) → fault_of s (OfBook (DeclaredWide set)) ≡ 0
    → NewMaximal s s.maximal.declarations set
unfolding fault_of checks
declared_wide_accepted s set e = maximal_accepted s s.maximal.declarations set e

pub removed_accepted : (s : Scheme) (set : ℕ) → fault_of s (OfBook (Removed set)) ≡ 0
    → NewMaximal s s.maximal.removals set
unfolding fault_of checks
removed_accepted s set e = maximal_accepted s s.maximal.removals set e

pub row_accepted : (s : Scheme) (object c0 c1 c2 c3 c4 c5 : ℕ) → fault_of s (OfBook (Row object c0 c1 c2 c3 c4 c5)) ≡ 0
    → KnownRow s object (c0 ∷ c1 ∷ c2 ∷ c3 ∷ c4 ∷ c5 ∷ [])
unfolding fault_of checks row_checks
row_accepted s object c0 c1 c2 c3 c4 c5 e =
    let below = none_first (leb OBJECTS object) 5 _ (λ z. omega arith) e in
    let known = none_first (not (has s.objects object)) 7 _ (λ z. omega arith) below.1 in
    let right = none_first _ 5 [] (λ z. omega arith) known.1 in
    record { declared = yes_has s.objects object (not-false (has s.objects object) known.0); right = right.0 }

-- "Book kind 13, at most one", which keeps the rules
pub record NewTable (s : Scheme) (names lengths angles dates : ℕ) : Type 0 where
  pub room : s.table.given < 1
  pub rules : TableRules (masks_of names lengths angles dates)

pub table_accepted : (s : Scheme) (names lengths angles dates : ℕ)
    → fault_of s (OfBook (ComparisonTable names lengths angles dates)) ≡ 0 → NewTable s names lengths angles dates
unfolding fault_of checks
table_accepted s names lengths angles dates e =
    let room = none_first (leb 1 s.table.given) 4 _ (λ z. omega arith) e in
    let right = none_first (not (keeps_rules (masks_of names lengths angles dates))) 20 [] (λ z. omega arith) room.1 in
    record {
      room = leb-false 1 s.table.given room.0;
      rules =
          (rules_tested (masks_of names lengths angles dates)).0
          (not-false (keeps_rules (masks_of names lengths angles dates)) right.0);
    }

-- ---- the fault of a record and what it adds, by its variant

pub of_variant : (s : Scheme) {n : ℕ} {r q : BookRecord} → n ≡ fault_of s (OfBook q) → r ≡ q → n ≡ fault_of s (OfBook r)
of_variant s e p = e ∙ ap (λ (r : BookRecord). fault_of s (OfBook r)) (sym p)

pub with_variant : (s : Scheme) {d : Scheme} {r q : BookRecord} → d ≡ declare s (OfBook q) → r ≡ q
    → d ≡ declare s (OfBook r)
with_variant s e p = e ∙ ap (λ (r : BookRecord). declare s (OfBook r)) (sym p)

-- a set of kind 5 or 6 that the code has in 64 bits

pub declared_fault : (s : Scheme) {n set wide : ℕ} → n ≡ first_of (maximal_checks s s.maximal.declarations wide)
    → wide ≡ set → n ≡ fault_of s (OfBook (Declared set))
unfolding fault_of checks
declared_fault s e w = e ∙ ap (λ (x : ℕ). first_of (maximal_checks s s.maximal.declarations x)) w

pub removed_fault : (s : Scheme) {n set wide : ℕ} → n ≡ first_of (maximal_checks s s.maximal.removals wide)
    → wide ≡ set → n ≡ fault_of s (OfBook (Removed set))
unfolding fault_of checks
removed_fault s e w = e ∙ ap (λ (x : ℕ). first_of (maximal_checks s s.maximal.removals x)) w

abbrev pub declared_by : Scheme → ℕ → Scheme
declared_by s M = with_maximal s (with_declared s.maximal M)

abbrev pub removed_by : Scheme → ℕ → Scheme
removed_by s M = with_maximal s (with_removed s.maximal M)

-- ---- rows: a record of another kind adds no position

pub no_row_added : (rows : List ℕ) (r : Record) (at : ℕ) → (kind_of r ≡ 4 → ⊥) → with_row rows r at ≡ rows
unfolding with_row is_row
no_row_added rows r at n =
    ap (λ (b : Bool). elim b [ true ↦ rows ++ at ∷ [] | false ↦ rows ]) (ne_eqb (kind_of r) 4 n)

-- a row adds nothing to the scheme
pub row_declares_nothing : (s : Scheme) (r : Record) → is_row r ≡ true → s ≡ declare s r
unfolding is_row declare
row_declares_nothing s r y = by (row_or_not r) (eqb-true (kind_of r) 4 y)
  where
    by : {r : Record} → RowOrNot r → kind_of r ≡ 4 → s ≡ declare s r
    by (a_row object c0 c1 c2 c3 c4 c5) e = refl
    by (another_kind n) e = absurd (n e)
