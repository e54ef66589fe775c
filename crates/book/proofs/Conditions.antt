-- The tests of the checks say what the conditions say, kind by kind; so the fault of a record is the number of the
-- first condition that holds.
-- In order: a row's cells, each kind, the first, its range. Those of numbers and sets are in `records`.
-- Assumes nothing.
use mathlib.Core.Path.{◌≡◌, refl, sym, ap, ◌∙◌, subst}
use mathlib.Core.Bool.{true, false, not, ◌&&◌}
use mathlib.Core.Logic.{◌⊎◌, inl, inr, ⊎_elim}
use mathlib.Core.List.{List, [], ◌∷◌}
use Prim.Native.Nat.{ℕ, zero, suc, ◌+◌, ◌-◌, ◌≤◌, ◌<◌}
use native.Mathlib.Nat.{le_refl, le_of_suc-le-suc, eq-or-lt_of_le}
use native.Mathlib.Omega.{arith}
use borrow.Author.Tests.{eqb-true, eqb-false, not-true, not-false}
use lib.Dec.{eqb}
use lib.ListN.{get_or, drop}
use lib.Seq.{get_or-drop}
use Rattle.sets.specs.Sets.{◌∈◌, ◌∉◌, has, count, ATTRIBUTES, OBJECTS}
use Rattle.sets.proofs.Tests.{yes_no, yes_and, no_and, yes_or, no_or}
use Rattle.sets.proofs.Bits.{in_out}
use Rattle.sets.proofs.Sets.{yes_has, no_has}
use Rattle.values.specs.Values.{in_range}
use Rattle.values.specs.Table.{TableRules, keeps_rules}
use Rattle.values.proofs.Table.{rules_tested}
use Rattle.records.specs.Records.{masks_of}
use Rattle.records.specs.Checks.{First}
use Rattle.records.specs.declared.Record.{Record}
use Rattle.records.specs.declared.Record.TheVariants.{OfBook, OfQuery}
use Rattle.records.specs.declared.BookRecord.TheVariants.{Attribute, Object, Dependency, Row, Declared, Removed}
use Rattle.records.specs.declared.BookRecord.TheVariants.{ComparisonTable, OnlyDeclared, DeclaredWide}
use Rattle.records.proofs.Checks.{EachNumber, first_number, Same, Agree, ended, next, first_agrees, first_unique}
use Rattle.records.proofs.Checks.{same_always, same_or}
use Rattle.records.proofs.Checks.{same_or_three, same_lt, same_le, same_empty, same_has, same_absent, same_not_within}
use Rattle.relation.specs.Tables.{cell_of}
use Rattle.scheme.specs.declared.Scheme.{Scheme}
use Rattle.book.specs.Faults.{some_non_zero, some_outside, wrong_cells, row_checks, maximal_checks, checks}
use Rattle.book.specs.Faults.{fault_of}
use Rattle.book.specs.Conditions.{NonZeroUnneeded, OutsideItsKind, row_conditions}
use Rattle.book.specs.Conditions.{maximal_conditions, conditions}
use Rattle.book.specs.Statements.{RecordNumber}

-- ---- a row's cells

-- a cell of the list that is not zero
nonzero_yes : (cells : List ℕ) → some_non_zero cells ≡ true → (i : ℕ) × (get_or cells i 0 ≡ 0 → ⊥)
unfolding some_non_zero
nonzero_yes [] e = absurd (yes_no e refl)
nonzero_yes (c ∷ cells) e =
    front (λ y. nonzero_yes cells y) (yes_or (not (eqb c 0)) (some_non_zero cells) e)
  where
    front : (some_non_zero cells ≡ true → (i : ℕ) × (get_or cells i 0 ≡ 0 → ⊥))
        → (not (eqb c 0) ≡ true) ⊎ (some_non_zero cells ≡ true) → (i : ℕ) × (get_or (c ∷ cells) i 0 ≡ 0 → ⊥)
    front later (inl y) = (0, eqb-false c 0 (not-true (eqb c 0) y))
    front later (inr y) = (suc (later y).0, (later y).1)

nonzero_no : (cells : List ℕ) → some_non_zero cells ≡ false → (i : ℕ) → get_or cells i 0 ≡ 0
unfolding some_non_zero
nonzero_no [] e i = refl
nonzero_no (c ∷ cells) e zero = eqb-true c 0 (not-false (eqb c 0) (no_or (not (eqb c 0)) (some_non_zero cells) e).0)
nonzero_no (c ∷ cells) e (suc i) = nonzero_no cells (no_or (not (eqb c 0)) (some_non_zero cells) e).1 i

-- from place n on there is none
pub unneeded_zero : (n : ℕ) (cells : List ℕ) → some_non_zero (drop n cells) ≡ false → (i : ℕ) → n ≤ i → get_or cells i 0 ≡ 0
unneeded_zero n cells e i h =
    let past : i ≡ n + (i - n) = omega arith in
    ap (λ (k : ℕ). get_or cells k 0) past ∙ sym (get_or-drop n cells (i - n) 0) ∙ nonzero_no (drop n cells) e (i - n)

same_unneeded : (set : ℕ) (cells : List ℕ)
    → Same (some_non_zero (drop (count ATTRIBUTES set) cells)) (NonZeroUnneeded set cells)
same_unneeded set cells = record {
  yes = λ e.
      let p = nonzero_yes (drop (count ATTRIBUTES set) cells) e in
      record {
        place = count ATTRIBUTES set + p.0;
        unneeded = omega arith;
        non_zero = λ z. p.1 (get_or-drop (count ATTRIBUTES set) cells p.0 0 ∙ z);
      };
  no = λ e u. u.non_zero (unneeded_zero (count ATTRIBUTES set) cells e u.place u.unneeded);
}

module _ (kinds : List ℕ) (set : ℕ) (cells : List ℕ) where
  outside_yes : (k : ℕ) → k ≤ ATTRIBUTES → some_outside kinds set cells k ≡ true → OutsideItsKind kinds set cells
  unfolding some_outside
  outside_yes zero h e = absurd (yes_no e refl)
  outside_yes (suc k) h e =
      ⊎_elim (λ y. outside_yes k (omega arith) y) here
      (yes_or (some_outside kinds set cells k) (has set k && not (in_range (get_or kinds k 0) (cell_of set cells k))) e)
    where
      here : (has set k && not (in_range (get_or kinds k 0) (cell_of set cells k))) ≡ true → OutsideItsKind kinds set cells
      here y =
          let both = yes_and (has set k) (not (in_range (get_or kinds k 0) (cell_of set cells k))) y in
          record {
            attribute = k;
            below = h;
            member = yes_has set k both.0;
            outside = not-true (in_range (get_or kinds k 0) (cell_of set cells k)) both.1;
          }

  pub outside_no : (k : ℕ) → some_outside kinds set cells k ≡ false → (a : ℕ) → a < k → a ∈ set
      → in_range (get_or kinds a 0) (cell_of set cells a) ≡ true
  unfolding some_outside
  outside_no zero e a h i = absurd (omega arith)
  outside_no (suc k) e a h i =
      ⊎_elim (λ q. last q (no_and (has set k) (not (in_range (get_or kinds k 0) (cell_of set cells k))) parts.1))
      (λ l. outside_no k parts.0 a l i) (eq-or-lt_of_le (le_of_suc-le-suc h))
    where
      parts : (some_outside kinds set cells k ≡ false)
          × ((has set k && not (in_range (get_or kinds k 0) (cell_of set cells k))) ≡ false)
      parts = no_or (some_outside kinds set cells k) (has set k && not (in_range (get_or kinds k 0) (cell_of set cells k))) e

      last : a ≡ k → (has set k ≡ false) ⊎ (not (in_range (get_or kinds k 0) (cell_of set cells k)) ≡ false)
          → in_range (get_or kinds a 0) (cell_of set cells a) ≡ true
      last q (inl n) = absurd (in_out i (subst (λ (x : ℕ). x ∉ set) (sym q) (no_has set k n)))
      last q (inr n) =
          subst (λ (x : ℕ). in_range (get_or kinds x 0) (cell_of set cells x) ≡ true) (sym q)
          (not-false (in_range (get_or kinds k 0) (cell_of set cells k)) n)

  same_outside : Same (some_outside kinds set cells ATTRIBUTES) (OutsideItsKind kinds set cells)
  same_outside = record {
    yes = outside_yes ATTRIBUTES (le_refl ATTRIBUTES);
    no = λ e o. yes_no (outside_no ATTRIBUTES e o.attribute o.below o.member) o.outside;
  }

  same_wrong : Same (wrong_cells kinds set cells) (NonZeroUnneeded set cells ⊎ OutsideItsKind kinds set cells)
  unfolding wrong_cells
  same_wrong = same_or (same_unneeded set cells) same_outside

-- ---- each kind

row_agrees : (s : Scheme) (object : ℕ) (cells : List ℕ) → Agree (row_checks s object cells) (row_conditions s object
    cells)
unfolding row_checks row_conditions
row_agrees s object cells =
    next (same_le OBJECTS object) (next (same_absent s.objects object)
    (next (same_wrong s.kinds (get_or s.sets object 0) cells) ended))

maximal_agrees : (s : Scheme) (n set : ℕ) → Agree (maximal_checks s n set) (maximal_conditions s n set)
unfolding maximal_checks maximal_conditions
maximal_agrees s n set = next (same_le 8 n) (next (same_empty set) (next (same_not_within set s.objects) ended))

same_rules : (table : List ℕ) → Same (not (keeps_rules table)) (TableRules table → ⊥)
same_rules table = record {
  yes = λ e r. yes_no ((rules_tested table).1 r) (not-true (keeps_rules table) e);
  no = λ e n. n ((rules_tested table).0 (not-false (keeps_rules table) e));
}

agrees : (s : Scheme) (r : Record) → Agree (checks s r) (conditions s r)
unfolding checks conditions
agrees s (OfBook (Attribute id kind)) =
    next (same_or (same_le ATTRIBUTES id) (same_lt 3 kind)) (next (same_has s.attributes id) ended)
agrees s (OfBook (Object number set)) =
    next (same_or_three (same_le OBJECTS number) (same_empty set) (same_lt 6 (count ATTRIBUTES set)))
    (next (same_has s.objects number) (next (same_not_within set s.attributes) ended))
agrees s (OfBook (Dependency left right)) =
    next (same_le 64 s.dependencies) (next (same_or (same_empty left) (same_empty right))
    (next (same_or (same_not_within left s.attributes) (same_not_within right s.attributes)) ended))
agrees s (OfBook (Row object c0 c1 c2 c3 c4 c5)) = row_agrees s object (c0 ∷ c1 ∷ c2 ∷ c3 ∷ c4 ∷ c5 ∷ [])
agrees s (OfBook (Declared set)) = maximal_agrees s s.maximal.declarations set
agrees s (OfBook (Removed set)) = maximal_agrees s s.maximal.removals set
agrees s (OfBook (ComparisonTable names lengths angles dates)) =
    next (same_le 1 s.table.given) (next (same_rules (masks_of names lengths angles dates)) ended)
agrees s (OfBook OnlyDeclared) = ended
agrees s (OfBook (DeclaredWide set)) = maximal_agrees s s.maximal.declarations set
agrees s (OfQuery r) = next same_always ended

-- ---- the first

pub fault_first : (s : Scheme) (r : Record) → First (conditions s r) (fault_of s r)
unfolding fault_of
fault_first s r = first_agrees (agrees s r)

pub first_fault : (s : Scheme) (r : Record) {n : ℕ} → First (conditions s r) n → fault_of s r ≡ n
first_fault s r f = first_unique (conditions s r) (fault_first s r) f

-- ---- its range: a fault is a number from 2 to 7, or 20

two : RecordNumber 2
two = inl (omega arith)

four : RecordNumber 4
four = inl (omega arith)

five : RecordNumber 5
five = inl (omega arith)

six : RecordNumber 6
six = inl (omega arith)

seven : RecordNumber 7
seven = inl (omega arith)

between : (s : Scheme) (r : Record) → EachNumber RecordNumber (conditions s r)
unfolding EachNumber conditions row_conditions maximal_conditions
between s (OfBook (Attribute id kind)) = (five, (six, tt))
between s (OfBook (Object number set)) = (five, (six, (seven, tt)))
between s (OfBook (Dependency left right)) = (four, (five, (seven, tt)))
between s (OfBook (Row object c0 c1 c2 c3 c4 c5)) = (five, (seven, (five, tt)))
between s (OfBook (Declared set)) = (four, (five, (seven, tt)))
between s (OfBook (Removed set)) = (four, (five, (seven, tt)))
between s (OfBook (ComparisonTable names lengths angles dates)) = (four, (inr refl, tt))
between s (OfBook OnlyDeclared) = tt
between s (OfBook (DeclaredWide set)) = (four, (five, (seven, tt)))
between s (OfQuery r) = (two, tt)

pub fault_between : (s : Scheme) (r : Record) → (fault_of s r ≡ 0 → ⊥) → RecordNumber (fault_of s r)
fault_between s r d = first_number RecordNumber (conditions s r) (fault_of s r) (between s r) (fault_first s r) d
