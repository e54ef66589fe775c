-- Laws of the comparison table, in the order of `specs/Table.antt`.
-- In order: a test below a bound, what a table allows, the paper's rule of the built-in table and that the table has it,
-- the rules of a table and their test, sides turned, what the code tests.
-- Assumes nothing.
use Rattle.std.proofs.Common.{◌≡◌, ℕ, zero, suc, ◌+◌, ◌*◌, ◌/◌, ◌%◌, ◌^◌, ◌<◌, ◌≤◌, Bool, true, false, not, ◌&&◌, ◌||◌, eqb, ltb, ◌⊎◌, ◌↔◌, List, get_or, sym, refl, ap, ◌∙◌, subst, inl, inr, true≢false, arith}
use mathlib.Core.Bool.{and-false, and-eq-true_iff, beq}
use native.Mathlib.Decide.{ℕ_discrete, dec_lt}
use borrow.Author.Tests as Tests
use Rattle.values.specs.Values.{name_kind, length_kind, angle_kind, date_kind}
use Rattle.values.specs.Operators.{Operator, operator_number, mirror}
use Rattle.values.specs.Table.{mask_has, mask_at, allows, built_in, TableRules, mirrored, entry_keeps, every_below, keeps_rules}
use Rattle.values.proofs.Operators.{operator_cases, numbered, number_below}

-- ---- a test below a bound

pub every_below_law : (n : ℕ) (test : ℕ → Bool) → every_below n test ≡ true → (k : ℕ) → k < n → test k ≡ true
unfolding every_below
every_below_law zero test e k h = absurd (omega arith)
every_below_law (suc n) test e k h = by (ℕ_discrete k n) (every_below_law n test both.1 k)
  where
    both : (test n ≡ true) × (every_below n test ≡ true)
    both = (and-eq-true_iff (test n) (every_below n test)).0 e

    by : Dec (k ≡ n) → (k < n → test k ≡ true) → test k ≡ true
    by (yes p) below = subst (λ (m : ℕ). test m ≡ true) (sym p) both.0
    by (no f) below = below (omega arith)

pub below_every : (n : ℕ) (test : ℕ → Bool) → ((k : ℕ) → k < n → test k ≡ true) → every_below n test ≡ true
unfolding every_below
below_every zero test f = refl
below_every (suc n) test f =
    (and-eq-true_iff (test n) (every_below n test)).1
    (f n (omega arith), below_every n test (λ k h. f k (omega (arith, h))))

-- it fails where one number fails
pub one_fails : (n : ℕ) (test : ℕ → Bool) (k : ℕ) → k < n → test k ≡ false → every_below n test ≡ false
one_fails n test k h f = by (every_below n test) refl
  where
    by : (t : Bool) → every_below n test ≡ t → every_below n test ≡ false
    by false e = e
    by true e = absurd (true≢false (sym (every_below_law n test e k h) ∙ f))

-- the same of two and of three numbers at once
two_below : (m n : ℕ) (test : ℕ → ℕ → Bool) → every_below m (λ i. every_below n (test i)) ≡ true
    → (i j : ℕ) → i < m → j < n → test i j ≡ true
two_below m n test e i j h k = every_below_law n (test i) (every_below_law m (λ i. every_below n (test i)) e i h) j k

three_below : (m n o : ℕ) (test : ℕ → ℕ → ℕ → Bool)
    → every_below m (λ i. every_below n (λ j. every_below o (test i j))) ≡ true
    → (i j k : ℕ) → i < m → j < n → k < o → test i j k ≡ true
three_below m n o test e i j k h g f =
    every_below_law o (test i j) (two_below m n (λ i j. every_below o (test i j)) e i j h g) k f

beq_eq : (s t : Bool) → beq s t ≡ true → s ≡ t
beq_eq true true e = refl
beq_eq true false e = sym e
beq_eq false true e = e
beq_eq false false e = refl

eq_beq : {s t : Bool} → s ≡ t → beq s t ≡ true
eq_beq {s} {t} e = subst (λ (u : Bool). beq s u ≡ true) e (same s)
  where
    same : (u : Bool) → beq u u ≡ true
    same true = refl
    same false = refl

-- ---- what a table allows

pub allows_over : (table : List ℕ) (operator left right : ℕ) → 5 < operator → allows table operator left right ≡ false
unfolding allows
allows_over table operator left right h = rw (Tests.le-ltb operator 6 (omega arith))

pub allows_no_left : (table : List ℕ) (operator left right : ℕ) → 3 < left → allows table operator left right ≡ false
unfolding allows
allows_no_left table operator left right h = simp (Tests.le-ltb left 4 (omega arith), and-false)

pub allows_no_right : (table : List ℕ) (operator left right : ℕ) → 3 < right → allows table operator left right ≡ false
unfolding allows
allows_no_right table operator left right h = simp (Tests.le-ltb right 4 (omega arith), and-false)

pub allows_at : (table : List ℕ) (operator left right : ℕ) → operator < 6 → left < 4 → right < 4
    → mask_has (mask_at table left right) operator ≡ allows table operator left right
unfolding allows
allows_at table operator left right o l r =
    sym (rw (Tests.lt-ltb operator 6 o, Tests.lt-ltb left 4 l, Tests.lt-ltb right 4 r))

-- what is allowed is one of the six, between two of the four kinds
pub allows_known : (table : List ℕ) (operator left right : ℕ) → allows table operator left right ≡ true
    → (operator < 6) × (left < 4) × (right < 4)
unfolding allows
allows_known table operator left right e =
    let rest =
    (and-eq-true_iff (ltb operator 6 && ltb left 4 && ltb right 4) (mask_has (mask_at table left right) operator)).0 e in
    let rest2 = (and-eq-true_iff (ltb operator 6 && ltb left 4) (ltb right 4)).0 rest.0 in
    let rest3 = (and-eq-true_iff (ltb operator 6) (ltb left 4)).0 rest2.0 in
    (Tests.ltb-true operator 6 rest3.0, Tests.ltb-true left 4 rest3.1, Tests.ltb-true right 4 rest2.1)

-- ---- the built-in table

-- the paper's rule: 0 and 1 within names and within angles, all six within lengths and within dates
unfoldable pub rule : ℕ → ℕ → ℕ → Bool
rule operator left right =
    eqb left right
    && ((eqb left name_kind || eqb left angle_kind) && ltb operator 2 || (eqb left length_kind || eqb left date_kind) && ltb operator 6)

pub rule_none : (operator left right : ℕ) → ¬ (left ≡ right) → rule operator left right ≡ false
unfolding rule
rule_none operator left right f = rw (Tests.ne_eqb left right f)

rule_over : (operator left right : ℕ) → 5 < operator → rule operator left right ≡ false
unfolding rule
rule_over operator left right h =
    simp (Tests.le-ltb operator 2 (omega arith), Tests.le-ltb operator 6 (omega arith), and-false)

pub rule_no_left : (operator left right : ℕ) → 3 < left → rule operator left right ≡ false
unfolding rule
rule_no_left operator left right h =
    simp (
      Tests.ne_eqb left name_kind (omega arith),
      Tests.ne_eqb left length_kind (omega arith),
      Tests.ne_eqb left angle_kind (omega arith),
      Tests.ne_eqb left date_kind (omega arith),
      and-false,
    )

rule_no_right : (operator left right : ℕ) → 3 < right → rule operator left right ≡ false
rule_no_right operator left right h = by (ℕ_discrete left right)
  where
    by : Dec (left ≡ right) → rule operator left right ≡ false
    by (yes e) = rule_no_left operator left right (omega arith)
    by (no f) = rule_none operator left right f

-- one test over all entries and operators, which antt computes
rule_at : (operator left right : ℕ) → operator < 6 → left < 4 → right < 4
    → mask_has (mask_at built_in left right) operator ≡ rule operator left right
unfolding rule every_below built_in
rule_at operator left right o l r =
    beq_eq _ _
    (three_below 4 4 6 (λ left right operator. beq (mask_has (mask_at built_in left right) operator) (rule operator left right))
    refl left right operator l r o)

pub built_in_rule : (operator left right : ℕ) → allows built_in operator left right ≡ rule operator left right
built_in_rule operator left right = by (dec_lt operator 6) (dec_lt left 4) (dec_lt right 4)
  where
    by : Dec (operator < 6) → Dec (left < 4) → Dec (right < 4)
        → allows built_in operator left right ≡ rule operator left right
    by (no f) l r = allows_over built_in operator left right (omega arith) ∙ sym (rule_over operator left right (omega arith))
    by (yes o) (no f) r =
        allows_no_left built_in operator left right (omega arith) ∙ sym (rule_no_left operator left right (omega arith))
    by (yes o) (yes l) (no f) =
        allows_no_right built_in operator left right (omega arith) ∙ sym (rule_no_right operator left right (omega arith))
    by (yes o) (yes l) (yes r) = sym (allows_at built_in operator left right o l r) ∙ rule_at operator left right o l r

-- ---- within names and within angles, within lengths and within dates

-- a test that passes for numbers below 2 passes for equal and unequal, and for no other
pub below_two : {t : Bool} (operator : ℕ) → t ≡ ltb operator 2 → (t ≡ true) ↔ ((operator ≡ 0) ⊎ (operator ≡ 1))
below_two operator e =
    (λ p. by operator (Tests.ltb-true operator 2 (sym e ∙ p)), λ s. e ∙ Tests.lt-ltb operator 2 (back s))
  where
    by : (n : ℕ) → n < 2 → (n ≡ 0) ⊎ (n ≡ 1)
    by zero h = inl refl
    by (suc zero) h = inr refl
    by (suc (suc n)) h = absurd (omega arith)

    back : (operator ≡ 0) ⊎ (operator ≡ 1) → operator < 2
    back (inl h) = omega arith
    back (inr h) = omega arith

-- a test that passes for numbers below 6 passes for all six operators, and for no other number
pub below_six : {t : Bool} (operator : ℕ) → t ≡ ltb operator 6
    → (t ≡ true) ↔ ((o : Operator) × (operator_number o ≡ operator))
below_six operator e =
    (λ p. numbered operator (Tests.ltb-true operator 6 (sym e ∙ p)), λ s. e ∙ Tests.lt-ltb operator 6 (back s))
  where
    back : (o : Operator) × (operator_number o ≡ operator) → operator < 6
    back (o, h) = omega (arith, number_below o)

pub within_two : (operator kind : ℕ) → rule operator kind kind ≡ ltb operator 2
    → (allows built_in operator kind kind ≡ true) ↔ ((operator ≡ 0) ⊎ (operator ≡ 1))
within_two operator kind e = below_two operator (built_in_rule operator kind kind ∙ e)

pub within_six : (operator kind : ℕ) → rule operator kind kind ≡ ltb operator 6
    → (allows built_in operator kind kind ≡ true) ↔ ((o : Operator) × (operator_number o ≡ operator))
within_six operator kind e = below_six operator (built_in_rule operator kind kind ∙ e)

-- ---- the rules of a table

-- the mirrors of a mask are its operators mirrored
mirrored_has : (mask operator : ℕ) → mask < 64 → operator < 6
    → mask_has (mirrored mask) (mirror operator) ≡ mask_has mask operator
unfolding every_below mirrored mirror
mirrored_has mask operator m o =
    beq_eq _ _
    (two_below 64 6 (λ mask operator. beq (mask_has (mirrored mask) (mirror operator)) (mask_has mask operator)) refl
    mask operator m o)

-- a mask has the mirrors of another's operators
unfoldable has_mirrors_law : ℕ → ℕ → Bool
has_mirrors_law mask other = every_below 6 (λ operator. beq (mask_has other (mirror operator)) (mask_has mask operator))

-- and no other mask has just those
only_here : (mask other : ℕ) → mask < 64 → other < 64 → (not (has_mirrors_law mask other) || eqb (mirrored mask) other) ≡ true
unfolding every_below mirrored mirror has_mirrors_law
only_here = λ mask other m h. two_below 64 64 (λ mask other. not (has_mirrors_law mask other) || eqb (mirrored mask) other) refl
    mask other m h

has_mirrors : (mask other : ℕ)
    → ((operator : ℕ) → operator < 6 → mask_has other (mirror operator) ≡ mask_has mask operator)
    → has_mirrors_law mask other ≡ true
unfolding has_mirrors_law
has_mirrors mask other f =
    below_every 6 (λ operator. beq (mask_has other (mirror operator)) (mask_has mask operator))
    (λ operator o. eq_beq (f operator o))

only_mirrored : (mask other : ℕ) → mask < 64 → other < 64
    → ((operator : ℕ) → operator < 6 → mask_has other (mirror operator) ≡ mask_has mask operator)
    → mirrored mask ≡ other
only_mirrored mask other m h f =
    Tests.eqb-true (mirrored mask) other
    (subst (λ (t : Bool). (not t || eqb (mirrored mask) other) ≡ true) (has_mirrors mask other f) (only_here mask other m h))

entry_parts : (table : List ℕ) (i : ℕ) → entry_keeps table i ≡ true
    → (get_or table i 0 < 64) × (mirrored (get_or table i 0) ≡ get_or table (i % 4 * 4 + i / 4) 0)
    × (i % 5 ≡ 0 → get_or table i 0 % 2 ≡ 1)
unfolding entry_keeps
entry_parts table i e =
    let turned = eqb (mirrored (get_or table i 0)) (get_or table (i % 4 * 4 + i / 4) 0) in
    let own = not (eqb (i % 5) 0) || eqb (get_or table i 0 % 2) 1 in
    let rest = (and-eq-true_iff (ltb (get_or table i 0) 64 && turned) own).0 e in
    let rest2 = (and-eq-true_iff (ltb (get_or table i 0) 64) turned).0 rest.0 in (
      Tests.ltb-true _ 64 rest2.0,
      Tests.eqb-true _ _ rest2.1,
      λ z. Tests.eqb-true _ 1
          (subst (λ (t : Bool). (not t || eqb (get_or table i 0 % 2) 1) ≡ true) (Tests.eq-eqb (i % 5) 0 z) rest.1),
    )

entry_whole : (table : List ℕ) (i : ℕ) → get_or table i 0 < 64
    → mirrored (get_or table i 0) ≡ get_or table (i % 4 * 4 + i / 4) 0 → (i % 5 ≡ 0 → get_or table i 0 % 2 ≡ 1)
    → entry_keeps table i ≡ true
unfolding entry_keeps
entry_whole table i c m o = rw (Tests.lt-ltb (get_or table i 0) 64 c, Tests.eq-eqb _ _ m) (by (ℕ_discrete (i % 5) 0))
  where
    by : Dec (i % 5 ≡ 0) → (not (eqb (i % 5) 0) || eqb (get_or table i 0 % 2) 1) ≡ true
    by (no f) = rw (Tests.ne_eqb (i % 5) 0 f)
    by (yes z) = rw (Tests.eq-eqb (i % 5) 0 z, Tests.eq-eqb _ 1 (o z))

module _ (table : List ℕ) where
  keeps_rules_fact : keeps_rules table ≡ true → TableRules table
  unfolding keeps_rules
  keeps_rules_fact e = record {
    clear = λ left right l r. (at (left * 4 + right) (omega (arith, l, r))).0;
    mirrors = λ operator left right o l r.
        let (c, m, w) = at (left * 4 + right) (omega (arith, l, r)) in
        let place : (left * 4 + right) % 4 * 4 + (left * 4 + right) / 4 ≡ right * 4 + left = omega (arith, l, r) in
        ap (λ (n : ℕ). mask_has n (mirror operator)) (ap (λ (n : ℕ). get_or table n 0) (sym place) ∙ sym m)
        ∙ mirrored_has (mask_at table left right) operator c o;
    equals = λ kind h.
        let (c, m, w) = at (kind * 4 + kind) (omega (arith, h)) in
        Tests.eq-eqb (mask_at table kind kind / 2 ^ 0 % 2) 1 (omega (arith, w (omega arith)));
  }
    where
      at : (i : ℕ) → i < 16 → (get_or table i 0 < 64) × (mirrored (get_or table i 0) ≡ get_or table (i % 4 * 4 + i / 4) 0)
          × (i % 5 ≡ 0 → get_or table i 0 % 2 ≡ 1)
      at i h = entry_parts table i (every_below_law 16 (entry_keeps table) e i h)

  rules_keep : TableRules table → keeps_rules table ≡ true
  unfolding keeps_rules
  rules_keep R = below_every 16 (entry_keeps table) λ i h. keep i h
    where
      keep : (i : ℕ) → i < 16 → entry_keeps table i ≡ true
      keep i h =
          let place : i / 4 * 4 + i % 4 ≡ i = omega arith in
          let here : get_or table i 0 ≡ mask_at table (i / 4) (i % 4) = ap (λ (n : ℕ). get_or table n 0) (sym place) in
          let l : i / 4 < 4 = omega (arith, h) in
          let r : i % 4 < 4 = omega arith in
          let below = R.clear (i / 4) (i % 4) l r in
          entry_whole table i (omega (arith, here, below))
          (ap mirrored here
          ∙ only_mirrored _ _ below (R.clear (i % 4) (i / 4) r l) (λ operator o. R.mirrors operator (i / 4) (i % 4) o l r))
          (λ z.
          let same : i / 4 ≡ i % 4 = omega (arith, z, h) in
          let one = Tests.eqb-true (mask_at table (i / 4) (i / 4) / 2 ^ 0 % 2) 1 (R.equals (i / 4) l) in
          let there : get_or table i 0 ≡ mask_at table (i / 4) (i / 4) =
          ap (λ (n : ℕ). get_or table n 0) (omega (arith, z, h)) in
          omega (arith, there, one))

  pub rules_tested : (keeps_rules table ≡ true) ↔ TableRules table
  rules_tested = (keeps_rules_fact, rules_keep)

pub built_in_keeps : TableRules built_in
unfolding keeps_rules every_below entry_keeps mirrored built_in
built_in_keeps = (rules_tested built_in).0 refl

-- ---- sides turned

mirror_below : (operator : ℕ) → ltb (mirror operator) 6 ≡ ltb operator 6
unfolding mirror
mirror_below = operator_cases (λ n. ltb (mirror n) 6 ≡ ltb n 6) refl refl refl refl refl refl (λ n. refl)

pub allows_mirror : (table : List ℕ) → TableRules table → (operator left right : ℕ)
    → allows table (mirror operator) right left ≡ allows table operator left right
allows_mirror table R operator left right = by (dec_lt operator 6) (dec_lt left 4) (dec_lt right 4)
  where
    by : Dec (operator < 6) → Dec (left < 4) → Dec (right < 4)
        → allows table (mirror operator) right left ≡ allows table operator left right
    by (no f) l r =
        allows_over table (mirror operator) right left
        (omega (arith, Tests.ltb-false (mirror operator) 6 (mirror_below operator ∙ Tests.le-ltb operator 6 (omega arith))))
        ∙ sym (allows_over table operator left right (omega arith))
    by (yes o) (no f) r =
        allows_no_right table (mirror operator) right left (omega arith)
        ∙ sym (allows_no_left table operator left right (omega arith))
    by (yes o) (yes l) (no f) =
        allows_no_left table (mirror operator) right left (omega arith)
        ∙ sym (allows_no_right table operator left right (omega arith))
    by (yes o) (yes l) (yes r) =
        sym (allows_at table (mirror operator) right left
        (Tests.ltb-true (mirror operator) 6 (mirror_below operator ∙ Tests.lt-ltb operator 6 o)) r l)
        ∙ R.mirrors operator left right o l r
        ∙ allows_at table operator left right o l r

-- ---- what the code tests

pub allows_tested : (table : List ℕ) (operator left right : ℕ) → operator ≤ 5 → left ≤ 3 → right ≤ 3
    → mask_has (get_or table (left * 4 + right) 0) operator ≡ allows table operator left right
allows_tested table operator left right o l r =
    allows_at table operator left right (omega arith) (omega arith) (omega arith)

pub keeps_over : (table : List ℕ) (i : ℕ) → 63 < get_or table i 0 → entry_keeps table i ≡ false
unfolding entry_keeps
keeps_over table i h = rw (Tests.le-ltb (get_or table i 0) 64 (omega arith))

pub keeps_other : (table : List ℕ) (i : ℕ) {m : ℕ} → m ≡ mirrored (get_or table i 0)
    → ¬ (m ≡ get_or table (i % 4 * 4 + i / 4) 0) → entry_keeps table i ≡ false
unfolding entry_keeps
keeps_other table i e f = simp (Tests.ne_eqb _ _ (λ d. f (e ∙ d)), and-false)

pub keeps_last : (table : List ℕ) (i : ℕ) {m : ℕ} {t : Bool} → get_or table i 0 ≤ 63 → m ≡ mirrored (get_or table i 0)
    → m ≡ get_or table (i % 4 * 4 + i / 4) 0 → t ≡ (not (eqb (i % 5) 0) || eqb (get_or table i 0 % 2) 1)
    → t ≡ entry_keeps table i
unfolding entry_keeps
keeps_last table i h e d t = t ∙ sym (rw (Tests.lt-ltb (get_or table i 0) 64 (omega arith), Tests.eq-eqb _ _ (sym e ∙ d)))

pub not_own : (i : ℕ) (u : Bool) → ¬ (i % 5 ≡ 0)
    → not (eqb (i % 5) 0) ≡ (not (eqb (i % 5) 0) || u)
not_own i u f = rw (Tests.ne_eqb (i % 5) 0 f)

pub own : (i : ℕ) (u : Bool) → i % 5 ≡ 0 → u ≡ (not (eqb (i % 5) 0) || u)
own i u z = rw (Tests.eq-eqb (i % 5) 0 z)

-- the entries below i keep the rules
pub record KeptBelow (table : List ℕ) (i : ℕ) : Type 0 where
  pub each : (k : ℕ) → k < i → entry_keeps table k ≡ true
  pub within : i ≤ 16

pub kept_start : (table : List ℕ) → KeptBelow table 0
kept_start table = record { each = λ k h. absurd (omega (arith, h)); within = omega arith }

pub kept_next : {table : List ℕ} {i : ℕ} {t : Bool} → KeptBelow table i → i < 16 → t ≡ entry_keeps table i → t ≡ true
    → KeptBelow table (i + 1)
kept_next {table} {i} K h e y = record {
  each = λ k l. by k l (ℕ_discrete k i);
  within = omega (arith, h);
}
  where
    by : (k : ℕ) → k < i + 1 → Dec (k ≡ i) → entry_keeps table k ≡ true
    by k l (yes p) = ap (entry_keeps table) p ∙ sym e ∙ y
    by k l (no f) = K.each k (omega arith)

pub kept_not : (table : List ℕ) (i : ℕ) {t : Bool} → i < 16 → t ≡ entry_keeps table i → t ≡ false
    → false ≡ keeps_rules table
unfolding keeps_rules
kept_not table i h e n = sym (one_fails 16 (entry_keeps table) i h (sym e ∙ n))

pub kept_end : {table : List ℕ} {i : ℕ} → KeptBelow table i → 16 ≤ i → true ≡ keeps_rules table
unfolding keeps_rules
kept_end {table} K h = sym (below_every 16 (entry_keeps table) (λ k l. K.each k (omega (arith, l, h))))

-- ---- by its byte

pub allows_by_byte : (table : List ℕ) (operator left right : ℕ) → operator < 6 → left < 4 → right < 4
    → (allows table operator left right ≡ true) ↔ (get_or table (4 * left + right) 0 / 2 ^ operator % 2 ≡ 1)
allows_by_byte table operator left right o l r =
    let place : left * 4 + right ≡ 4 * left + right = omega arith in
    let here : get_or table (left * 4 + right) 0 ≡ get_or table (4 * left + right) 0 = ap (λ (n : ℕ). get_or table n 0) place in
    let byte = ap (λ (n : ℕ). eqb (n / 2 ^ operator % 2) 1) here in
    let same = allows_at table operator left right o l r in
    (λ e. Tests.eqb-true _ 1 (sym byte ∙ same ∙ e), λ e. sym same ∙ byte ∙ Tests.eq-eqb _ 1 e)
