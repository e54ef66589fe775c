-- Laws of operators, in the order of `specs/Operators.antt`.
-- In order: numbers of operators, missing cells, what an operator means, its test on raised numbers, sides turned,
-- contraries.
-- Assumes nothing.
use Rattle.std.proofs.Common.{◌≡◌, ℕ, zero, suc, ◌^◌, ◌<◌, Bool, true, false, not, ◌&&◌, ◌||◌, eqb, ltb, leb, ◌⊎◌, ◌↔◌, [], ◌∷◌, get_or, ℤ, sym, refl, ap, ◌∙◌, ap₂, inl, inr, true≢false, arith, lit<}
use mathlib.Core.Bool.{not-not, and_comm, and-false, or_comm}
use mathlib.Core.Bool.{or-true}
use mathlib.Core.Logic.Iff
use lib.ListN.{get_or-eq_default}
use lib.Signed.{lt_z, le_z}
use borrow.Author.Tests as Tests
use Rattle.values.specs.Values.{missing, value_of, raised}
use Rattle.values.specs.Operators.{Operator, equal, unequal, less, at_most, greater, at_least, operator_number}
use Rattle.values.specs.Operators.{Means, eq_z, compares, holds, mirror, opposite}
use Rattle.values.specs.Statements.{BothStated}
use Rattle.values.proofs.Tests.{not_true, yes_both, yes_not, le_z_not_lt_z, lt_z_not_le_z, eq_z_not_lt_z}
use Rattle.values.proofs.Tests.{lt_z_true, le_z_true, eq_z_true}
use Rattle.values.proofs.Values.{raised_lt, raised_le, raised_eq, raised_injective}

-- ---- numbers of operators

-- a claim for the number of each operator, in their order, and for each number over 5
pub operator_cases : (P : ℕ → Type 0) → P 0 → P 1 → P 2 → P 3 → P 4 → P 5
    → ((n : ℕ) → P (suc (suc (suc (suc (suc (suc n))))))) → (operator : ℕ) → P operator
operator_cases P a b c d e f over zero = a
operator_cases P a b c d e f over (suc zero) = b
operator_cases P a b c d e f over (suc (suc zero)) = c
operator_cases P a b c d e f over (suc (suc (suc zero))) = d
operator_cases P a b c d e f over (suc (suc (suc (suc zero)))) = e
operator_cases P a b c d e f over (suc (suc (suc (suc (suc zero))))) = f
operator_cases P a b c d e f over (suc (suc (suc (suc (suc (suc n)))))) = over n

-- each number below 6 is the number of an operator
pub numbered : (operator : ℕ) → operator < 6 → (o : Operator) × (operator_number o ≡ operator)
unfolding operator_number
numbered operator =
    operator_cases (λ n. n < 6 → (o : Operator) × (operator_number o ≡ n))
    (λ h. (equal, refl)) (λ h. (unequal, refl)) (λ h. (less, refl))
    (λ h. (at_most, refl)) (λ h. (greater, refl)) (λ h. (at_least, refl))
    (λ n h. absurd (omega arith)) operator

pub number_below : (o : Operator) → operator_number o < 6
unfolding operator_number
number_below equal = lit< tt
number_below unequal = lit< tt
number_below less = lit< tt
number_below at_most = lit< tt
number_below greater = lit< tt
number_below at_least = lit< tt

-- ---- missing cells

module _ (operator kind kind2 a b : ℕ) where
  -- where neither cell is missing, the values are compared
  pub holds_stated : missing kind a ≡ false → missing kind2 b ≡ false
      → holds operator kind kind2 a b ≡ compares operator (value_of kind a) (value_of kind2 b)
  unfolding holds
  holds_stated m n = rw (m, n)

  -- where one is, nothing holds
  pub holds_none : (missing kind a ≡ true) ⊎ (missing kind2 b ≡ true) → holds operator kind kind2 a b ≡ false
  unfolding holds
  holds_none (inl m) = rw m
  holds_none (inr n) = rw (n, or-true (missing kind a))

no_or : (m n : Bool) → m || n ≡ false → (m ≡ false) × (n ≡ false)
no_or true n h = absurd (true≢false h)
no_or false n h = (refl, h)

-- what holds, holds of cells that are there
pub holds_both : (operator kind kind2 a b : ℕ) → holds operator kind kind2 a b ≡ true
    → (missing kind a ≡ false) × (missing kind2 b ≡ false)
unfolding holds
holds_both operator kind kind2 a b e =
    no_or (missing kind a) (missing kind2 b)
    (yes_not (missing kind a || missing kind2 b)
    (yes_both (not (missing kind a || missing kind2 b)) (compares operator (value_of kind a) (value_of kind2 b)) e).0)

-- ---- what an operator means

compares_means : (o : Operator) (x y : ℤ) → (compares (operator_number o) x y ≡ true) ↔ Means o x y
unfolding compares operator_number Means
compares_means equal x y = eq_z_true x y
compares_means unequal x y = Iff.trans not_true (Iff.not (eq_z_true x y))
compares_means less x y = lt_z_true x y
compares_means at_most x y = le_z_true x y
compares_means greater x y = lt_z_true y x
compares_means at_least x y = le_z_true y x

pub holds_means : (o : Operator) (kind kind2 a b : ℕ)
    → (holds (operator_number o) kind kind2 a b ≡ true)
    ↔ (BothStated kind kind2 a b × Means o (value_of kind a) (value_of kind2 b))
holds_means o kind kind2 a b = (
  λ e.
      let (m, n) = holds_both (operator_number o) kind kind2 a b e in (
        (m, n),
        (compares_means o (value_of kind a) (value_of kind2 b)).0
            (sym (holds_stated (operator_number o) kind kind2 a b m n) ∙ e),
      ),
  λ ((m, n), h). holds_stated (operator_number o) kind kind2 a b m n
      ∙ (compares_means o (value_of kind a) (value_of kind2 b)).1 h,
)

-- the same by the operator's number
pub holds_means_number : (o : Operator) (operator left right a b : ℕ) → operator_number o ≡ operator
    → (holds operator left right a b ≡ true) ↔ (BothStated left right a b × Means o (value_of left a) (value_of right b))
holds_means_number o operator left right a b e = rw (← e) (holds_means o left right a b)

compares_over : (operator : ℕ) (x y : ℤ) → 5 < operator → compares operator x y ≡ false
unfolding compares
compares_over operator x y h =
    get_or-eq_default (eq_z x y ∷ not (eq_z x y) ∷ lt_z x y ∷ le_z x y ∷ lt_z y x ∷ le_z y x ∷ []) false h

-- a number over 5 is no operator
pub holds_over : (operator kind kind2 a b : ℕ) → 5 < operator → holds operator kind kind2 a b ≡ false
unfolding holds
holds_over operator kind kind2 a b h =
    rw (compares_over operator (value_of kind a) (value_of kind2 b) h)
    (and-false (not (missing kind a || missing kind2 b)))

-- ---- its test on raised numbers

-- the six tests on two numbers, in the order of the operators' numbers
abbrev pub compares_raised_law : ℕ → ℕ → ℕ → Bool
compares_raised_law operator x y =
    get_or (eqb x y ∷ not (eqb x y) ∷ ltb x y ∷ leb x y ∷ ltb y x ∷ leb y x ∷ []) operator false

compares_raised : (operator kind kind2 : ℕ) {a b : ℕ} → a < 2 ^ 32 → b < 2 ^ 32
    → compares_raised_law operator (raised kind a) (raised kind2 b) ≡ compares operator (value_of kind a) (value_of kind2 b)
unfolding compares
compares_raised operator kind kind2 {a} {b} p q =
    operator_cases
    (λ n. compares_raised_law n (raised kind a) (raised kind2 b) ≡ compares n (value_of kind a) (value_of kind2 b))
    (raised_eq kind kind2 p q) (ap not (raised_eq kind kind2 p q)) (raised_lt kind kind2 p q) (raised_le kind kind2 p q)
    (raised_lt kind2 kind q p) (raised_le kind2 kind q p) (λ n. refl) operator

-- the test that the code makes for operator n, on numbers that it has computed
pub holds_at : (n operator kind kind2 left right : ℕ) {a b : ℕ} {s t : Bool} → operator ≡ n
    → a ≡ raised kind left → b ≡ raised kind2 right → s ≡ missing kind left → s ≡ false → t ≡ missing kind2 right
    → t ≡ false → left < 2 ^ 32 → right < 2 ^ 32 → compares_raised_law n a b ≡ holds operator kind kind2 left right
holds_at n operator kind kind2 left right {a} {b} e d f g y h z p q =
    ap₂ (compares_raised_law n) d f ∙ ap (λ (m : ℕ). compares_raised_law m (raised kind left) (raised kind2 right)) (sym e)
    ∙ compares_raised operator kind kind2 p q
    ∙ sym (holds_stated operator kind kind2 left right (sym g ∙ y) (sym h ∙ z))

-- equality within one kind is that of the cells
pub holds_equal : (kind : ℕ) {a b : ℕ} → a < 2 ^ 32 → b < 2 ^ 32 → holds 0 kind kind a b ≡ true → a ≡ b
unfolding compares
holds_equal kind {a} {b} p q e =
    let (m, n) = holds_both 0 kind kind a b e in
    raised_injective kind p q
    (Tests.eqb-true (raised kind a) (raised kind b)
    (raised_eq kind kind p q ∙ sym (holds_stated 0 kind kind a b m n) ∙ e))

-- ---- sides turned

eq_z_comm : (x y : ℤ) → eq_z x y ≡ eq_z y x
eq_z_comm x y = eq_z_not_lt_z x y ∙ and_comm (not (lt_z x y)) (not (lt_z y x)) ∙ sym (eq_z_not_lt_z y x)

compares_mirror : (operator : ℕ) (x y : ℤ) → compares (mirror operator) y x ≡ compares operator x y
unfolding compares mirror
compares_mirror operator x y =
    operator_cases (λ n. compares (mirror n) y x ≡ compares n x y)
    (eq_z_comm y x) (ap not (eq_z_comm y x)) refl refl refl refl (λ n. refl) operator

pub holds_mirror : (operator kind kind2 a b : ℕ)
    → holds (mirror operator) kind2 kind b a ≡ holds operator kind kind2 a b
unfolding holds
holds_mirror operator kind kind2 a b =
    ap₂ (λ (s t : Bool). not s && t) (or_comm (missing kind2 b) (missing kind a))
    (compares_mirror operator (value_of kind a) (value_of kind2 b))

-- ---- contraries

compares_opposite : (operator : ℕ) (x y : ℤ) → operator < 6
    → compares (opposite operator) x y ≡ not (compares operator x y)
unfolding compares opposite
compares_opposite operator x y =
    operator_cases (λ n. n < 6 → compares (opposite n) x y ≡ not (compares n x y))
    (λ h. refl) (λ h. sym (not-not (eq_z x y))) (λ h. le_z_not_lt_z y x)
    (λ h. lt_z_not_le_z y x) (λ h. le_z_not_lt_z x y) (λ h. lt_z_not_le_z x y)
    (λ n h. absurd (omega arith)) operator

pub holds_opposite : (operator kind kind2 a b : ℕ) → operator < 6 → BothStated kind kind2 a b
    → holds (opposite operator) kind kind2 a b ≡ not (holds operator kind kind2 a b)
holds_opposite operator kind kind2 a b h (m, n) =
    holds_stated (opposite operator) kind kind2 a b m n
    ∙ compares_opposite operator (value_of kind a) (value_of kind2 b) h
    ∙ ap not (sym (holds_stated operator kind kind2 a b m n))
