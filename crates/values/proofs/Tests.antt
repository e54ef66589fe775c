-- Laws of the tests of numbers and of integers that the laws of values and operators rest on.
-- In order: truth values, numbers, integers, a test of integers and the fact that it decides.
-- Assumes nothing.
use Rattle.std.proofs.Common.{◌≡◌, ℕ, ◌<◌, Bool, true, false, not, ◌&&◌, T, eqb, ltb, leb, ◌↔◌, ℤ, pos, negsuc, ◌≤ℤ◌, ◌<ℤ◌, sym, refl, ap, ◌∙◌, subst, arith, le→leb, ltb→lt}
use mathlib.Core.Bool.{and_comm, not-not, false≢true}
use lib.Signed.{lt_z, le_z, lt_z_yes, le_z_yes}
use borrow.Author.Tests as Tests
use Rattle.values.specs.Operators.{eq_z}

-- ---- truth values

true_T : {t : Bool} → t ≡ true → T t
true_T e = subst T (sym e) tt

pub T_true : {t : Bool} → T t → t ≡ true
T_true {t = true} h = refl
T_true {t = false} h = absurd h

pub not_true : {t : Bool} → (not t ≡ true) ↔ ¬ (t ≡ true)
not_true {t = true} = (λ e. absurd (false≢true e), λ f. absurd (f refl))
not_true {t = false} = (λ e f. false≢true f, λ f. refl)

pub yes_both : (s t : Bool) → s && t ≡ true → (s ≡ true) × (t ≡ true)
yes_both true t e = (refl, e)
yes_both false t e = absurd (false≢true e)

pub yes_not : (t : Bool) → not t ≡ true → t ≡ false
yes_not true e = absurd (false≢true e)
yes_not false e = refl

-- two tests that pass at the same time
same_truth : {s t : Bool} → (s ≡ true → t ≡ true) → (t ≡ true → s ≡ true) → s ≡ t
same_truth {s = true} {t = true} there back = refl
same_truth {s = true} {t = false} there back = sym (there refl)
same_truth {s = false} {t = true} there back = back refl
same_truth {s = false} {t = false} there back = refl

-- ---- numbers

pub ltb_same : (a b c d : ℕ) → (a < b → c < d) → (c < d → a < b) → ltb a b ≡ ltb c d
ltb_same a b c d there back =
    same_truth
    (λ e. Tests.lt-ltb c d (there (Tests.ltb-true a b e)))
    (λ e. Tests.lt-ltb a b (back (Tests.ltb-true c d e)))

pub leb_not_ltb : (a b : ℕ) → leb a b ≡ not (ltb b a)
leb_not_ltb a b = by (ltb b a) refl
  where
    by : (t : Bool) → ltb b a ≡ t → leb a b ≡ not t
    by true e = Tests.lt-leb a b (Tests.ltb-true b a e)
    by false e = Tests.le-leb a b (Tests.ltb-false b a e)

pub eqb_not_ltb : (a b : ℕ) → eqb a b ≡ (not (ltb a b) && not (ltb b a))
eqb_not_ltb a b = by (ltb a b) (ltb b a) refl refl
  where
    by : (s t : Bool) → ltb a b ≡ s → ltb b a ≡ t → eqb a b ≡ (not s && not t)
    by true t e f = Tests.ne_eqb a b (omega (arith, Tests.ltb-true a b e))
    by false true e f = Tests.ne_eqb a b (omega (arith, Tests.ltb-true b a f))
    by false false e f = Tests.eq-eqb a b (omega (arith, Tests.ltb-false a b e, Tests.ltb-false b a f))

-- ---- integers

pub le_z_not_lt_z : (x y : ℤ) → le_z x y ≡ not (lt_z y x)
le_z_not_lt_z (pos a) (pos b) = leb_not_ltb a b
le_z_not_lt_z (pos a) (negsuc b) = refl
le_z_not_lt_z (negsuc a) (pos b) = refl
le_z_not_lt_z (negsuc a) (negsuc b) = leb_not_ltb b a

pub lt_z_not_le_z : (x y : ℤ) → lt_z x y ≡ not (le_z y x)
lt_z_not_le_z x y = sym (not-not (lt_z x y)) ∙ ap not (sym (le_z_not_lt_z y x))

pub eq_z_not_lt_z : (x y : ℤ) → eq_z x y ≡ (not (lt_z x y) && not (lt_z y x))
eq_z_not_lt_z (pos a) (pos b) = eqb_not_ltb a b
eq_z_not_lt_z (pos a) (negsuc b) = refl
eq_z_not_lt_z (negsuc a) (pos b) = refl
eq_z_not_lt_z (negsuc a) (negsuc b) = eqb_not_ltb a b ∙ and_comm (not (ltb a b)) (not (ltb b a))

lt_le : (x y : ℤ) → T (lt_z x y) → T (le_z x y)
lt_le (pos a) (pos b) h = le→leb a b (omega (arith, ltb→lt a b h))
lt_le (pos a) (negsuc b) h = h
lt_le (negsuc a) (pos b) h = tt
lt_le (negsuc a) (negsuc b) h = le→leb b a (omega (arith, ltb→lt b a h))

pub <ℤ_≤ℤ : {x y : ℤ} → x <ℤ y → x ≤ℤ y
<ℤ_≤ℤ {x} {y} h = le_z_yes (lt_le x y h.lt)

-- ---- a test of integers and the fact that it decides

pub lt_z_true : (x y : ℤ) → (lt_z x y ≡ true) ↔ (x <ℤ y)
lt_z_true x y = (λ e. lt_z_yes (true_T e), λ h. T_true h.lt)

pub le_z_true : (x y : ℤ) → (le_z x y ≡ true) ↔ (x ≤ℤ y)
le_z_true x y = (λ e. le_z_yes (true_T e), λ h. T_true h.le)

eq_z_refl : (x : ℤ) → eq_z x x ≡ true
eq_z_refl (pos a) = Tests.eq-eqb a a refl
eq_z_refl (negsuc a) = Tests.eq-eqb a a refl

eq_z_eq : (x y : ℤ) → eq_z x y ≡ true → x ≡ y
eq_z_eq (pos a) (pos b) e = ap pos (Tests.eqb-true a b e)
eq_z_eq (pos a) (negsuc b) e = absurd (false≢true e)
eq_z_eq (negsuc a) (pos b) e = absurd (false≢true e)
eq_z_eq (negsuc a) (negsuc b) e = ap negsuc (Tests.eqb-true a b e)

pub eq_z_true : (x y : ℤ) → (eq_z x y ≡ true) ↔ (x ≡ y)
eq_z_true x y = (eq_z_eq x y, λ h. subst (λ (z : ℤ). eq_z x z ≡ true) h (eq_z_refl x))
