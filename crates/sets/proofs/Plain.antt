-- The plain form of the test of containment, attribute by attribute, and that it agrees with the arithmetic test.
-- In order: one attribute, all attributes below a width, agreement, the loop.
-- Assumes nothing.
use mathlib.Core.Path.{◌≡◌, refl, sym, ap, ◌∙◌, subst}
use mathlib.Core.Bool.{true, false, not, ◌||◌}
use mathlib.Core.Logic.{⊎_elim}
use Prim.Native.Nat.{ℕ, zero, suc, ◌+◌, ◌^◌, ◌≤◌, ◌<◌}
use native.Mathlib.Nat.{le_antisymm}
use native.Mathlib.Numerals.{add-one}
use native.Mathlib.Omega.{arith}
use Rattle.sets.specs.Sets.{◌∈◌, has, within, within_each, ATTRIBUTES}
use Rattle.sets.proofs.Numbers.{eq_or_ne}
use Rattle.sets.proofs.Bits.{member_or_not, member_lt}
use Rattle.sets.proofs.Tests.{yes_or_no, yes_no, not_yes, and_yes, yes_and, or_left, or_right, yes_or}
use Rattle.sets.proofs.Sets.{has_yes, has_no, yes_has, yes_within, no_within}

-- ---- one attribute

one_yes : {s t w : ℕ} → (w ∈ s → w ∈ t) → (not (has s w) || has t w) ≡ true
one_yes {s} {t} {w} f =
    ⊎_elim (λ i. or_right (not (has s w)) (has_yes (f i))) (λ o. or_left (has t w) (ap not (has_no o)))
    (member_or_not w s)

yes_one : (s t w : ℕ) → (not (has s w) || has t w) ≡ true → w ∈ s → w ∈ t
yes_one s t w y i =
    ⊎_elim (λ n. absurd (yes_no n (ap not (has_yes i)))) (yes_has t w) (yes_or (not (has s w)) (has t w) y)

-- ---- all attributes below a width

pub each_yes : (w s t : ℕ) → ((k : ℕ) → k < w → k ∈ s → k ∈ t) → within_each w s t ≡ true
unfolding within_each
each_yes zero s t f = refl
each_yes (suc w) s t f = and_yes (one_yes (f w (omega arith))) (each_yes w s t (λ k h. f k (omega (arith, h))))

pub yes_each : (w s t : ℕ) → within_each w s t ≡ true → (k : ℕ) → k < w → k ∈ s → k ∈ t
unfolding within_each
yes_each zero s t y k h i = absurd (omega (arith, h))
yes_each (suc w) s t y k h i =
    let p = yes_and (not (has s w) || has t w) (within_each w s t) y in
    ⊎_elim (λ e. subst (λ (j : ℕ). j ∈ t) (sym e) (yes_one s t w p.0 (subst (λ (j : ℕ). j ∈ s) e i)))
    (λ d. yes_each w s t p.1 k (omega (arith, h, d)) i) (eq_or_ne k w)

-- ---- agreement

pub plain_agrees : (w s t : ℕ) → s < 2 ^ w → within_each w s t ≡ within s t
plain_agrees w s t h =
    ⊎_elim (λ y. each_yes w s t (λ k l i. (yes_within s t y).each i) ∙ sym y)
    (λ n. not_yes (λ y. no_within n (record { each = λ {k} i. yes_each w s t y k (member_lt w h i) i })) ∙ sym n)
    (yes_or_no (within s t))

-- ---- the loop: the attributes below k are asked

pub record EachSoFar (s t k : ℕ) : Type 0 where
  pub inside : k ≤ ATTRIBUTES
  pub so : within_each k s t ≡ true

pub each_start : (s t : ℕ) → EachSoFar s t 0
unfolding within_each
each_start s t = record { inside = omega arith; so = refl }

module _ {s t k : ℕ} (v : EachSoFar s t k) (h : k < ATTRIBUTES) where
  pub each_next : (k ∈ s → k ∈ t) → EachSoFar s t (k + 1)
  unfolding within_each
  each_next f = record {
    inside = omega (arith, h);
    so = ap (λ (n : ℕ). within_each n s t) (add-one k) ∙ and_yes (one_yes f) v.so;
  }

  pub each_failed : k ∈ s → (k ∈ t → ⊥) → within_each ATTRIBUTES s t ≡ false
  each_failed i d = not_yes (λ y. d (yes_each ATTRIBUTES s t y k h i))

pub each_end : {s t k : ℕ} → EachSoFar s t k → ATTRIBUTES ≤ k → within_each ATTRIBUTES s t ≡ true
each_end {s} {t} v h = ap (λ (n : ℕ). within_each n s t) (sym (le_antisymm v.inside h)) ∙ v.so
