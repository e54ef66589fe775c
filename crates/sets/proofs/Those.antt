-- The numbers below k that pass a test, as a set (`those`): who is one of them.
-- In order: one number more, who is one of them.
-- Assumes nothing.
use mathlib.Core.Path.{◌≡◌, refl, sym, ap, ◌∙◌, subst}
use mathlib.Core.Bool.{Bool, true, false}
use mathlib.Core.Logic.{◌⊎◌, inl, inr, ⊎_elim}
use Prim.Native.Nat.{ℕ, zero, suc, ◌<◌}
use native.Mathlib.Nat.{not-suc-le-zero}
use native.Mathlib.Omega.{arith}
use Rattle.sets.specs.Sets.{◌∈◌, single, insert, those}
use Rattle.sets.proofs.Tests.{yes_no}
use Rattle.sets.proofs.Numbers.{eq_or_ne}
use Rattle.sets.proofs.Bits.{in_out}
use Rattle.sets.proofs.Sets.{∪_left, ∪_cases, in_single, insert_in, zero_out}

-- ---- one number more

-- a set with n besides where a test passes
abbrev with_tested : ℕ → ℕ → Bool → ℕ
with_tested s n a = elim a [ true ↦ insert s n | false ↦ s ]

with_tested_only : {i : ℕ} (s n : ℕ) (a : Bool) → i ∈ with_tested s n a → (i ∈ s) ⊎ ((i ≡ n) × (a ≡ true))
with_tested_only s n true m = ⊎_elim inl (λ k. inr (in_single k, refl)) (∪_cases s (single n) m)
with_tested_only s n false m = inl m

with_tested_old : {i s : ℕ} (n : ℕ) (a : Bool) → i ∈ s → i ∈ with_tested s n a
with_tested_old n true m = ∪_left (single n) m
with_tested_old n false m = m

with_tested_new : (s n : ℕ) {a : Bool} → a ≡ true → n ∈ with_tested s n a
with_tested_new s n {a = true} p = insert_in s n
with_tested_new s n {a = false} p = absurd (yes_no p refl)

-- ---- who is one of them

module _ (test : ℕ → Bool) where
  pub those_only : (k : ℕ) {c : ℕ} → c ∈ those test k → (c < k) × (test c ≡ true)
  unfolding those
  those_only zero {c} m = absurd (in_out m (zero_out c))
  those_only (suc k) {c} m =
      ⊎_elim (λ i. let s = those_only k i in (omega (arith, s.0), s.1))
      (λ p. (omega (arith, p.0), ap test p.0 ∙ p.1)) (with_tested_only (those test k) k (test k) m)

  pub those_has : (k : ℕ) {c : ℕ} → c < k → test c ≡ true → c ∈ those test k
  unfolding those
  those_has zero h y = absurd (not-suc-le-zero h)
  those_has (suc k) {c} h y =
      ⊎_elim
      (λ e. subst (λ (i : ℕ). i ∈ those test (suc k)) (sym e) (with_tested_new (those test k) k (ap test (sym e) ∙ y)))
      (λ d. with_tested_old k (test k) (those_has k (omega (arith, h, d)) y)) (eq_or_ne c k)
