-- Two numbers compared, as a choice that a proof takes apart: what the library has as a decision. Then cases over the
-- numbers below a bound.
-- Assumes nothing.
use mathlib.Core.Path.{◌≡◌}
use mathlib.Core.Logic.{◌⊎◌, inl, inr}
use Prim.Native.Nat.{ℕ, zero, suc, ◌≤◌, ◌<◌}
use native.Mathlib.Decide.{dec_lt, ℕ_discrete}
use native.Mathlib.Omega.{arith}

pub lt_or_le : (a b : ℕ) → (a < b) ⊎ (b ≤ a)
lt_or_le a b = choose (dec_lt a b)
  where
    choose : Dec (a < b) → (a < b) ⊎ (b ≤ a)
    choose (yes l) = inl l
    choose (no n) = inr (omega arith)

pub eq_or_ne : (a b : ℕ) → (a ≡ b) ⊎ (a ≡ b → ⊥)
eq_or_ne a b = choose (ℕ_discrete a b)
  where
    choose : Dec (a ≡ b) → (a ≡ b) ⊎ (a ≡ b → ⊥)
    choose (yes e) = inl e
    choose (no n) = inr n

-- P of each number below n, from 0 on
abbrev pub Each : (ℕ → Type 0) → ℕ → Type 0
Each P zero = Unit {0}
Each P (suc n) = P 0 × Each (λ k. P (suc k)) n

pub each_below : (P : ℕ → Type 0) (n : ℕ) → Each P n → (k : ℕ) → k < n → P k
each_below P zero u k h = absurd (omega (arith, h))
each_below P (suc n) e zero h = e.0
each_below P (suc n) e (suc k) h = each_below (λ j. P (suc j)) n e.1 k (omega (arith, h))
