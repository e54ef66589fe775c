-- The bits of numbers, for every width together: each is 0 or 1, halving moves them down by one, equal bits make equal
-- numbers, and a bound 2 ^ w says that no bit from w on is set.
-- In order: one bit, halves, extensionality, bounds, bits of operations.
-- Assumes nothing.
use mathlib.Core.Path.{◌≡◌, refl, sym, ap, ◌∙◌, subst}
use mathlib.Core.Logic.{◌⊎◌, inl, inr, ⊎_elim}
use Prim.Native.Nat.{ℕ, zero, suc, ◌+◌, ◌*◌, ◌/◌, ◌%◌, ◌^◌, ◌≤◌, ◌<◌, min, max}
use native.Mathlib.Nat.{div-one, zero-div, div-eq_of_lt, div-lt_iff_lt-mul, mod-lt, zero-lt-suc, one-mul}
use native.Mathlib.Nat.{lt_of_lt_of_le, lt_of_not-le}
use native.Mathlib.Omega.{arith}
use native.Mathlib.Numerals.{one-add}
use lib.Arith.{bin_ind, digits_mod}
use lib.Bits.{bit_and, bit_or, bit_xor, differ, and_shr, and_step, or_shr, or_step, xor_shr, xor_step}
use lib.Pow.{shr-shr, pow_mono, pow_pos}
use Rattle.sets.specs.Sets.{bit, ◌∈◌, ◌∉◌}

-- ---- one bit

pub bit_lt_two : (s k : ℕ) → bit s k < 2
unfolding bit
bit_lt_two s k = mod-lt (s / 2 ^ k) (zero-lt-suc 1)

-- k is a member of s or it is none
pub member_or_not : (k s : ℕ) → (k ∈ s) ⊎ (k ∉ s)
member_or_not k s = cases (bit s k) refl (bit_lt_two s k)
  where
    cases : (b : ℕ) → bit s k ≡ b → b < 2 → (k ∈ s) ⊎ (k ∉ s)
    cases zero e h = inr (record { is_zero = e })
    cases (suc zero) e h = inl (record { is_one = e })
    cases (suc (suc b)) e h = absurd (omega arith)

-- both at once is absurd
pub in_out : {k s : ℕ} → k ∈ s → k ∉ s → ⊥
in_out i o = omega arith

pub not_in : {k s : ℕ} → (k ∈ s → ⊥) → k ∉ s
not_in {k} {s} h = ⊎_elim (λ i. absurd (h i)) (λ o. o) (member_or_not k s)

pub not_out : {k s : ℕ} → (k ∉ s → ⊥) → k ∈ s
not_out {k} {s} h = ⊎_elim (λ i. i) (λ o. absurd (h o)) (member_or_not k s)

-- ---- halves: the lowest bit is the remainder by 2, the others are the bits of the half

pub bit_zero : (s : ℕ) → bit s 0 ≡ s % 2
unfolding bit
bit_zero s = ap (λ (x : ℕ). x % 2) (div-one s)

pub bit_suc : (s k : ℕ) → bit s (suc k) ≡ bit (s / 2) k
unfolding bit
bit_suc s k = ap (λ (x : ℕ). x % 2) (ap (λ (x : ℕ). s / 2 ^ x) (sym (one-add k)) ∙ sym (shr-shr s 1 k))

-- the bits of a number with its k lowest digits gone
bit_shifted : (s k j : ℕ) → bit (s / 2 ^ k) j ≡ bit s (k + j)
unfolding bit
bit_shifted s k j = ap (λ (x : ℕ). x % 2) (shr-shr s k j)

-- ---- extensionality

bit_of_zero : (k : ℕ) → bit 0 k ≡ 0
unfolding bit
bit_of_zero k = ap (λ (x : ℕ). x % 2) (zero-div (2 ^ k))

pub no_bits : (s : ℕ) → ((k : ℕ) → bit s k ≡ 0) → s ≡ 0
no_bits = bin_ind (λ (n : ℕ). ((k : ℕ) → bit n k ≡ 0) → n ≡ 0) (λ h. refl) step
  where
    step : (n : ℕ) → (((k : ℕ) → bit (n / 2) k ≡ 0) → n / 2 ≡ 0) → ((k : ℕ) → bit n k ≡ 0) → n ≡ 0
    step n ih h =
        let half : n / 2 ≡ 0 = ih (λ k. sym (bit_suc n k) ∙ h (suc k)) in
        let odd : n % 2 ≡ 0 = sym (bit_zero n) ∙ h 0 in
        omega arith

-- numbers with the same bits are equal
pub ext_bits : (s t : ℕ) → ((k : ℕ) → bit s k ≡ bit t k) → s ≡ t
ext_bits =
    bin_ind (λ (n : ℕ). (t : ℕ) → ((k : ℕ) → bit n k ≡ bit t k) → n ≡ t)
    (λ t h. sym (no_bits t (λ k. sym (h k) ∙ bit_of_zero k)))
    step
  where
    step : (n : ℕ) → ((t : ℕ) → ((k : ℕ) → bit (n / 2) k ≡ bit t k) → n / 2 ≡ t) → (t : ℕ)
        → ((k : ℕ) → bit n k ≡ bit t k) → n ≡ t
    step n ih t h =
        let half : n / 2 ≡ t / 2 = ih (t / 2) (λ k. sym (bit_suc n k) ∙ h (suc k) ∙ bit_suc t k) in
        let odd : n % 2 ≡ t % 2 = sym (bit_zero n) ∙ h 0 ∙ bit_zero t in
        omega arith

-- ---- bounds

pub out_above : {s w k : ℕ} → s < 2 ^ w → w ≤ k → k ∉ s
unfolding bit
out_above h l = record { is_zero = ap (λ (x : ℕ). x % 2) (div-eq_of_lt (lt_of_lt_of_le h (pow_mono l))) }

-- a member of a set of w bits is below w
pub member_lt : {s k : ℕ} (w : ℕ) → s < 2 ^ w → k ∈ s → k < w
member_lt w h m = lt_of_not-le (λ l. in_out m (out_above h l))

-- a number whose members all lie below w has w bits
pub lt_of_members : (s w : ℕ) → ((k : ℕ) → k ∈ s → k < w) → s < 2 ^ w
lt_of_members s w h =
    below (no_bits (s / 2 ^ w) (λ j. bit_shifted s w j ∙ (not_in (λ (m : w + j ∈ s). too_low j (h (w + j) m))).is_zero))
  where
    too_low : (j : ℕ) → w + j < w → ⊥
    too_low j l = omega arith

    below : s / 2 ^ w ≡ 0 → s < 2 ^ w
    below e =
        subst (λ (x : ℕ). s < x) (one-mul (2 ^ w))
        ((div-lt_iff_lt-mul (pow_pos w)).0 (subst (λ (x : ℕ). x < 1) (sym e) (zero-lt-suc 0)))

-- ---- bits of operations: an operation that goes digit by digit is f on each bit

module _ (op f : ℕ → ℕ → ℕ) (shr : (a b k : ℕ) → op a b / 2 ^ k ≡ op (a / 2 ^ k) (b / 2 ^ k))
    (step : (a b : ℕ) → op a b ≡ op (a / 2) (b / 2) * 2 + f (a % 2) (b % 2))
    (small : (x y : ℕ) → x < 2 → y < 2 → f x y < 2) where
  bit_op : (s t k : ℕ) → bit (op s t) k ≡ f (bit s k) (bit t k)
  unfolding bit
  bit_op s t k =
      let a : ℕ = s / 2 ^ k in
      let b : ℕ = t / 2 ^ k in
      ap (λ (x : ℕ). x % 2) (shr s t k ∙ step a b)
      ∙ digits_mod (op (a / 2) (b / 2)) (small (a % 2) (b % 2) (mod-lt a (zero-lt-suc 1)) (mod-lt b (zero-lt-suc 1)))

pub bit_of_and : (s t k : ℕ) → bit (bit_and s t) k ≡ min (bit s k) (bit t k)
bit_of_and = bit_op bit_and min and_shr and_step (λ x y hx hy. omega arith)

pub bit_of_or : (s t k : ℕ) → bit (bit_or s t) k ≡ max (bit s k) (bit t k)
bit_of_or = bit_op bit_or max or_shr or_step (λ x y hx hy. omega arith)

differ_small : (x y : ℕ) → x < 2 → y < 2 → differ x y < 2
differ_small zero y hx hy = hy
differ_small (suc zero) zero hx hy = hx
differ_small (suc zero) (suc zero) hx hy = omega arith
differ_small (suc zero) (suc (suc y)) hx hy = absurd (omega arith)
differ_small (suc (suc x)) y hx hy = absurd (omega arith)

pub bit_of_xor : (s t k : ℕ) → bit (bit_xor s t) k ≡ differ (bit s k) (bit t k)
bit_of_xor = bit_op bit_xor differ xor_shr xor_step differ_small
