-- The rank of a member, the count of members and the lowest member, for every width together.
-- In order: rank by one step, its order, the count as the library's count of ones, the lowest member.
-- Assumes nothing.
use mathlib.Core.Path.{◌≡◌, refl, sym, ap, ap₂, ◌∙◌}
use mathlib.Core.Logic.{⊎_elim}
use Prim.Native.Nat.{ℕ, zero, suc, ◌+◌, ◌-◌, ◌/◌, ◌%◌, ◌^◌, ◌≤◌, ◌<◌}
use native.Mathlib.Nat.{mod-one, mod-lt, mod-eq_of_lt, add_comm, le_refl, le_of_suc-le-suc, not-suc-le-zero}
use native.Mathlib.Nat.{zero-lt-suc}
use native.Mathlib.Decide.{le_ind}
use native.Mathlib.Numerals.{one-add}
use native.Mathlib.Omega.{arith}
use lib.Bits.{and_mask}
use lib.Count.{ones, ones_in, ones_cat, count_trailing_zeros, trailing_le, under}
use lib.Pow.{mod-pow-add, pow_pos}
use Rattle.sets.specs.Sets.{bit, ◌∈◌, ◌∉◌, ◌∩◌, single, rank, count, lowest}
use Rattle.sets.proofs.Bits.{bit_lt_two, bit_zero, bit_suc, in_out, member_lt}
use Rattle.sets.proofs.Numbers.{lt_or_le}

-- ---- rank by one step

pub rank_suc_in : {s k : ℕ} → k ∈ s → rank s (suc k) ≡ suc (rank s k)
unfolding rank
rank_suc_in {s} {k} i = omega arith

-- ---- its order

pub rank_le : (s k : ℕ) → rank s k ≤ k
unfolding rank
rank_le s zero = le_refl 0
rank_le s (suc k) = omega (arith, rank_le s k, bit_lt_two s k)

pub rank_mono : (s : ℕ) {j k : ℕ} → j ≤ k → rank s j ≤ rank s k
unfolding rank
rank_mono s {j} {k} h = le_ind (λ (m : ℕ). rank s j ≤ rank s m) (le_refl (rank s j)) (λ m l ih. omega arith) k h

-- rank is strictly ascending over the members
pub rank_lt : {s j k : ℕ} → j ∈ s → j < k → rank s j < rank s k
rank_lt {s} {j} {k} i h = omega (arith, rank_suc_in i, rank_mono s h)

-- the rank of a member is below the count
pub rank_lt_count : {s k : ℕ} (w : ℕ) → s < 2 ^ w → k ∈ s → rank s k < count w s
rank_lt_count w h i = rank_lt i (member_lt w h i)

-- two members of one rank are one
pub rank_inj : {s j k : ℕ} → j ∈ s → k ∈ s → rank s j ≡ rank s k → j ≡ k
rank_inj {s} {j} {k} i i' e = ⊎_elim (λ l. absurd (below l)) (λ l. same l) (lt_or_le j k)
  where
    below : j < k → ⊥
    below l = omega (arith, rank_lt i l)

    same : k ≤ j → j ≡ k
    same l = ⊎_elim (λ l'. absurd (omega (arith, rank_lt i' l'))) (λ l'. omega arith) (lt_or_le k j)

-- ---- the count of ones

ones_bit : (b : ℕ) → b < 2 → ones b ≡ b
unfolding ones ones_in
ones_bit zero h = refl
ones_bit (suc zero) h = refl
ones_bit (suc (suc b)) h = absurd (omega arith)

-- the rank of k is the count of ones in the k lowest digits
pub ones_below : (s k : ℕ) → ones (s % 2 ^ k) ≡ rank s k
unfolding rank bit
ones_below s zero = ap ones (mod-one s) ∙ ones_bit 0 (omega arith)
ones_below s (suc k) =
    ap (λ (x : ℕ). ones (s % 2 ^ x)) (sym (one-add k)) ∙ ap ones (mod-pow-add s 1 k)
    ∙ ones_cat k (bit s k) (s % 2 ^ k) (mod-lt s (pow_pos k))
    ∙ ap₂ (λ (x y : ℕ). x + y) (ones_bit (bit s k) (bit_lt_two s k)) (ones_below s k)
    ∙ add_comm (bit s k) (rank s k)

-- those digits are what the mask of the k lowest leaves
pub ones_masked : (s k : ℕ) → ones (s ∩ (single k - 1)) ≡ rank s k
unfolding ◌∩◌ single
ones_masked s k = ap ones (and_mask s k) ∙ ones_below s k

-- of a set of w bits the count is that of all its ones
pub ones_count : (w : ℕ) {s : ℕ} → s < 2 ^ w → ones s ≡ count w s
ones_count w {s} h = ap ones (sym (mod-eq_of_lt h)) ∙ ones_below s w

-- ---- the lowest member

under_cases : (P : ℕ → Type 0) (b t : ℕ) → b < 2 → (b ≡ 0 → P (suc t)) → (b ≡ 1 → P 0) → P (under b t)
under_cases P zero t h no_one one = no_one refl
under_cases P (suc zero) t h no_one one = one refl
under_cases P (suc (suc b)) t h no_one one = absurd (omega arith)

pub lowest_le : (w s : ℕ) → lowest w s ≤ w
unfolding lowest
lowest_le w s = trailing_le w s

-- below it there is no member
pub below_lowest : (w s : ℕ) {j : ℕ} → j < lowest w s → j ∉ s
unfolding lowest count_trailing_zeros
below_lowest zero s h = absurd (not-suc-le-zero h)
below_lowest (suc w) s {j} h =
    under_cases (λ (x : ℕ). j < x → j ∉ s) (s % 2) (count_trailing_zeros w (s / 2)) (mod-lt s (zero-lt-suc 1))
    (even j (λ i l. below_lowest w (s / 2) l))
    (λ _ l. absurd (not-suc-le-zero l))
    h
  where
    even : (j : ℕ) → ((i : ℕ) → i < count_trailing_zeros w (s / 2) → i ∉ s / 2) → s % 2 ≡ 0
        → j < suc (count_trailing_zeros w (s / 2)) → j ∉ s
    even zero ih e l = record { is_zero = bit_zero s ∙ e }
    even (suc i) ih e l = record { is_zero = bit_suc s i ∙ (ih i (le_of_suc-le-suc l)).is_zero }

-- where it is below the width, it is a member
pub lowest_in : (w s : ℕ) → lowest w s < w → lowest w s ∈ s
unfolding lowest count_trailing_zeros
lowest_in zero s h = absurd (not-suc-le-zero h)
lowest_in (suc w) s h =
    under_cases (λ (x : ℕ). x < suc w → x ∈ s) (s % 2) (count_trailing_zeros w (s / 2)) (mod-lt s (zero-lt-suc 1))
    (λ e l. record { is_one = bit_suc s _ ∙ (lowest_in w (s / 2) (le_of_suc-le-suc l)).is_one })
    (λ e l. record { is_one = bit_zero s ∙ e })
    h

-- no member lies below it
pub lowest_le_member : {s k : ℕ} (w : ℕ) → k ∈ s → lowest w s ≤ k
lowest_le_member {s} {k} w i =
    ⊎_elim (λ l. absurd (in_out i (below_lowest w s l))) (λ l. l) (lt_or_le k (lowest w s))
