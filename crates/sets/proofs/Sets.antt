-- The laws of sets, for every width together. A test has lemmas from the fact to its answer and back; a fact on members
-- is a fact on bits, so what is left is linear arithmetic.
-- In order: the test of membership, intersection, union, difference, single sets, one member more and one less,
-- extensionality, containment, emptiness, bounds.
-- Assumes nothing.
use mathlib.Core.Path.{◌≡◌, refl, sym, ap, ◌∙◌, subst}
use mathlib.Core.Bool.{Bool, true, false, true≢false}
use mathlib.Core.Logic.{◌⊎◌, inl, inr, ⊎_elim}
use Prim.Native.Nat.{ℕ, zero, suc, ◌+◌, ◌-◌, ◌*◌, ◌/◌, ◌%◌, ◌^◌, ◌≤◌, ◌<◌, min, max}
use native.Mathlib.Nat.{div_self, mul-div_cancel, mul-mod_left, zero-div, pow-suc, one-mul, mod-eq_of_lt, le_refl}
use native.Mathlib.Nat.{lt_of_le_of_lt}
use native.Mathlib.Omega.{arith}
use lib.Bits.{bit_and, differ, and_le_r, or_lt, or_zero_l, or_zero_r}
use lib.Arith.{lt_of_le-ne, bin_ind}
use lib.Pow.{pow_pos, pow-add, pow-lt}
use borrow.Author.Tests.{eq-eqb, ne_eqb, eqb-true, eqb-false}
use Rattle.sets.specs.Sets.{bit, ◌∈◌, ◌∉◌, has, ◌⊆◌, within, ◌∩◌, ◌∪◌, ◌∖◌, single, insert, remove, is_empty}
use Rattle.sets.proofs.Numbers.{lt_or_le, eq_or_ne}
use Rattle.sets.proofs.Bits.{bit_lt_two, member_or_not, in_out, not_in, not_out, no_bits, ext_bits, out_above}
use Rattle.sets.proofs.Bits.{bit_zero, bit_suc, bit_of_and, bit_of_or, bit_of_xor}

-- ---- the test of membership

pub has_yes : {s k : ℕ} → k ∈ s → has s k ≡ true
unfolding has
has_yes {s} {k} i = eq-eqb (bit s k) 1 i.is_one

pub has_no : {s k : ℕ} → k ∉ s → has s k ≡ false
unfolding has
has_no {s} {k} o = ne_eqb (bit s k) 1 (λ e. in_out (record { is_one = e }) o)

pub yes_has : (s k : ℕ) → has s k ≡ true → k ∈ s
unfolding has
yes_has s k e = record { is_one = eqb-true (bit s k) 1 e }

pub no_has : (s k : ℕ) → has s k ≡ false → k ∉ s
unfolding has
no_has s k e = not_in (λ i. eqb-false (bit s k) 1 e i.is_one)

-- ---- intersection

bit_∩ : (s t k : ℕ) → bit (s ∩ t) k ≡ min (bit s k) (bit t k)
unfolding ◌∩◌
bit_∩ = bit_of_and

pub ∩_in : {s t k : ℕ} → k ∈ s → k ∈ t → k ∈ s ∩ t
∩_in {s} {t} {k} i j = omega (arith, bit_∩ s t k)

pub ∩_left : (s t : ℕ) {k : ℕ} → k ∈ s ∩ t → k ∈ s
∩_left s t {k} i = omega (arith, bit_∩ s t k, bit_lt_two s k)

pub ∩_right : (s t : ℕ) {k : ℕ} → k ∈ s ∩ t → k ∈ t
∩_right s t {k} i = omega (arith, bit_∩ s t k, bit_lt_two t k)

-- ---- union

bit_∪ : (s t k : ℕ) → bit (s ∪ t) k ≡ max (bit s k) (bit t k)
unfolding ◌∪◌
bit_∪ = bit_of_or

pub ∪_left : {s : ℕ} (t : ℕ) {k : ℕ} → k ∈ s → k ∈ s ∪ t
∪_left {s} t {k} i = omega (arith, bit_∪ s t k, bit_lt_two t k)

pub ∪_right : (s : ℕ) {t k : ℕ} → k ∈ t → k ∈ s ∪ t
∪_right s {t} {k} i = omega (arith, bit_∪ s t k, bit_lt_two s k)

pub ∪_out : {s t k : ℕ} → k ∉ s → k ∉ t → k ∉ s ∪ t
∪_out {s} {t} {k} i j = omega (arith, bit_∪ s t k)

pub ∪_cases : (s t : ℕ) {k : ℕ} → k ∈ s ∪ t → (k ∈ s) ⊎ (k ∈ t)
∪_cases s t {k} i =
    ⊎_elim inl (λ (o : k ∉ s). inr (not_out (λ (p : k ∉ t). in_out i (∪_out o p)))) (member_or_not k s)

pub ∪_assoc : (s t u : ℕ) → (s ∪ t) ∪ u ≡ s ∪ (t ∪ u)
∪_assoc s t u =
    ext_bits ((s ∪ t) ∪ u) (s ∪ (t ∪ u))
    (λ k. omega (arith, bit_∪ (s ∪ t) u k, bit_∪ s t k, bit_∪ s (t ∪ u) k, bit_∪ t u k))

pub ∪_zero_left : (s : ℕ) → 0 ∪ s ≡ s
unfolding ◌∪◌
∪_zero_left s = or_zero_l s

pub ∪_zero_right : (s : ℕ) → s ∪ 0 ≡ s
unfolding ◌∪◌
∪_zero_right s = or_zero_r s

-- ---- difference

differ_min : (x y : ℕ) → x < 2 → y < 2 → differ x (min x y) ≡ x - y
differ_min zero y hx hy = omega (arith, differ_zero (min 0 y))
  where
    differ_zero : (z : ℕ) → differ zero z ≡ z
    differ_zero z = refl
differ_min (suc zero) zero hx hy = refl
differ_min (suc zero) (suc zero) hx hy = refl
differ_min (suc zero) (suc (suc y)) hx hy = absurd (omega arith)
differ_min (suc (suc x)) y hx hy = absurd (omega arith)

bit_∖ : (s t k : ℕ) → bit (s ∖ t) k ≡ bit s k - bit t k
unfolding ◌∖◌
bit_∖ s t k =
    bit_of_xor s (bit_and s t) k ∙ ap (differ (bit s k)) (bit_of_and s t k)
    ∙ differ_min (bit s k) (bit t k) (bit_lt_two s k) (bit_lt_two t k)

pub ∖_in : {s t k : ℕ} → k ∈ s → k ∉ t → k ∈ s ∖ t
∖_in {s} {t} {k} i o = omega (arith, bit_∖ s t k)

pub ∖_left : (s t : ℕ) {k : ℕ} → k ∈ s ∖ t → k ∈ s
∖_left s t {k} i = omega (arith, bit_∖ s t k, bit_lt_two s k)

pub ∖_out : (s t : ℕ) {k : ℕ} → k ∈ s ∖ t → k ∉ t
∖_out s t {k} i = omega (arith, bit_∖ s t k, bit_lt_two s k)

-- ---- single sets

-- a single bit shifted to its place, within w bits
pub single_shifted : {k : ℕ} (w : ℕ) → k < w → 1 * 2 ^ k % 2 ^ w ≡ single k
unfolding single
single_shifted {k} w h = ap (λ (x : ℕ). x % 2 ^ w) (one-mul (2 ^ k)) ∙ mod-eq_of_lt (pow-lt h)

pub single_pos : (k : ℕ) → 1 ≤ single k
unfolding single
single_pos k = pow_pos k

pub single_in : (k : ℕ) → k ∈ single k
unfolding bit single
single_in k = record { is_one = ap (λ (x : ℕ). x % 2) (div_self (pow_pos k)) }

-- a power of two has no bit below its own
low_bit_of_power : (j d : ℕ) → bit (2 ^ (suc d + j)) j ≡ 0
unfolding bit
low_bit_of_power j d =
    ap (λ (x : ℕ). x / 2 ^ j % 2) (pow-add 2 (suc d) j)
    ∙ ap (λ (x : ℕ). x % 2) (mul-div_cancel (2 ^ suc d) (pow_pos j) ∙ pow-suc 2 d)
    ∙ mul-mod_left (2 ^ d) 2

pub single_out : {j k : ℕ} → (j ≡ k → ⊥) → j ∉ single k
unfolding single
single_out {j} {k} n = ⊎_elim low (λ l. out_above (pow-lt (above l)) (le_refl j)) (lt_or_le j k)
  where
    above : k ≤ j → k < j
    above l = omega arith

    low : j < k → j ∉ 2 ^ k
    low l =
        let e : suc (k - suc j) + j ≡ k = omega arith in
        record { is_zero = subst (λ (x : ℕ). bit (2 ^ x) j ≡ 0) e (low_bit_of_power j (k - suc j)) }

pub in_single : {j k : ℕ} → j ∈ single k → j ≡ k
in_single {j} {k} i = ⊎_elim (λ e. e) (λ n. absurd (in_out i (single_out n))) (eq_or_ne j k)

-- ---- one member more, one less

pub insert_in : (s k : ℕ) → k ∈ insert s k
insert_in s k = ∪_right s (single_in k)

pub remove_out : (s k : ℕ) → k ∉ remove s k
remove_out s k = not_in (λ i. in_out (single_in k) (∖_out s (single k) i))

pub remove_in : {s j k : ℕ} → j ∈ s → (j ≡ k → ⊥) → j ∈ remove s k
remove_in i n = ∖_in i (single_out n)

-- ---- extensionality

-- sets with the same members are equal
pub ext : {s t : ℕ} → s ⊆ t → t ⊆ s → s ≡ t
ext {s} {t} h k = ext_bits s t same
  where
    same : (j : ℕ) → bit s j ≡ bit t j
    same j =
        ⊎_elim (λ i. i.is_one ∙ sym (h.each i).is_one) (λ o. o.is_zero ∙ sym (outside o).is_zero) (member_or_not j s)
      where
        outside : j ∉ s → j ∉ t
        outside o = not_in (λ i. in_out (k.each i) o)

-- ---- containment

pub ⊆_refl : (s : ℕ) → s ⊆ s
⊆_refl s = record { each = λ i. i }

pub ⊆_trans : {s t u : ℕ} → s ⊆ t → t ⊆ u → s ⊆ u
⊆_trans h k = record { each = λ i. k.each (h.each i) }

pub ∩_⊆_left : (s t : ℕ) → s ∩ t ⊆ s
∩_⊆_left s t = record { each = ∩_left s t }

pub ∩_⊆_right : (s t : ℕ) → s ∩ t ⊆ t
∩_⊆_right s t = record { each = ∩_right s t }

pub ⊆_∩ : {s t u : ℕ} → u ⊆ s → u ⊆ t → u ⊆ s ∩ t
⊆_∩ h k = record { each = λ i. ∩_in (h.each i) (k.each i) }

pub ∩_mono : (u : ℕ) {s t : ℕ} → s ⊆ t → u ∩ s ⊆ u ∩ t
∩_mono u {s} h = ⊆_∩ (∩_⊆_left u s) (⊆_trans (∩_⊆_right u s) h)

pub ∪_⊆ : {s t u : ℕ} → s ⊆ u → t ⊆ u → s ∪ t ⊆ u
∪_⊆ {s} {t} h k = record { each = λ i. ⊎_elim (λ a. h.each a) (λ b. k.each b) (∪_cases s t i) }

pub ⊆_∪_left : (s t : ℕ) → s ⊆ s ∪ t
⊆_∪_left s t = record { each = ∪_left t }

pub ⊆_∪_right : (s t : ℕ) → t ⊆ s ∪ t
⊆_∪_right s t = record { each = ∪_right s }

pub ∖_⊆ : (s t : ℕ) → s ∖ t ⊆ s
∖_⊆ s t = record { each = ∖_left s t }

-- what a contained set shares with the other is itself
pub ∩_of_⊆ : {s t : ℕ} → s ⊆ t → s ∩ t ≡ s
∩_of_⊆ {s} {t} h = ext (∩_⊆_left s t) (⊆_∩ (⊆_refl s) h)

-- containment is the arithmetic test
pub within_yes : {s t : ℕ} → s ⊆ t → within s t ≡ true
unfolding within ◌∩◌
within_yes {s} {t} h = eq-eqb (bit_and s t) s (∩_of_⊆ h)

pub yes_within : (s t : ℕ) → within s t ≡ true → s ⊆ t
unfolding within ◌∩◌
yes_within s t e = subst (λ (x : ℕ). x ⊆ t) (eqb-true (bit_and s t) s e) (∩_⊆_right s t)

pub no_within : {s t : ℕ} → within s t ≡ false → s ⊆ t → ⊥
no_within e h = true≢false (sym (within_yes h) ∙ e)

-- containment is decided
pub ⊆_or_not : (s t : ℕ) → (s ⊆ t) ⊎ (s ⊆ t → ⊥)
⊆_or_not s t = choose (within s t) refl
  where
    choose : (b : Bool) → within s t ≡ b → (s ⊆ t) ⊎ (s ⊆ t → ⊥)
    choose true e = inl (yes_within s t e)
    choose false e = inr (no_within e)

-- a set that is contained is a number not larger
pub ⊆_le : {s t : ℕ} → s ⊆ t → s ≤ t
unfolding ◌∩◌
⊆_le {s} {t} h = subst (λ (x : ℕ). x ≤ t) (∩_of_⊆ h) (and_le_r s t)

pub ⊆_lt : {s t : ℕ} → s ⊆ t → (s ≡ t → ⊥) → s < t
⊆_lt h n = lt_of_le-ne (⊆_le h) n

-- ---- emptiness

pub zero_out : (k : ℕ) → k ∉ 0
unfolding bit
zero_out k = record { is_zero = ap (λ (x : ℕ). x % 2) (zero-div (2 ^ k)) }

pub zero_⊆ : (s : ℕ) → 0 ⊆ s
zero_⊆ s = record { each = λ {k} i. absurd (in_out i (zero_out k)) }

pub no_members : {s : ℕ} → ((k : ℕ) → k ∉ s) → s ≡ 0
no_members {s} h = no_bits s (λ k. (h k).is_zero)

-- a set that is not 0 has a member
pub some_member : (s : ℕ) → (s ≡ 0 → ⊥) → (k : ℕ) × (k ∈ s)
some_member = bin_ind (λ (n : ℕ). (n ≡ 0 → ⊥) → (k : ℕ) × (k ∈ n)) (λ h. absurd (h refl)) step
  where
    step : (n : ℕ) → ((n / 2 ≡ 0 → ⊥) → (k : ℕ) × (k ∈ n / 2)) → (n ≡ 0 → ⊥) → (k : ℕ) × (k ∈ n)
    step n ih h = ⊎_elim (λ i. (0, i)) even (member_or_not 0 n)
      where
        even : 0 ∉ n → (k : ℕ) × (k ∈ n)
        even o =
            let z : n % 2 ≡ 0 = sym (bit_zero n) ∙ o.is_zero in
            let m = ih (λ e. h (omega arith)) in
            (suc m.0, record { is_one = bit_suc n m.0 ∙ m.1.is_one })

pub is_empty_yes : {s : ℕ} → s ≡ 0 → is_empty s ≡ true
unfolding is_empty
is_empty_yes {s} e = eq-eqb s 0 e

pub is_empty_no : {s k : ℕ} → k ∈ s → is_empty s ≡ false
unfolding is_empty
is_empty_no {s} {k} i = ne_eqb s 0 (λ e. in_out (subst (λ (x : ℕ). k ∈ x) e i) (zero_out k))

pub no_is_empty : (s : ℕ) → is_empty s ≡ false → (k : ℕ) × (k ∈ s)
unfolding is_empty
no_is_empty s e = some_member s (eqb-false s 0 e)

pub yes_is_empty : (s : ℕ) → is_empty s ≡ true → s ≡ 0
unfolding is_empty
yes_is_empty s e = eqb-true s 0 e

-- ---- bounds: w bits in, w bits out

pub ∩_lt : {s : ℕ} (t w : ℕ) → s < 2 ^ w → s ∩ t < 2 ^ w
∩_lt {s} t w h = lt_of_le_of_lt (⊆_le (∩_⊆_left s t)) h

pub ∪_lt : {s t : ℕ} (w : ℕ) → s < 2 ^ w → t < 2 ^ w → s ∪ t < 2 ^ w
unfolding ◌∪◌
∪_lt {s} {t} w h k = or_lt w s t h k

pub single_lt : {k : ℕ} (w : ℕ) → k < w → single k < 2 ^ w
unfolding single
single_lt w h = pow-lt h
