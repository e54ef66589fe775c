-- Refusals and the numbers that the definitions give.
-- In order: a refusal and its number, the numbers that have a refusal, bodies cut short, where no whole record stands.
-- Assumes nothing.
use mathlib.Core.Path.{◌≡◌, refl, sym, ap, ◌∙◌}
use mathlib.Core.Bool.{Bool, true, false}
use Prim.Native.Nat.{ℕ, ◌<◌}
use Rattle.std.specs.Prelude.{Option, None, Some}
use Rattle.sets.proofs.Numbers.{each_below}
use Rattle.refusals.specs.declared.Refusal.{Refusal}
use Rattle.refusals.specs.Refusals.{number_of, number_of_any, refusals, refusal_of_number}
use Rattle.refusals.proofs.Numbers.{numbered_exactly}
use Rattle.records.specs.Walking.{short_number, unread_number}
use Rattle.records.specs.declared.Owner.{Owner}
use Rattle.records.specs.declared.Reading.{Reading}
use Rattle.records.specs.declared.Reading.TheVariants.{Nothing, Unknown, Short, Found}

-- ---- a refusal and its number

pub its_refusal : (r : Refusal) {n : ℕ} → number_of r ≡ n → Some r ≡ refusal_of_number n
its_refusal r {n} e = sym (numbered_exactly r n).of_its_number ∙ ap refusal_of_number e

-- 0 is the number of none
pub refused_by : (o : Option Refusal) {n : ℕ} → number_of_any o ≡ n → o ≡ refusal_of_number n
unfolding refusals refusal_of_number
refused_by None e = ap refusal_of_number e
refused_by (Some r) e = its_refusal r e

pub number_not_zero : (r : Refusal) → number_of r ≡ 0 → ⊥
unfolding refusals refusal_of_number
number_not_zero r z = let e : Some r ≡ None = its_refusal r z in cc

-- ---- the numbers that have a refusal

abbrev pub HasRefusal : ℕ → Type 0
HasRefusal n = number_of_any (refusal_of_number n) ≡ n

-- 0 is one, of none
pub small_has : (n : ℕ) → n < 8 → HasRefusal n
unfolding refusals refusal_of_number
small_has n h = each_below HasRefusal 8 (refl, (refl, (refl, (refl, (refl, (refl, (refl, (refl, tt)))))))) n h

pub other_has : (HasRefusal 9) × (HasRefusal 10) × (HasRefusal 11) × (HasRefusal 12) × (HasRefusal 20) × (HasRefusal 21)
unfolding refusals refusal_of_number
other_has = (refl, refl, refl, refl, refl, refl)

-- ---- bodies cut short

pub short_yes : (allowed : ℕ → Bool) (k : ℕ) → allowed k ≡ true → 3 ≡ short_number allowed k
unfolding short_number
short_yes allowed k y = ap (λ (b : Bool). elim b [ true ↦ 3 | false ↦ 2 ]) (sym y)

pub short_no : (allowed : ℕ → Bool) (k : ℕ) → allowed k ≡ false → 2 ≡ short_number allowed k
unfolding short_number
short_no allowed k n = ap (λ (b : Bool). elim b [ true ↦ 3 | false ↦ 2 ]) (sym n)

-- ---- where no whole record stands

pub unread_at_end : (owner : Owner) (x : Reading) → (x ≡ Unknown → ⊥) → ((kind : ℕ) → x ≡ Short kind → ⊥)
    → 0 ≡ unread_number owner x
unfolding unread_number
unread_at_end owner Nothing u s = refl
unread_at_end owner Unknown u s = absurd (u refl)
unread_at_end owner (Short k) u s = absurd (s k refl)
unread_at_end owner (Found r next) u s = refl
