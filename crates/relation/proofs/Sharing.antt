-- Attributes of two sets of a family.
-- In order: two different places, sets of one family in another, sets cut, kept sets, sets of tables.
-- Assumes nothing.
use mathlib.Core.Path.{◌≡◌, sym, ap, ◌∙◌, subst}
use mathlib.Core.Logic.{⊎_elim}
use mathlib.Core.List.{List, Memᴰ}
use Prim.Native.Nat.{ℕ, ◌<◌}
use native.Mathlib.Nat.{lt_trans}
use native.Mathlib.Omega.{arith}
use lib.ListN.{length, length-map}
use Rattle.sets.specs.Sets.{◌∈◌, ◌∩◌}
use Rattle.sets.proofs.Numbers.{lt_or_le}
use Rattle.sets.proofs.Sets.{∩_left}
use Rattle.reduction.specs.Steps.{Family, NoneTwice, at}
use Rattle.reduction.specs.Kept.{left, cut_to, kept}
use Rattle.reduction.proofs.Places.{mem_at, place_of}
use Rattle.reduction.proofs.Kept.{in_kept_of, kept_none_twice}
use Rattle.relation.specs.Tables.{Table, table_at, family}
use Rattle.relation.specs.Joins.{OfTwo}
use Rattle.relation.proofs.Tables.{get_d_map_at}

-- ---- two different places

-- in whatever order they stand
pub of_two_at : {F : Family} {a i j : ℕ} → (i ≡ j → ⊥) → i < length F → j < length F → a ∈ at F i → a ∈ at F j
    → OfTwo F a
of_two_at {F} {a} {i} {j} d h k s t =
    ⊎_elim (λ l. record { first = i; second = j; before = l; there = k; in_first = s; in_second = t })
    (λ l. record { first = j; second = i; before = omega (arith, l, d); there = h; in_first = t; in_second = s })
    (lt_or_le i j)

-- ---- sets of one family in another, none of them twice

pub of_two_moved : {F G : Family} {a : ℕ} → NoneTwice F → ((s : ℕ) → Memᴰ s F → Memᴰ s G) → OfTwo F a
    → OfTwo G a
of_two_moved {F} {G} {a} once some w =
    let h : w.first < length F = lt_trans w.before w.there in
    let p = place_of (some (at F w.first) (mem_at F w.first h)) in
    let q = place_of (some (at F w.second) (mem_at F w.second w.there)) in
    of_two_at
    (λ e. omega (
      arith,
      w.before,
      once.once w.first w.second h w.there (sym p.holds ∙ ap (at G) e ∙ q.holds),
    ))
    p.there q.there (subst (λ (s : ℕ). a ∈ s) (sym p.holds) w.in_first)
    (subst (λ (s : ℕ). a ∈ s) (sym q.holds) w.in_second)

-- ---- sets cut

of_two_cut : (A : ℕ) (F : Family) {a : ℕ} → OfTwo (cut_to A F) a → OfTwo F a
of_two_cut A F {a} w =
    let k : w.second < length F = subst (λ (n : ℕ). w.second < n) (length-map F (λ s. s ∩ A)) w.there in
    record {
      first = w.first;
      second = w.second;
      before = w.before;
      there = k;
      in_first = whole w.first (lt_trans w.before k) w.in_first;
      in_second = whole w.second k w.in_second;
    }
  where
    whole : (i : ℕ) → i < length F → a ∈ at (cut_to A F) i → a ∈ at F i
    whole i h m = ∩_left (at F i) A (subst (λ (s : ℕ). a ∈ s) (get_d_map_at (λ s. s ∩ A) 0 0 F i h) m)

-- ---- kept sets: an attribute of two of them is one of two sets of the family

pub of_two_kept : (X : ℕ) (F : Family) {a : ℕ} → OfTwo (kept X F) a → OfTwo F a
unfolding kept
of_two_kept X F w =
    let G : Family = cut_to (left X F) F in
    of_two_cut (left X F) F (of_two_moved (kept_none_twice G) (λ s m.
    let p = in_kept_of G (length G) m in
    subst (λ (t : ℕ). Memᴰ t G) (sym p.holds) (mem_at G p.place p.below)) w)

-- ---- sets of tables

pub set_of_table : (Ts : List Table) {i : ℕ} → i < length Ts → at (family Ts) i ≡ (table_at Ts i).set
set_of_table Ts {i} h = get_d_map_at (λ (T : Table). T.set) _ 0 Ts i h

pub family_long : (Ts : List Table) → length (family Ts) ≡ length Ts
family_long Ts = length-map Ts (λ (T : Table). T.set)
