-- The members of a set as an ascending list, for every width together. A list of members grows at its end, so each law
-- goes by one step of the width.
-- In order: who is in the list, its length, the place of a member, its order, its first member.
-- Assumes nothing.
use mathlib.Core.Path.{◌≡◌, refl, sym, ap, ap₂, ◌∙◌, subst}
use mathlib.Core.Bool.{Bool, true, false}
use mathlib.Core.Logic.{⊎_elim}
use mathlib.Core.List.Memᴰ
use mathlib.Core.List.{List, [], ◌∷◌, ◌++◌, Memᴰ}
use Prim.Native.Nat.{ℕ, zero, suc, ◌+◌, ◌≤◌, ◌<◌}
use native.Mathlib.Nat.{not-suc-le-zero, le_of_suc-le-suc, eq-or-lt_of_le, lt_trans, le_refl, lt_of_not-le}
use native.Mathlib.Omega.{arith}
use lib.ListN.{length, get_or, length-append, get_or-append}
use lib.Seq.{get_or_at}
use Rattle.sets.specs.Sets.{bit, ◌∈◌, ◌∉◌, has, single, remove, rank, count, lowest, kept, members}
use Rattle.sets.proofs.Numbers.{lt_or_le}
use Rattle.sets.proofs.Bits.{member_or_not, in_out, not_in}
use Rattle.sets.proofs.Sets.{has_yes, has_no, yes_has, no_has, ∖_left, remove_in, remove_out}
use Rattle.sets.proofs.Ranks.{rank_mono, rank_lt, rank_inj, lowest_in, below_lowest}

-- ---- one step of the width

members_suc_in : {s w : ℕ} → w ∈ s → members (suc w) s ≡ members w s ++ w ∷ []
unfolding members
members_suc_in {s} {w} i = ap (λ (b : Bool). members w s ++ kept b w) (has_yes i)

-- ---- who is in the list

-- the members below w are in it
pub members_has : {s k : ℕ} (w : ℕ) → k < w → k ∈ s → Memᴰ k (members w s)
unfolding members
members_has zero h i = absurd (not-suc-le-zero h)
members_has {s} {k} (suc w) h i =
    ⊎_elim here (λ l. Memᴰ.append_left (kept (has s w) w) (members_has w l i)) (eq-or-lt_of_le (le_of_suc-le-suc h))
  where
    here : k ≡ w → Memᴰ k (members (suc w) s)
    here e =
        subst (Memᴰ k) (sym (members_suc_in (subst (λ (x : ℕ). x ∈ s) e i)))
        (Memᴰ.append_right (members w s) (Memᴰ.head e))

-- and nothing else is
pub members_only : (w s : ℕ) {k : ℕ} → Memᴰ k (members w s) → (k < w) × (k ∈ s)
unfolding members
members_only zero s m = absurd (Memᴰ.not-nil m)
members_only (suc w) s {k} m =
    ⊎_elim (λ m'. older (members_only w s m')) (λ m'. newest (has s w) refl m') (Memᴰ.append_cases (members w s) m)
  where
    older : (k < w) × (k ∈ s) → (k < suc w) × (k ∈ s)
    older p = (lt_trans p.0 (le_refl (suc w)), p.1)

    newest : (b : Bool) → has s w ≡ b → Memᴰ k (kept b w) → (k < suc w) × (k ∈ s)
    newest true e m' =
        let here : k ≡ w = Memᴰ.eq_of_singleton m' in
        (omega arith, subst (λ (x : ℕ). x ∈ s) (sym here) (yes_has s w e))
    newest false e m' = absurd (Memᴰ.not-nil m')

-- ---- its length

pub length_members : (w s : ℕ) → length (members w s) ≡ count w s
unfolding members rank
length_members zero s = refl
length_members (suc w) s =
    length-append (members w s) (kept (has s w) w) ∙ ap₂ (λ (x y : ℕ). x + y) (length_members w s) (last (has s w) refl)
  where
    last : (b : Bool) → has s w ≡ b → length (kept b w) ≡ bit s w
    last true e = sym (yes_has s w e).is_one
    last false e = sym (no_has s w e).is_zero

-- ---- the place of a member is its rank

-- x is a member of s below w that stands at place i of the list
record MemberAt (w s i x : ℕ) : Type 0 where
  below : x < w
  member : x ∈ s
  placed : rank s x ≡ i

member_at : (w s d i : ℕ) → i < length (members w s) → MemberAt w s i (get_or (members w s) i d)
unfolding members
member_at zero s d i h = absurd (not-suc-le-zero h)
member_at (suc w) s d i h =
    ⊎_elim (λ l. earlier l (member_at w s d i l)) (λ l. last (has s w) refl l h) (lt_or_le i (length l₀))
  where
    l₀ : List ℕ
    l₀ = members w s

    earlier : i < length l₀ → MemberAt w s i (get_or l₀ i d) → MemberAt (suc w) s i (get_or (members (suc w) s) i d)
    earlier l m =
        subst (MemberAt (suc w) s i) (sym (get_or-append l₀ (kept (has s w) w) d i l))
        (record { below = lt_trans m.below (le_refl (suc w)); member = m.member; placed = m.placed })

    last : (b : Bool) → has s w ≡ b → length l₀ ≤ i → i < length (l₀ ++ kept b w)
        → MemberAt (suc w) s i (get_or (l₀ ++ kept b w) i d)
    last true e l h' =
        let at : length l₀ ≡ i = omega (arith, length-append l₀ (w ∷ [])) in
        subst (MemberAt (suc w) s i) (sym (get_or_at l₀ w [] d i at))
        (record { below = le_refl (suc w); member = yes_has s w e; placed = sym (length_members w s) ∙ at })
    last false e l h' = absurd (omega (arith, length-append l₀ []))

pub get_d_members : {s k : ℕ} (w d : ℕ) → k < w → k ∈ s → get_or (members w s) (rank s k) d ≡ k
get_d_members {s} {k} w d h i =
    let m : MemberAt w s (rank s k) (get_or (members w s) (rank s k) d) =
    member_at w s d (rank s k) (subst (λ (n : ℕ). rank s k < n) (sym (length_members w s)) (rank_lt i h)) in
    rank_inj m.member i m.placed

-- ---- its order: ascending, so each member stands in it once

pub members_ascending : (w s d : ℕ) {i j : ℕ} → i < j → j < length (members w s)
    → get_or (members w s) i d < get_or (members w s) j d
members_ascending w s d {i} {j} h l =
    let a : MemberAt w s i (get_or (members w s) i d) = member_at w s d i (lt_trans h l) in
    let b : MemberAt w s j (get_or (members w s) j d) = member_at w s d j l in
    lt_of_not-le (λ g. absurd (omega (arith, rank_mono s g, a.placed, b.placed)))

-- ---- the lowest member comes first

none_below : (w : ℕ) {s : ℕ} → ((j : ℕ) → j < w → j ∉ s) → members w s ≡ []
unfolding members
none_below zero n = refl
none_below (suc w) {s} n =
    ap₂ (λ (l : List ℕ) (b : Bool). l ++ kept b w) (none_below w (λ j h. n j (lt_trans h (le_refl (suc w)))))
    (has_no (n w (le_refl (suc w))))

-- the test of another member is not changed by a removal
has_remove_other : {j k : ℕ} (s : ℕ) → (j ≡ k → ⊥) → has (remove s k) j ≡ has s j
has_remove_other {j} {k} s n =
    ⊎_elim (λ i. has_yes (remove_in i n) ∙ sym (has_yes i)) (λ o. has_no (out o) ∙ sym (has_no o)) (member_or_not j s)
  where
    out : j ∉ s → j ∉ remove s k
    out o = not_in (λ i. in_out (∖_left s (single k) i) o)

pub members_first : {s k : ℕ} (w : ℕ) → k < w → k ∈ s → ((j : ℕ) → j < k → j ∉ s)
    → members w s ≡ k ∷ members w (remove s k)
unfolding members
members_first zero h i n = absurd (not-suc-le-zero h)
members_first {s} {k} (suc w) h i n =
    ⊎_elim here (λ l. later l (members_first w l i n)) (eq-or-lt_of_le (le_of_suc-le-suc h))
  where
    later : k < w → members w s ≡ k ∷ members w (remove s k)
        → members w s ++ kept (has s w) w ≡ k ∷ (members w (remove s k) ++ kept (has (remove s k) w) w)
    later l ih =
        ap₂ (λ (x : List ℕ) (b : Bool). x ++ kept b w) ih (sym (has_remove_other s (λ e. absurd (omega arith))))

    here : k ≡ w → members w s ++ kept (has s w) w ≡ k ∷ (members w (remove s k) ++ kept (has (remove s k) w) w)
    here e =
        ap₂ (λ (x : List ℕ) (b : Bool). x ++ kept b w) (none_below w (λ j l. n j (omega arith)))
        (has_yes (subst (λ (x : ℕ). x ∈ s) e i))
        ∙ ap₂ (λ (x : ℕ) (l : List ℕ). x ∷ l) (sym e) (sym rest_empty)
      where
        gone : (j : ℕ) → j < w → j ∉ remove s k
        gone j l = not_in (λ m. in_out (∖_left s (single k) m) (n j (omega arith)))

        rest_empty : members w (remove s k) ++ kept (has (remove s k) w) w ≡ []
        rest_empty =
            ap₂ (λ (x : List ℕ) (b : Bool). x ++ kept b w) (none_below w gone)
            (has_no (subst (λ (x : ℕ). x ∉ remove s k) e (remove_out s k)))

-- a set that is not empty: its lowest member, and the members of the rest
pub members_lowest : (s w : ℕ) → lowest w s < w → members w s ≡ lowest w s ∷ members w (remove s (lowest w s))
members_lowest s w h = members_first w h (lowest_in w s h) (λ j l. below_lowest w s l)
