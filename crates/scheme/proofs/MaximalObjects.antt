-- The list of maximal objects.
-- In order: the computed list, the whole list.
-- Assumes nothing.
use mathlib.Core.Path.{◌≡◌, refl, sym, ap, ◌∙◌, subst}
use mathlib.Core.Bool.{Bool, true, false}
use mathlib.Core.Logic.{⊎_elim}
use mathlib.Core.List.Memᴰ
use mathlib.Core.List.{List, [], ◌∷◌, map, Memᴰ}
use Prim.Native.Nat.{ℕ, zero, suc, ◌≤◌, ◌<◌}
use native.Mathlib.Nat.{le_refl, not-suc-le-zero, le_of_suc-le-suc, le_of_lt, eq-or-lt_of_le, lt_of_le_of_lt}
use native.Mathlib.Nat.{lt_of_lt_of_le}
use native.Mathlib.Omega.{arith}
use lib.ListN.{length, get_or, length-map}
use Rattle.sets.specs.Sets.{◌∈◌, ◌⊆◌, rank, members, OBJECTS}
use Rattle.sets.proofs.Bits.{member_lt}
use Rattle.sets.proofs.Sets.{⊆_refl}
use Rattle.sets.proofs.Ranks.{rank_le, rank_lt_count}
use Rattle.sets.proofs.Members.{members_has, members_only, length_members, get_d_members, members_ascending}
use Rattle.reduction.specs.Steps.{Family, NoneTwice, at}
use Rattle.reduction.proofs.Places.{mem_at}
use Rattle.reduction.proofs.Kept.{kept_none_twice}
use Rattle.scheme.specs.Dependencies.{Dependency}
use Rattle.scheme.specs.Growing.{grown}
use Rattle.scheme.specs.MaximalObjects.{all_grown, computed, counted, removing, maximal_objects}
use Rattle.scheme.specs.Statements.{Bounded, LowestStart, ComputedList, SomeObjects, MaximalObjectList}
use Rattle.scheme.proofs.KeptOrder.{KeptAt, kept_at, kept_in_order, kept_first, lies_in_kept, kept_widest}
use Rattle.scheme.proofs.KeptOrder.{length_kept}
use Rattle.scheme.proofs.Growing.{map_in, grown_least, grown_⊆}
use Rattle.scheme.proofs.Lists.{leaves_out_in, none_twice_nil}
use Rattle.scheme.proofs.Removals.{removal, addition, length_removing, length_adding}

-- ---- the computed list

get_d_map : (f : ℕ → ℕ) (l : List ℕ) {i : ℕ} → i < length l → get_or (map f l) i 0 ≡ f (get_or l i 0)
get_d_map f [] h = absurd (not-suc-le-zero h)
get_d_map f (x ∷ l) {i = zero} h = refl
get_d_map f (x ∷ l) {i = suc i} h = get_d_map f l (le_of_suc-le-suc h)

module _ (D : List Dependency) (sets : List ℕ) (objects : ℕ) where
  starts : List ℕ
  starts = members OBJECTS objects

  abbrev grown_sets : Family
  grown_sets = all_grown D sets objects

  length_grown : length grown_sets ≡ length starts
  unfolding starts
  length_grown = length-map (members OBJECTS objects) (grown D sets objects)

  pub length_computed : length (computed D sets objects) ≤ OBJECTS
  unfolding computed
  length_computed =
      omega (
        arith,
        length_kept grown_sets (length grown_sets),
        length-map (members OBJECTS objects) (grown D sets objects),
        length_members OBJECTS objects,
        rank_le objects OBJECTS,
      )

  module _ (o : Bounded D sets objects) where
    -- the place of a start
    start_at : {p : ℕ} → p < length starts → get_or starts p 0 ∈ objects
    unfolding starts
    start_at {p} h = (members_only OBJECTS objects (mem_at (members OBJECTS objects) p h)).1

    grown_in : {k : ℕ} → k ∈ objects → Memᴰ (grown D sets objects k) grown_sets
    grown_in i = map_in (grown D sets objects) (members_has OBJECTS (member_lt OBJECTS o.declared i) i)

    starts_ascend : {p q : ℕ} → p < q → q < length starts → get_or starts p 0 < get_or starts q 0
    unfolding starts
    starts_ascend l h = members_ascending OBJECTS objects 0 l h

    -- a start stands at its rank, which is no lower than the first place with its set
    module _ {j : ℕ} (i : j ∈ objects) where
      rank_there : rank objects j < length starts
      unfolding starts
      rank_there =
          subst (λ (n : ℕ). rank objects j < n) (sym (length_members OBJECTS objects))
          (rank_lt_count OBJECTS o.declared i)

      at_rank_law : get_or starts (rank objects j) 0 ≡ j
      unfolding starts
      at_rank_law = get_d_members OBJECTS 0 (member_lt OBJECTS o.declared i) i

      grown_at_rank : at grown_sets (rank objects j) ≡ grown D sets objects j
      unfolding starts
      grown_at_rank = get_d_map (grown D sets objects) starts rank_there ∙ ap (grown D sets objects) at_rank_law

      first_place : {M : ℕ} (p : KeptAt grown_sets (length grown_sets) M) → grown D sets objects j ≡ M
          → p.place ≤ rank objects j
      first_place p e =
          kept_first grown_sets p.keeping (subst (λ (n : ℕ). rank objects j < n) (sym length_grown) rank_there)
          (subst (λ (x : ℕ). at grown_sets p.place ⊆ x) (p.holds ∙ sym e ∙ sym grown_at_rank)
          (⊆_refl (at grown_sets p.place)))

    -- the start of a kept place is the lowest of its set
    lowest_start : {M : ℕ} (p : KeptAt grown_sets (length grown_sets) M)
        → LowestStart D sets objects M (get_or starts p.place 0)
    unfolding starts
    lowest_start {M} p = record {
      declared = start_at below;
      grows = sym (get_d_map (grown D sets objects) starts below) ∙ p.holds;
      lowest = lowest;
    }
      where
        below : p.place < length starts
        below = subst (λ (n : ℕ). p.place < n) length_grown p.below

        lowest : (j : ℕ) → j ∈ objects → grown D sets objects j ≡ M → get_or starts p.place 0 ≤ j
        lowest j i e =
            subst (λ (x : ℕ). get_or starts p.place 0 ≤ x) (at_rank_law i)
            (⊎_elim
            (λ q. subst (λ (x : ℕ). get_or starts p.place 0 ≤ get_or starts x 0) q (le_refl (get_or starts p.place 0)))
            (λ l. le_of_lt (starts_ascend l (rank_there i)))
            (eq-or-lt_of_le (first_place i p e)))

    by_lowest_start_law : (i j a b : ℕ) → i < j → j < length (computed D sets objects)
        → LowestStart D sets objects (at (computed D sets objects) i) a
        → LowestStart D sets objects (at (computed D sets objects) j) b → a < b
    unfolding computed starts
    by_lowest_start_law i j a b h l s t =
        let k = kept_in_order grown_sets (length grown_sets) h l in
        let s₀ = lowest_start k.first in
        let t₀ = lowest_start k.second in
        let ascends : get_or starts k.first.place 0 < get_or starts k.second.place 0 =
        starts_ascend k.ordered (subst (λ (n : ℕ). k.second.place < n) length_grown k.second.below) in
        lt_of_le_of_lt (s.lowest (get_or starts k.first.place 0) s₀.declared s₀.grows)
        (lt_of_lt_of_le ascends (t₀.lowest b t.declared t.grows))

    pub computed_list : ComputedList D sets objects
    unfolding computed
    computed_list = record {
      has_start = λ M m. let p = kept_at grown_sets (length grown_sets) m in (get_or starts p.place 0, lowest_start p);
      in_no_other = λ M k m i h. kept_widest grown_sets m (grown_in i) h;
      around = λ k i. lies_in_kept grown_sets (grown_in i) (grown_least D sets objects o i).holds_start;
      none_twice = kept_none_twice grown_sets;
      by_lowest_start = by_lowest_start_law;
      at_most = length_computed;
    }

    -- ---- the whole list

    computed_objects : {M : ℕ} → Memᴰ M (computed D sets objects) → SomeObjects objects M
    computed_objects {M} m =
        let (k, s) = computed_list.has_start M m in
        subst (SomeObjects objects) s.grows (record {
          filled = (k, (grown_least D sets objects o s.declared).holds_start);
          inside = grown_⊆ D sets objects o s.declared;
        })

    -- those that count are computed ones
    counted_in : (only : Bool) {M : ℕ} → Memᴰ M (counted only (computed D sets objects))
        → Memᴰ M (computed D sets objects)
    unfolding counted
    counted_in true m = absurd (Memᴰ.not-nil m)
    counted_in false m = m

    counted_once : (only : Bool) → NoneTwice (counted only (computed D sets objects))
    unfolding counted
    counted_once true = none_twice_nil
    counted_once false = computed_list.none_twice

    counted_few : (only : Bool) → length (counted only (computed D sets objects)) ≤ OBJECTS
    unfolding counted
    counted_few true = omega arith
    counted_few false = length_computed

    module _ (only : Bool) (declared removed : List ℕ) where
      abbrev counting : List ℕ
      counting = counted only (computed D sets objects)

      some_objects_law : ((M : ℕ) → Memᴰ M declared → SomeObjects objects M)
          → (M : ℕ) → Memᴰ M (maximal_objects D sets objects only declared removed) → SomeObjects objects M
      unfolding maximal_objects
      some_objects_law h M m =
          ⊎_elim (λ c. computed_objects (counted_in only ((removal removed counting).was_there M c))) (λ d. h M d)
          ((addition (removing counting removed) declared).from_either M m)

      -- a declared set that does not stay is added
      added_in : (M : ℕ) → Memᴰ M declared → (Memᴰ M (removing counting removed) → ⊥)
          → Memᴰ M (addition (removing counting removed) declared).ends
      added_in M d n =
          let l = removing counting removed in
          let r = addition l declared in
          ⊎_elim (λ i. absurd (n i)) (λ i. i)
          (Memᴰ.append_cases l (subst (Memᴰ M) r.at_the_end (r.there M d)))

      pub maximal_object_list : MaximalObjectList D sets objects only declared removed
      unfolding maximal_objects counted
      maximal_object_list =
          let l = removing counting removed in
          let out = removal removed counting in
          let r = addition l declared in
          record {
            counting = counting;
            none_count = λ e. ap (λ (b : Bool). counted b (computed D sets objects)) e;
            all_count = λ e. ap (λ (b : Bool). counted b (computed D sets objects)) e;
            staying = l;
            added = r.ends;
            whole = r.at_the_end;
            stays = λ M. (λ m. (out.was_there M m, out.not_named M m), λ p. out.stays M p.0 p.1);
            stay_in_order = out.ordered;
            adds = λ M. (λ m. (leaves_out_in r.ordered m, r.new M m), λ p. added_in M p.0 p.1);
            added_in_order = r.by_first_place;
            some_objects = some_objects_law;
            none_twice = r.none_twice (out.none_twice (counted_once only));
            at_most = omega (
              arith,
              length_adding l declared,
              counted_few only,
              length_removing removed counting,
            );
          }
