-- What the code finds of a scheme, put together from what its callees give.
-- In order: the sides up to a count, the computed list, the list of maximal objects.
-- Assumes nothing.
use mathlib.Core.Path.{◌≡◌, refl, sym, ap, ap₂, ◌∙◌, subst}
use mathlib.Core.Bool.{Bool, true, false}
use mathlib.Core.List.{List, [], ◌∷◌}
use Prim.Native.Nat.{ℕ, zero, suc, ◌≤◌}
use native.Mathlib.Omega.{arith}
use lib.ListN.{length, take, length-take}
use Rattle.sets.specs.Sets.{OBJECTS}
use Rattle.reduction.specs.Steps.{Family}
use Rattle.reduction.specs.Kept.{maximal}
use Rattle.reduction.specs.Packed.{padded}
use Rattle.scheme.specs.declared.Scheme.{Scheme}
use Rattle.scheme.specs.declared.ObjectList.{ObjectList}
use Rattle.scheme.specs.declared.MaximalList.{MaximalList}
use Rattle.scheme.specs.Dependencies.{Dependency}
use Rattle.scheme.specs.Growing.{grown}
use Rattle.scheme.specs.MaximalObjects.{all_grown, computed, counted, removing, adding, maximal_objects, both_kinds}
use Rattle.scheme.specs.MaximalObjects.{some_cyclic}
use Rattle.scheme.specs.OfScheme.{pairs, beside, listed, sets_of, HasRoom, declared_of, removed_of, computed_of, maximal_of}
use Rattle.scheme.specs.OfScheme.{MAXIMALS, counting_of, both_of, cyclic_of, maximal_list_of}
use Rattle.scheme.proofs.Removals.{length_removing, length_adding}
use Rattle.scheme.proofs.MaximalObjects.{length_computed}
use Rattle.scheme.proofs.Packing.{listing_take, listed_listing}
use Rattle.scheme.proofs.Loops.{length_given}

-- ---- the sides up to a count

-- the sides up to a count, each left one with the right one beside it, are the dependencies of that count
pub beside_taken : (n : ℕ) (ls rs : List ℕ) → beside (take n ls) (take n rs) ≡ pairs n ls rs
unfolding pairs
beside_taken zero ls rs = refl
beside_taken (suc n) [] rs = refl
beside_taken (suc n) (l ∷ ls) [] = refl
beside_taken (suc n) (l ∷ ls) (r ∷ rs) =
    ap (λ (D : List Dependency). record { left = l; right = r } ∷ D) (beside_taken n ls rs)

-- ---- the computed list

module _ (D : List Dependency) (sets : List ℕ) (objects : ℕ) where
  grown_few : length (all_grown D sets objects) ≤ MAXIMALS
  grown_few = omega (arith, length_given (grown D sets objects) objects OBJECTS)

  -- the grown sets, read back out of their array
  pub grown_list : {p : ObjectList} {l : List ℕ} → p ≡ listed (all_grown D sets objects) → l ≡ take p.count p.sets
      → l ≡ all_grown D sets objects
  grown_list e q = q ∙ listing_take (listed_listing e grown_few)

  pub grown_fits : {l : List ℕ} → l ≡ all_grown D sets objects → length l ≤ MAXIMALS
  grown_fits e = subst (λ (x : List ℕ). length x ≤ MAXIMALS) (sym e) grown_few

  pub computed_by : {l : List ℕ} → l ≡ all_grown D sets objects → listed (maximal l) ≡ listed (computed D sets objects)
  unfolding computed
  computed_by e = ap (λ (F : Family). listed (maximal F)) e

-- those of a list that count, as the code has them
counted_by : (b : Bool) (p : ObjectList) {n : ℕ} {l m : List ℕ} → take p.count p.sets ≡ m
    → n ≡ counting_of b p.count → l ≡ take n p.sets → l ≡ counted b m
unfolding counted counting_of
counted_by true p t q z = z ∙ ap (λ (i : ℕ). take i p.sets) q
counted_by false p t q z = z ∙ ap (λ (i : ℕ). take i p.sets) q ∙ t

counted_few : (b : Bool) (l : List ℕ) → length l ≤ OBJECTS → length (counted b l) ≤ OBJECTS
unfolding counted
counted_few true l h = omega arith
counted_few false l h = h

module _ (s : Scheme) where
  pub computed_of_fact : {p : ObjectList} {ls rs : List ℕ} → ls ≡ take s.dependencies s.left
      → rs ≡ take s.dependencies s.right
      → p ≡ listed (computed (beside ls rs) s.sets s.objects) → p ≡ listed (computed_of s)
  unfolding computed_of
  computed_of_fact l r q =
      q ∙ ap (λ (D : List Dependency). listed (computed D s.sets s.objects))
      (ap₂ beside l r ∙ beside_taken s.dependencies s.left s.right)

  -- ---- the list of maximal objects

  length_found : length (computed_of s) ≤ OBJECTS
  unfolding computed_of
  length_found = length_computed (pairs s.dependencies s.left s.right) s.sets s.objects

  -- the computed list, read back out of its array
  pub found_list : {p : ObjectList} {l : List ℕ} → p ≡ listed (computed_of s) → l ≡ take p.count p.sets
      → l ≡ computed_of s
  found_list e q = q ∙ listing_take (listed_listing e (omega (arith, length_found)))

  -- those that count
  abbrev counts : List ℕ
  counts = counted s.maximal.only (computed_of s)

  pub counted_list : {p : ObjectList} {n : ℕ} {l : List ℕ} → p ≡ listed (computed_of s)
      → n
      ≡ counting_of s.maximal.only p.count
      → l ≡ take n p.sets → l ≡ counts
  counted_list {p} e q z = counted_by s.maximal.only p (found_list e refl) q z

  length_counts : length counts ≤ OBJECTS
  length_counts = counted_few s.maximal.only (computed_of s) length_found

  pub found_few : {l : List ℕ} → l ≡ counts → length l ≤ OBJECTS
  found_few e = subst (λ (x : List ℕ). length x ≤ OBJECTS) (sym e) length_counts

  abbrev remaining : List ℕ
  remaining = removing counts (removed_of s)

  rest_few : length remaining ≤ OBJECTS
  rest_few = omega (arith, length_removing (removed_of s) counts, length_counts)

  pub rest_of : {p : ObjectList} {l r : List ℕ} → l ≡ counts → r ≡ removed_of s → p ≡ listed (removing l r)
      → p ≡ listed remaining
  rest_of e q t = t ∙ ap₂ (λ (x y : List ℕ). listed (removing x y)) e q

  declared_few : {d : List ℕ} → length s.maximal.declared ≡ 8 → d ≡ declared_of s → length d ≤ 8
  declared_few {d} l e = omega (arith, ap length e, length-take s.maximal.declarations s.maximal.declared)

  rest_list : {p : ObjectList} → p ≡ listed remaining → sets_of p ≡ remaining
  rest_list e = listing_take (listed_listing e (omega (arith, rest_few)))

  pub rest_room : {p : ObjectList} {d : List ℕ} → p ≡ listed remaining → length s.maximal.declared ≡ 8 → d
      ≡ declared_of s
      → HasRoom p (length d)
  rest_room e l q = record {
    whole = e ∙ ap listed (sym (rest_list e));
    room = omega (arith, (listed_listing e (omega (arith, rest_few))).counted, rest_few, declared_few l q);
  }

  pub all_of : {p a : ObjectList} {d : List ℕ} → p ≡ listed remaining → d ≡ declared_of s
      → a ≡ listed (adding (sets_of p) d) → a ≡ listed (maximal_of s)
  unfolding maximal_of maximal_objects computed_of
  all_of e q t = t ∙ ap₂ (λ (x y : List ℕ). listed (adding x y)) (rest_list e) q

  -- at most MAXIMALS of them, read back out of their array
  pub all_few : length s.maximal.declared ≡ 8 → length (maximal_of s) ≤ MAXIMALS
  unfolding maximal_of maximal_objects computed_of
  all_few l = omega (arith, length_adding remaining (declared_of s), rest_few, declared_few l refl)

  pub all_list : {a : ObjectList} {l : List ℕ} → a ≡ listed (maximal_of s) → length s.maximal.declared ≡ 8
      → l ≡ take a.count a.sets → l ≡ maximal_of s
  all_list e h q = q ∙ listing_take (listed_listing e (all_few h))

  -- the two faults, and all of it
  pub both_of_fact : {u : Bool} → u ≡ both_kinds s.maximal.only s.maximal.removals → u ≡ both_of s
  unfolding both_of
  both_of_fact e = e

  pub cyclic_of_fact : {y : Bool} {l : List ℕ} → l ≡ maximal_of s → y ≡ some_cyclic s.sets l → y ≡ cyclic_of s
  unfolding cyclic_of
  cyclic_of_fact e t = t ∙ ap (some_cyclic s.sets) e

  pub returned : {a : ObjectList} {u y : Bool} → a ≡ listed (maximal_of s) → u ≡ both_of s → y ≡ cyclic_of s
      → ◌≡◌ {A = MaximalList} (record { sets = a.sets; count = a.count; both = u; cyclic = y }) (maximal_list_of s)
  unfolding maximal_list_of listed
  returned {u = u} {y} e p q =
      ap {B = MaximalList}
      (λ (x : ObjectList). record { sets = x.sets; count = x.count; both = u; cyclic = y }) e
      ∙ ap₂ {C = MaximalList} (λ (b c : Bool). record {
        sets = padded MAXIMALS (maximal_of s);
        count = length (maximal_of s);
        both = b;
        cyclic = c;
      }) p q
