-- Lists as the code returns them: an array with 0 behind the list, beside a count (`padded` of `reduction`).
-- In order: lists in arrays, one more at the end, the list again, packed families, lists of maximal objects.
-- Assumes nothing.
use mathlib.Core.Path.{◌≡◌, refl, sym, ap, ap₂, ◌∙◌}
use mathlib.Core.List.{List, [], ◌∷◌, ◌++◌}
use Prim.Native.Nat.{ℕ, zero, suc, ◌+◌, ◌≤◌, ◌<◌, min}
use native.Mathlib.Nat.{not-suc-le-zero, le_of_suc-le-suc}
use native.Mathlib.Omega.{arith}
use lib.ListN.{length, take, set, length-append}
use Rattle.sets.specs.Sets.{OBJECTS}
use Rattle.reduction.specs.Steps.{Family}
use Rattle.reduction.proofs.Loops.{length_padded}
use Rattle.reduction.specs.Packed.{padded, packed}
use Rattle.reduction.specs.declared.SetList.{SetList}
use Rattle.scheme.specs.declared.ObjectList.{ObjectList}
use Rattle.scheme.specs.OfScheme.{listed, MAXIMALS}

-- ---- lists in arrays

-- the list L stands in an array of n places, with 0 behind it
pub record Listing (n : ℕ) (L : List ℕ) (count : ℕ) (out : List ℕ) : Type 0 where
  pub stored : out ≡ padded n L
  pub counted : count ≡ length L
  pub fits : length L ≤ n

-- ---- one more at the end

padded_room : (n : ℕ) (L : List ℕ) (s : ℕ) → length L < n → set (padded n L) (length L) s ≡ padded n (L ++ s ∷ [])
unfolding padded
padded_room zero L s h = absurd (not-suc-le-zero h)
padded_room (suc n) [] s h = refl
padded_room (suc n) (t ∷ L) s h = ap (λ (l : Family). t ∷ l) (padded_room n L s (le_of_suc-le-suc h))

pub listing_more : {n : ℕ} {L : List ℕ} {count : ℕ} {out : List ℕ} → Listing n L count out → (s : ℕ) → length L < n
    → Listing n (L ++ s ∷ []) (count + 1) (set out count s)
listing_more {n} {L} {count} {out} v s h = record {
  stored = ap₂ (λ (o : List ℕ) (k : ℕ). set o k s) v.stored v.counted ∙ padded_room n L s h;
  counted = ap (λ (k : ℕ). k + 1) v.counted ∙ sym (length-append L (s ∷ []));
  fits = omega (arith, length-append L (s ∷ []));
}

-- the same of a list, an array and a count that are equal to these
pub listing_same : {n : ℕ} {L M : List ℕ} {count m : ℕ} {out o : List ℕ} → Listing n L count out → L ≡ M → m ≡ count
    → o ≡ out → Listing n M m o
listing_same {n} v e q p = record {
  stored = p ∙ v.stored ∙ ap (padded n) e;
  counted = q ∙ v.counted ∙ ap length e;
  fits = omega (arith, v.fits, ap length e);
}

-- ---- the list again

take_padded : (n : ℕ) (L : List ℕ) → length L ≤ n → take (length L) (padded n L) ≡ L
unfolding padded
take_padded n [] h = refl
take_padded zero (s ∷ L) h = absurd (not-suc-le-zero h)
take_padded (suc n) (s ∷ L) h = ap (λ (l : List ℕ). s ∷ l) (take_padded n L (le_of_suc-le-suc h))

module _ {n : ℕ} {L : List ℕ} {count : ℕ} {out : List ℕ} (v : Listing n L count out) where
  pub listing_take : take count out ≡ L
  listing_take =
      ap₂ (λ (k : ℕ) (o : List ℕ). take k o) v.counted v.stored ∙ take_padded n L v.fits

  -- the part of the array that has the list
  pub listing_inside : count ≤ length out
  listing_inside = omega (arith, v.counted, v.fits, ap length v.stored, length_padded n L)

  pub listing_part : count ≡ length (take count out)
  listing_part = v.counted ∙ ap length (sym listing_take)

-- ---- packed families

pub packed_listing : {F : Family} {p : SetList} → p ≡ packed F → length F ≤ OBJECTS
    → Listing OBJECTS F p.count p.sets
unfolding packed
packed_listing {F} {p} e h = record {
  stored = ap (λ (x : SetList). x.sets) e;
  counted = ap (λ (x : SetList). x.count) e ∙ whole;
  fits = h;
}
  where
    whole : min (length F) OBJECTS ≡ length F
    whole = omega arith

pub listing_packed : {F : Family} {count : ℕ} {out : List ℕ} → Listing OBJECTS F count out
    → ◌≡◌ {A = SetList} (record { sets = out; count = count }) (packed F)
unfolding packed
listing_packed {F} v =
    ap₂ {C = SetList} (λ (o : Family) (n : ℕ). record { sets = o; count = n }) v.stored (v.counted ∙ whole)
  where
    whole : length F ≡ min (length F) OBJECTS
    whole = omega (arith, v.fits)

-- ---- lists of maximal objects

pub listed_listing : {L : List ℕ} {p : ObjectList} → p ≡ listed L → length L ≤ MAXIMALS
    → Listing MAXIMALS L p.count p.sets
unfolding listed
listed_listing e h =
    record { stored = ap (λ (x : ObjectList). x.sets) e; counted = ap (λ (x : ObjectList). x.count) e; fits = h }

pub listing_listed : {L : List ℕ} {count : ℕ} {out : List ℕ} → Listing MAXIMALS L count out
    → ◌≡◌ {A = ObjectList} (record { sets = out; count = count }) (listed L)
unfolding listed
listing_listed v =
    ap₂ {C = ObjectList} (λ (o : List ℕ) (n : ℕ). record { sets = o; count = n }) v.stored v.counted
