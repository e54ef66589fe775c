-- What the loops over the list of maximal objects keep, and how a turn carries it on: for each loop a record of what
-- holds at its head, with a lemma for the start, for each way through a turn and for the end.
-- In order: removals, declarations, maximal sets.
-- Assumes nothing.
use mathlib.Core.Path.{◌≡◌, refl, sym, ap, ◌∙◌}
use mathlib.Core.Logic.{⊎_elim}
use Rattle.sets.proofs.Tests.{yes_or_no}
use mathlib.Core.Bool.{Bool, true, false}
use mathlib.Core.List.{List, [], ◌∷◌, ◌++◌, append-nil, append_assoc}
use Prim.Native.Nat.{ℕ, ◌+◌, ◌≤◌, ◌<◌}
use native.Mathlib.Numerals.{add-one-le}
use native.Mathlib.Omega.{arith}
use lib.ListN.{length, get_or, take, drop, set, length-append, drop_of_length-le}
use Rattle.sets.specs.Sets.{OBJECTS}
use Rattle.reduction.specs.Kept.{keeps, kept_of, maximal}
use Rattle.reduction.specs.Packed.{padded}
use Rattle.reduction.proofs.Loops.{kept_more}
use Rattle.scheme.specs.MaximalObjects.{is_one, removing, adding}
use Rattle.scheme.specs.OfScheme.{MAXIMALS, listed, sets_of, HasRoom}
use Rattle.scheme.specs.declared.ObjectList.{ObjectList}
use Rattle.scheme.proofs.KeptOrder.{length_kept}
use Rattle.scheme.proofs.Lists.{drop_at}
use Rattle.scheme.proofs.Removals.{leaving, removing_by, adding_there, adding_new}
use Rattle.scheme.proofs.Packing.{Listing, listing_more, listing_same, listing_take, listed_listing}
use Rattle.scheme.proofs.Packing.{listing_listed}

-- ---- removals: what is left of the places before i, and what is left of the others, is what is left of all

pub record RemovingSoFar (l named : List ℕ) (i count : ℕ) (out : List ℕ) : Type 0 where
  pub inside : i ≤ length l
  pub remains : List ℕ
  pub rest : remains ++ removing (drop i l) named ≡ removing l named
  pub few : length remains ≤ i
  pub listing : Listing MAXIMALS remains count out

pub removing_start : (l named : List ℕ) {out : List ℕ} → out ≡ padded MAXIMALS [] → RemovingSoFar l named 0 0 out
removing_start l named e = record {
  inside = omega arith;
  remains = [];
  rest = refl;
  few = omega arith;
  listing = record { stored = e; counted = refl; fits = omega arith };
}

module _ {l named : List ℕ} {i count : ℕ} {out : List ℕ} (fits : length l ≤ OBJECTS)
    (v : RemovingSoFar l named i count out)
    (h : i < length l) where
  pub removing_room : count < MAXIMALS
  removing_room = omega (arith, v.few, v.listing.counted)

  removing_front : (b : Bool) → is_one (get_or l i 0) named ≡ b
      → v.remains ++ leaving named (get_or l i 0) (drop (i + 1) l) b ≡ removing l named
  removing_front b t =
      ap (λ (x : List ℕ). v.remains ++ x) (sym (removing_by named (get_or l i 0) (drop (i + 1) l) b t))
      ∙ ap (λ (x : List ℕ). v.remains ++ removing x named) (sym (drop_at l h)) ∙ v.rest

  pub removing_kept : {m : ℕ} {o : List ℕ} → is_one (get_or l i 0) named ≡ false → o ≡ set out count (get_or l i 0)
      → m ≡ count + 1 → RemovingSoFar l named (i + 1) m o
  removing_kept t p q = record {
    inside = add-one-le h;
    remains = v.remains ++ get_or l i 0 ∷ [];
    rest = append_assoc v.remains (get_or l i 0 ∷ []) (removing (drop (i + 1) l) named) ∙ removing_front false t;
    few = omega (arith, length-append v.remains (get_or l i 0 ∷ []), v.few);
    listing = listing_same (listing_more v.listing (get_or l i 0) (omega (arith, v.few))) refl q p;
  }

  pub removing_gone : {m : ℕ} {o : List ℕ} → is_one (get_or l i 0) named ≡ true → o ≡ out → m ≡ count
      → RemovingSoFar l named (i + 1) m o
  removing_gone t p q = record {
    inside = add-one-le h;
    remains = v.remains;
    rest = removing_front true t;
    few = omega (arith, v.few);
    listing = listing_same v.listing refl q p;
  }

pub removing_end : {l named : List ℕ} {i count : ℕ} {out : List ℕ} → RemovingSoFar l named i count out → length l ≤ i
    → ◌≡◌ {A = ObjectList} (record { sets = out; count = count }) (listed (removing l named))
unfolding removing
removing_end {l} {named} v h =
    listing_listed v.listing
    ∙ ap listed (sym (append-nil v.remains)
    ∙ ap (λ (x : List ℕ). v.remains ++ removing x named) (sym (drop_of_length-le l h)) ∙ v.rest)

-- ---- declarations: the list so far, with the sets from i on, gives what the first list gives with all

pub record AddingSoFar (l declared : List ℕ) (i count : ℕ) (out : List ℕ) : Type 0 where
  pub inside : i ≤ length declared
  pub all : List ℕ
  pub rest : adding all (drop i declared) ≡ adding l declared
  pub few : length all ≤ length l + i
  pub listing : Listing MAXIMALS all count out
  pub room : length l + length declared ≤ MAXIMALS

pub adding_start : (p : ObjectList) (declared : List ℕ) → HasRoom p (length declared)
    → AddingSoFar (sets_of p) declared 0 p.count p.sets
unfolding listed
adding_start p declared r =
    let size : p.count ≡ length (sets_of p) = ap (λ (x : ObjectList). x.count) r.whole in
    let v = listed_listing r.whole (omega (arith, r.room)) in
    record {
      inside = omega arith;
      all = sets_of p;
      rest = refl;
      few = omega arith;
      listing = v;
      room = omega (arith, r.room, v.counted);
    }

module _ {l declared : List ℕ} {i count : ℕ} {out : List ℕ} (v : AddingSoFar l declared i count out)
    (h : i < length declared) where
  pub adding_room : count < MAXIMALS
  adding_room = omega (arith, v.few, v.listing.counted, v.room)

  -- the list that the array holds
  adding_list : take count out ≡ v.all
  adding_list = listing_take v.listing

  adding_front : adding v.all (get_or declared i 0 ∷ drop (i + 1) declared) ≡ adding l declared
  adding_front = ap (adding v.all) (sym (drop_at declared h)) ∙ v.rest

  pub adding_one : {m : ℕ} {o : List ℕ} → is_one (get_or declared i 0) (take count out) ≡ false
      → o ≡ set out count (get_or declared i 0) → m ≡ count + 1 → AddingSoFar l declared (i + 1) m o
  adding_one t p q =
      let x : ℕ = get_or declared i 0 in
      record {
        inside = add-one-le h;
        all = v.all ++ x ∷ [];
        rest =
            sym (adding_new x v.all (drop (i + 1) declared) (ap (is_one x) (sym adding_list) ∙ t)) ∙ adding_front;
        few = omega (arith, length-append v.all (get_or declared i 0 ∷ []), v.few);
        listing = listing_same (listing_more v.listing x (omega (arith, v.few, v.room))) refl q p;
        room = v.room;
      }

  pub adding_none : {m : ℕ} {o : List ℕ} → is_one (get_or declared i 0) (take count out) ≡ true → o ≡ out → m ≡ count
      → AddingSoFar l declared (i + 1) m o
  adding_none t p q =
      let x : ℕ = get_or declared i 0 in
      record {
        inside = add-one-le h;
        all = v.all;
        rest =
            sym (adding_there x v.all (drop (i + 1) declared) (ap (is_one x) (sym adding_list) ∙ t)) ∙ adding_front;
        few = omega (arith, v.few);
        listing = listing_same v.listing refl q p;
        room = v.room;
      }

pub adding_end : {l declared : List ℕ} {i count : ℕ} {out : List ℕ} → AddingSoFar l declared i count out
    → length declared ≤ i
    → ◌≡◌ {A = ObjectList} (record { sets = out; count = count }) (listed (adding l declared))
unfolding adding
adding_end {declared = declared} v h =
    listing_listed v.listing ∙ ap listed (ap (adding v.all) (sym (drop_of_length-le declared h)) ∙ v.rest)

-- ---- maximal sets: the array has the kept ones of the places before i

pub record KeptSoFar (l : List ℕ) (i count : ℕ) (out : List ℕ) : Type 0 where
  pub inside : i ≤ length l
  pub listing : Listing MAXIMALS (kept_of l i) count out

pub kept_start : (l : List ℕ) {out : List ℕ} → out ≡ padded MAXIMALS [] → KeptSoFar l 0 0 out
unfolding kept_of
kept_start l e = record { inside = omega arith; listing = record { stored = e; counted = refl; fits = omega arith } }

module _ {l : List ℕ} {i count : ℕ} {out : List ℕ} (fits : length l ≤ MAXIMALS) (v : KeptSoFar l i count out)
    (h : i < length l) where
  pub kept_room : count < MAXIMALS
  kept_room = omega (arith, v.listing.counted, length_kept l i)

  pub kept_one : {m : ℕ} {o : List ℕ} → true ≡ keeps l i → o ≡ set out count (get_or l i 0) → m ≡ count + 1
      → KeptSoFar l (i + 1) m o
  kept_one y p q = record {
    inside = add-one-le h;
    listing =
        listing_same (listing_more v.listing (get_or l i 0) (omega (arith, length_kept l i)))
        (sym (kept_more l i (get_or l i 0) true refl (sym y))) q p;
  }

  pub kept_not : {m : ℕ} {o : List ℕ} → false ≡ keeps l i → o ≡ out → m ≡ count → KeptSoFar l (i + 1) m o
  kept_not n p q = record {
    inside = add-one-le h;
    listing = listing_same v.listing (sym (kept_more l i (get_or l i 0) false refl (sym n))) q p;
  }

-- one turn, by what it leaves in each case
pub kept_turn : {l : List ℕ} {i count m : ℕ} {out o : List ℕ} → length l ≤ MAXIMALS → KeptSoFar l i count out → i < length l
    → (keeps l i ≡ true → (o ≡ set out count (get_or l i 0)) × (m ≡ count + 1))
    → (keeps l i ≡ false → (o ≡ out) × (m ≡ count)) → KeptSoFar l (i + 1) m o
kept_turn {l} {i} fits v h one none =
    ⊎_elim (λ y. kept_one fits v h (sym y) (one y).0 (one y).1) (λ n. kept_not fits v h (sym n) (none n).0 (none n).1)
    (yes_or_no (keeps l i))

pub kept_end : {l : List ℕ} {i count : ℕ} {out : List ℕ} → KeptSoFar l i count out → length l ≤ i
    → ◌≡◌ {A = ObjectList} (record { sets = out; count = count }) (listed (maximal l))
kept_end {l} {i} v h =
    let e : i ≡ length l = omega (arith, v.inside) in
    listing_listed v.listing ∙ ap (λ (k : ℕ). listed (kept_of l k)) e
