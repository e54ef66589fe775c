-- What the loops over dependencies and objects keep, and how a turn carries it on: for each loop a record of what holds
-- at its head, with a lemma for the start, for each way through a turn and for the end.
-- In order: one pass, the sets of the members of a set, their attributes, one round.
-- Not here: passes and rounds (`Repeating`), searches (`Lists`), removals and declarations (`ListLoops`).
-- Assumes nothing.
use mathlib.Core.Path.{◌≡◌, refl, sym, ap, ap₂, ◌∙◌, subst}
use mathlib.Core.Bool.{Bool, true, false, ◌&&◌, ◌||◌}
use mathlib.Core.List.{List, [], ◌∷◌, ◌++◌, map, append-nil}
use Prim.Native.Nat.{ℕ, ◌+◌, ◌≤◌, ◌<◌, min}
use mathlib.Core.Logic.{⊎_elim}
use native.Mathlib.Numerals.{add-one, add-one-le}
use native.Mathlib.Omega.{arith}
use lib.ListN.{length, get_or, drop, take, set, length-map, drop_of_length-le}
use Rattle.sets.specs.Sets.{has, within, ◌∩◌, ◌∪◌, insert, kept, members, OBJECTS}
use Rattle.sets.proofs.Tests.{and_yes, or_left, or_right, or_no}
use Rattle.sets.proofs.Sets.{∪_assoc, ∪_zero_left, ∪_zero_right}
use Rattle.sets.proofs.Numbers.{lt_or_le}
use Rattle.sets.proofs.Ranks.{rank_le}
use Rattle.sets.proofs.Members.{length_members}
use Rattle.reduction.specs.Steps.{Family}
use Rattle.reduction.specs.Kept.{union}
use Rattle.reduction.specs.Packed.{padded, packed}
use Rattle.reduction.specs.declared.SetList.{SetList}
use Rattle.scheme.specs.Dependencies.{Dependency, pass, closure}
use Rattle.scheme.specs.Growing.{family_of, attributes_of, joins, holding, round}
use Rattle.scheme.specs.OfScheme.{pairs, beside}
use Rattle.scheme.proofs.Closing.{after}
use Rattle.scheme.proofs.Lists.{drop_at}
use Rattle.scheme.proofs.Packing.{Listing, listing_more, listing_same, listing_take, packed_listing}

-- ---- one pass: the sides from i on, from what is gathered, give what all of them give

pub record PassSoFar (ls rs : List ℕ) (A i all : ℕ) : Type 0 where
  pub rest : pass (beside (drop i ls) (drop i rs)) all ≡ pass (beside ls rs) A

pub pass_start : (ls rs : List ℕ) (A : ℕ) → PassSoFar ls rs A 0 A
pass_start ls rs A = record { rest = refl }

module _ {ls rs : List ℕ} {A i all : ℕ} (v : PassSoFar ls rs A i all) (h : i < length ls) (g : i < length rs) where
  pass_front : pass (beside (drop (i + 1) ls) (drop (i + 1) rs))
      (after (record { left = get_or ls i 0; right = get_or rs i 0 }) all)
      ≡ pass (beside ls rs) A
  unfolding pass pairs
  pass_front = sym (ap₂ (λ (x y : List ℕ). pass (beside x y) all) (drop_at ls h) (drop_at rs g)) ∙ v.rest

  pass_next : (k r : ℕ) → k ≡ i + 1 → r ≡ after (record { left = get_or ls i 0; right = get_or rs i 0 }) all
      → PassSoFar ls rs A k r
  pass_next k r q e = subst (λ (j : ℕ). PassSoFar ls rs A j r) (sym q)
      (record { rest = ap (pass (beside (drop (i + 1) ls) (drop (i + 1) rs))) e ∙ pass_front })

  -- x and y are the sides at place i, by the test of the left one
  module _ (k r x y : ℕ) (q : k ≡ i + 1) (ex : x ≡ get_or ls i 0) (ey : y ≡ get_or rs i 0) where
    pass_by : (b : Bool) → within x all ≡ b → r ≡ elim b [ true ↦ all ∪ y | false ↦ all ] → PassSoFar ls rs A k r
    pass_by b t e =
        pass_next k r q (e ∙ ap (λ (z : ℕ). elim b [ true ↦ all ∪ z | false ↦ all ]) ey
        ∙ ap (λ (c : Bool). elim c [ true ↦ all ∪ get_or rs i 0 | false ↦ all ])
        (sym (ap (λ (z : ℕ). within z all) (sym ex) ∙ t)))

    pub pass_with : within x all ≡ true → r ≡ all ∪ y → PassSoFar ls rs A k r
    pass_with t e = pass_by true t e

    pub pass_past : within x all ≡ false → r ≡ all → PassSoFar ls rs A k r
    pass_past t e = pass_by false t e

beside_nil : (ls : List ℕ) → beside ls [] ≡ []
unfolding pairs
beside_nil [] = refl
beside_nil (l ∷ ls) = refl

-- no side is left where one of the lists has ended
beside_ended : (ls rs : List ℕ) (i : ℕ) → min (length ls) (length rs) ≤ i → beside (drop i ls) (drop i rs) ≡ []
unfolding pairs
beside_ended ls rs i h =
    ⊎_elim (λ l. ap (beside (drop i ls)) (drop_of_length-le rs (omega arith)) ∙ beside_nil (drop i ls))
    (λ l. ap (λ (x : List ℕ). beside x (drop i rs)) (drop_of_length-le ls l)) (lt_or_le i (length ls))

pub pass_end : {ls rs : List ℕ} {A i all : ℕ} → PassSoFar ls rs A i all → min (length ls) (length rs) ≤ i
    → all ≡ pass (beside ls rs) A
unfolding pass
pass_end {ls} {rs} {A} {i} {all} v h = ap (λ (D : List Dependency). pass D all) (sym (beside_ended ls rs i h)) ∙ v.rest

-- ---- the members of a set, ascending, with what f gives of each

-- one place more, by the test of it
members_more : (f : ℕ → ℕ) (s k : ℕ) (b : Bool) → has s k ≡ b
    → map f (members k s) ++ map f (kept b k) ≡ map f (members (k + 1) s)
unfolding members
members_more f s k b t =
    sym (map-append (members k s) (kept b k)) ∙ ap (λ (c : Bool). map f (members k s ++ kept c k)) (sym t)
    ∙ ap (λ (n : ℕ). map f (members n s)) (sym (add-one k))
  where
    map-append : (x y : List ℕ) → map f (x ++ y) ≡ map f x ++ map f y
    map-append [] y = refl
    map-append (a ∷ x) y = ap (λ (l : List ℕ). f a ∷ l) (map-append x y)

pub length_given : (f : ℕ → ℕ) (s k : ℕ) → length (map f (members k s)) ≤ k
length_given f s k = omega (arith, length-map (members k s) f, length_members k s, rank_le s k)

-- of a set of objects, in an array of n places
pub record MembersSoFar (n : ℕ) (f : ℕ → ℕ) (s k count : ℕ) (out : List ℕ) : Type 0 where
  pub inside : k ≤ OBJECTS
  pub enough : OBJECTS ≤ n
  pub listing : Listing n (map f (members k s)) count out

pub members_start : (n : ℕ) (f : ℕ → ℕ) (s : ℕ) (out : List ℕ) → OBJECTS ≤ n → out ≡ padded n []
    → MembersSoFar n f s 0 0 out
unfolding members
members_start n f s out l e = record {
  inside = omega arith;
  enough = l;
  listing = record { stored = e; counted = refl; fits = omega arith };
}

module _ {n : ℕ} {f : ℕ → ℕ} {s k count : ℕ} {out : List ℕ} (v : MembersSoFar n f s k count out) (h : k < OBJECTS) where
  pub members_room : count < OBJECTS
  members_room = omega (arith, v.listing.counted, length_given f s k)

  pub members_with : {m : ℕ} {o : List ℕ} (x : ℕ) → has s k ≡ true → x ≡ f k → o ≡ set out count x → m ≡ count + 1
      → MembersSoFar n f s (k + 1) m o
  members_with x t e p q = record {
    inside = add-one-le h;
    enough = v.enough;
    listing =
        listing_same (listing_more v.listing x (omega (arith, v.enough, length_given f s k)))
        (ap (λ (y : ℕ). map f (members k s) ++ y ∷ []) e ∙ members_more f s k true t) q p;
  }

  pub members_past : {m : ℕ} {o : List ℕ} → has s k ≡ false → o ≡ out → m ≡ count → MembersSoFar n f s (k + 1) m o
  members_past t p q = record {
    inside = add-one-le h;
    enough = v.enough;
    listing =
        listing_same v.listing (sym (append-nil (map f (members k s))) ∙ members_more f s k false t) q p;
  }

pub members_end : {n : ℕ} {f : ℕ → ℕ} {s k count : ℕ} {out : List ℕ} → MembersSoFar n f s k count out → OBJECTS ≤ k
    → Listing n (map f (members OBJECTS s)) count out
members_end {f = f} {s} {k} v h =
    let e : k ≡ OBJECTS = omega (arith, v.inside) in
    listing_same v.listing (ap (λ (m : ℕ). map f (members m s)) e) refl refl

-- the family of an object set as the code has it
pub family_listing : (sets : List ℕ) (H : ℕ) {p : SetList} → p ≡ packed (family_of sets H)
    → Listing OBJECTS (family_of sets H) p.count p.sets
unfolding family_of
family_listing sets H e = packed_listing e (length_given (λ j. get_or sets j 0) H OBJECTS)

pub family_whole : (sets : List ℕ) (H : ℕ) {p : SetList} {F : Family} → p ≡ packed (family_of sets H)
    → F ≡ take p.count p.sets → F ≡ family_of sets H
family_whole sets H e q = q ∙ listing_take (family_listing sets H e)

-- ---- the attributes of the members

union_snoc : (F : Family) (s : ℕ) → union (F ++ s ∷ []) ≡ union F ∪ s
unfolding union
union_snoc [] s = ∪_zero_right s ∙ sym (∪_zero_left s)
union_snoc (t ∷ F) s = ap (λ (x : ℕ). t ∪ x) (union_snoc F s) ∙ sym (∪_assoc t (union F) s)

pub record AttributesSoFar (sets : List ℕ) (H k all : ℕ) : Type 0 where
  pub inside : k ≤ OBJECTS
  pub these : all ≡ union (map (λ j. get_or sets j 0) (members k H))

pub attributes_start : (sets : List ℕ) (H : ℕ) → AttributesSoFar sets H 0 0
unfolding union members
attributes_start sets H = record { inside = omega arith; these = refl }

module _ {sets : List ℕ} {H k all : ℕ} (v : AttributesSoFar sets H k all) (h : k < OBJECTS) where
  pub attributes_with : (r : ℕ) → has H k ≡ true → r ≡ all ∪ get_or sets k 0 → AttributesSoFar sets H (k + 1) r
  attributes_with r t e = record {
    inside = add-one-le h;
    these =
        e ∙ ap (λ (x : ℕ). x ∪ get_or sets k 0) v.these
        ∙ sym (union_snoc (map (λ j. get_or sets j 0) (members k H)) (get_or sets k 0))
        ∙ ap union (members_more (λ j. get_or sets j 0) H k true t);
  }

  pub attributes_past : (r : ℕ) → has H k ≡ false → r ≡ all → AttributesSoFar sets H (k + 1) r
  attributes_past r t e = record {
    inside = add-one-le h;
    these =
        e ∙ v.these
        ∙ ap union (sym (append-nil (map (λ j. get_or sets j 0) (members k H)))
        ∙ members_more (λ j. get_or sets j 0) H k false t);
  }

pub attributes_end : {sets : List ℕ} {H k all : ℕ} → AttributesSoFar sets H k all → OBJECTS ≤ k
    → all ≡ attributes_of sets H
unfolding attributes_of family_of
attributes_end {sets} {H} {k} v h =
    let e : k ≡ OBJECTS = omega (arith, v.inside) in
    v.these ∙ ap (λ (n : ℕ). union (map (λ j. get_or sets j 0) (members n H))) e

-- ---- one round

pub record HoldingBelow (D : List Dependency) (sets : List ℕ) (objects H k next : ℕ) : Type 0 where
  pub inside : k ≤ OBJECTS
  pub these : next ≡ holding D sets objects H k

pub holding_start : (D : List Dependency) (sets : List ℕ) (objects H : ℕ) → HoldingBelow D sets objects H 0 0
unfolding holding
holding_start D sets objects H = record { inside = omega arith; these = refl }

module _ {D : List Dependency} {sets : List ℕ} {objects H k next : ℕ} (v : HoldingBelow D sets objects H k next)
    (h : k < OBJECTS) where
  -- one object more, by the test of it
  holding_more : (b : Bool) → (has H k || (has objects k && joins D sets H k)) ≡ b
      → elim b [ true ↦ insert (holding D sets objects H k) k | false ↦ holding D sets objects H k ]
      ≡ holding D sets objects H (k + 1)
  unfolding holding
  holding_more b t =
      ap (λ (c : Bool). elim c [ true ↦ insert (holding D sets objects H k) k | false ↦ holding D sets objects H k ])
      (sym t)
      ∙ ap (holding D sets objects H) (sym (add-one k))

  holding_with : (r : ℕ) → (has H k || (has objects k && joins D sets H k)) ≡ true → r ≡ insert next k
      → HoldingBelow D sets objects H (k + 1) r
  holding_with r t e = record {
    inside = add-one-le h;
    these = e ∙ ap (λ (x : ℕ). insert x k) v.these ∙ holding_more true t;
  }

  holding_past : (r : ℕ) → (has objects k && joins D sets H k) ≡ false → has H k ≡ false → r ≡ next
      → HoldingBelow D sets objects H (k + 1) r
  holding_past r t n e = record { inside = add-one-le h; these = e ∙ v.these ∙ holding_more false (or_no n t) }

  pub holding_held : (r : ℕ) → has H k ≡ true → r ≡ insert next k → HoldingBelow D sets objects H (k + 1) r
  holding_held r t e = holding_with r (or_left (has objects k && joins D sets H k) t) e

  pub holding_other : (r : ℕ) → has H k ≡ false → has objects k ≡ false → r ≡ next
      → HoldingBelow D sets objects H (k + 1) r
  holding_other r n x e = holding_past r (ap (λ (b : Bool). b && joins D sets H k) x) n e

  -- the test of an object that is declared and not held, with the attributes held
  module _ (attributes : ℕ) (ea : attributes ≡ attributes_of sets H) (t : Bool)
      (et : t ≡ within (get_or sets k 0) (closure D (get_or sets k 0 ∩ attributes))) (declared : has objects k ≡ true) where
    joins_by : joins D sets H k ≡ t
    unfolding joins
    joins_by = sym (et ∙ ap (λ (x : ℕ). within (get_or sets k 0) (closure D (get_or sets k 0 ∩ x))) ea)

    pub holding_joined : (r : ℕ) → t ≡ true → r ≡ insert next k → HoldingBelow D sets objects H (k + 1) r
    holding_joined r y e = holding_with r (or_right (has H k) (and_yes declared (joins_by ∙ y))) e

    pub holding_apart : (r : ℕ) → has H k ≡ false → t ≡ false → r ≡ next → HoldingBelow D sets objects H (k + 1) r
    holding_apart r n x e = holding_past r (ap₂ (λ (b c : Bool). b && c) declared (joins_by ∙ x)) n e

pub holding_end : {D : List Dependency} {sets : List ℕ} {objects H k next : ℕ} → HoldingBelow D sets objects H k next
    → OBJECTS ≤ k → next ≡ round D sets objects H
holding_end {D} {sets} {objects} {H} {k} v h =
    let e : k ≡ OBJECTS = omega (arith, v.inside) in
    v.these ∙ ap (holding D sets objects H) e
