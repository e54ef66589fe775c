-- The scheme that accepted records make is well formed.
-- In order: wider sets, lists with one more at the end, the scheme of nothing, what each kind adds, accepted records,
-- what a caller needs of it.
-- Assumes nothing.
use mathlib.Core.Path.{◌≡◌, refl, sym, ap, ◌∙◌, subst}
use mathlib.Core.Logic.{⊎_elim}
use mathlib.Core.List.Memᴰ
use mathlib.Core.List.{List, [], ◌∷◌, ◌++◌, Memᴰ}
use Prim.Native.Nat.{ℕ, zero, suc, ◌+◌, ◌^◌, ◌≤◌, ◌<◌}
use native.Mathlib.Nat.{le_of_suc-le-suc, not-suc-le-zero, lt_of_le_of_lt}
use native.Mathlib.Numerals.{add-one, add-one-le}
use native.Mathlib.Omega.{arith}
use lib.ListN.{length, get_or, take, set, length-set}
use lib.Seq.{take-suc-set, get_or-set_same, get_or-set_other}
use Rattle.sets.specs.Sets.{bit, ◌∈◌, ◌∉◌, ◌⊆◌, insert, single, rank, count, members, ATTRIBUTES, OBJECTS}
use Rattle.sets.proofs.Bits.{in_out, not_in, member_or_not}
use Rattle.sets.proofs.Numbers.{eq_or_ne}
use Rattle.sets.proofs.Sets.{∪_cases, ∪_left, in_single, insert_in, ⊆_∪_left, ⊆_trans, ∪_lt, single_lt, zero_out, ⊆_le}
use Rattle.records.specs.Records.{masks_of}
use Rattle.records.specs.Walking.{none, one}
use Rattle.records.specs.declared.Record.{Record}
use Rattle.records.specs.declared.Record.TheVariants.{OfBook, OfQuery}
use Rattle.records.specs.declared.BookRecord.TheVariants.{Attribute, Object, Dependency, Row, Declared, Removed}
use Rattle.records.specs.declared.BookRecord.TheVariants.{ComparisonTable, OnlyDeclared, DeclaredWide}
use Rattle.values.proofs.Table.{built_in_keeps}
use Rattle.scheme.specs.declared.Scheme.{Scheme}
use Rattle.scheme.specs.declared.MaximalRecords.{MaximalRecords}
use Rattle.scheme.specs.Dependencies as Dependencies
use Rattle.scheme.specs.Growing.{family_of}
use Rattle.scheme.specs.OfScheme.{pairs, dependencies_of, declared_of, removed_of, maximal_of}
use Rattle.scheme.specs.Statements.{Bounded, SomeObjects}
use Rattle.scheme.proofs.Theorems.{maximal_objects_are_the_list}
use Rattle.reduction.specs.Statements.{OfAttributes}
use Rattle.reduction.proofs.Places.{place_of}
use Rattle.book.specs.Faults.{SixAtMost, fault_of}
use Rattle.book.specs.Declaring.{nothing_declared, with_attribute, with_object, with_dependency, with_maximal}
use Rattle.book.specs.Declaring.{with_table, with_declared, with_removed, with_only, with_masks, declare}
use Rattle.book.specs.Reading.{Held}
use Rattle.book.specs.Accepting.{AcceptedAs}
use Rattle.book.specs.WellFormed.{SomeAttributes, ObjectSet, MaximalArrays, Arrays, WellFormed}
use Rattle.book.proofs.Lists.{changed, get_d_zeros}
use Rattle.book.proofs.Declaring.{NewAttribute, NewObject, NewDependency, NewMaximal, attribute_accepted}
use Rattle.book.proofs.Declaring.{object_accepted, dependency_accepted, declared_accepted, removed_accepted}
use Rattle.book.proofs.Declaring.{declared_wide_accepted}
use Rattle.book.proofs.Declaring.{NewTable, table_accepted}

-- ---- wider sets

attributes_wider : {A B s : ℕ} → A ⊆ B → SomeAttributes A s → SomeAttributes B s
attributes_wider w v = record { filled = v.filled; inside = ⊆_trans v.inside w }

objects_wider : {A B M : ℕ} → A ⊆ B → SomeObjects A M → SomeObjects B M
objects_wider w v = record { filled = v.filled; inside = ⊆_trans v.inside w }

insert_wider : (s k : ℕ) → s ⊆ insert s k
insert_wider s k = ⊆_∪_left s (single k)

insert_below : (w s k : ℕ) → s < 2 ^ w → k < w → insert s k < 2 ^ w
insert_below w s k h l = ∪_lt w h (single_lt w l)

-- ---- lists with one more at the end

-- what holds of the elements of a list and of one more
one_more : {A : Type 0} {P : A → Type 0} (l : List A) (x : A) → ((y : A) → Memᴰ y l → P y) → P x
    → (y : A) → Memᴰ y (l ++ x ∷ []) → P y
one_more {P = P} l x h p y m =
    ⊎_elim (λ m'. h y m') (λ m'. subst P (sym (Memᴰ.eq_of_singleton m')) p) (Memᴰ.append_cases l m)

pub take_more : (l : List ℕ) (n x : ℕ) → n < length l → take (n + 1) (set l n x) ≡ take n l ++ x ∷ []
take_more l n x h = ap (λ (k : ℕ). take k (set l n x)) (add-one n) ∙ take-suc-set l n x h

pairs_suc : (n : ℕ) (ls rs : List ℕ) (l r : ℕ) → n < length ls → n < length rs
    → pairs (suc n) (set ls n l) (set rs n r) ≡ pairs n ls rs ++ record { left = l; right = r } ∷ []
unfolding pairs
pairs_suc n [] rs l r h k = absurd (not-suc-le-zero h)
pairs_suc n (x ∷ ls) [] l r h k = absurd (not-suc-le-zero k)
pairs_suc zero (x ∷ ls) (y ∷ rs) l r h k = refl
pairs_suc (suc n) (x ∷ ls) (y ∷ rs) l r h k =
    ap (λ (t : List Dependencies.Dependency). record { left = x; right = y } ∷ t)
    (pairs_suc n ls rs l r (le_of_suc-le-suc h) (le_of_suc-le-suc k))

pub pairs_more : (n : ℕ) (ls rs : List ℕ) (l r : ℕ) → n < length ls → n < length rs
    → pairs (n + 1) (set ls n l) (set rs n r) ≡ pairs n ls rs ++ record { left = l; right = r } ∷ []
pairs_more n ls rs l r h k = ap (λ (m : ℕ). pairs m (set ls n l) (set rs n r)) (add-one n) ∙ pairs_suc n ls rs l r h k

-- ---- the scheme of nothing

nothing_arrays : Arrays nothing_declared
unfolding nothing_declared
nothing_arrays = record {
  kinds = refl;
  sets = refl;
  left = refl;
  right = refl;
  dependencies = omega arith;
  maximal = record { declared = refl; removed = refl; declarations = omega arith; removals = omega arith };
}

nothing_well_formed : WellFormed nothing_declared
unfolding nothing_declared pairs
nothing_well_formed = record {
  arrays = nothing_arrays;
  attributes_below = omega arith;
  objects_below = omega arith;
  kinds_below = λ a. subst (λ (x : ℕ). x < 4) (sym (get_d_zeros ATTRIBUTES a)) (omega arith);
  rules = built_in_keeps;
  object_sets = λ k i. absurd (in_out i (zero_out k));
  other_sets = λ k o. get_d_zeros OBJECTS k;
  sides = λ d m. absurd (Memᴰ.not-nil m);
  declared_sets = λ M m. absurd (Memᴰ.not-nil m);
  removed_sets = λ M m. absurd (Memᴰ.not-nil m);
}

-- ---- what each kind adds

module _ {s : Scheme} (v : WellFormed s) where
  attribute_well_formed : (id kind : ℕ) → NewAttribute s id kind → WellFormed (with_attribute s id kind)
  unfolding with_attribute
  attribute_well_formed id kind n = record {
    arrays = record {
      kinds = length-set s.kinds id kind ∙ v.arrays.kinds;
      sets = v.arrays.sets;
      left = v.arrays.left;
      right = v.arrays.right;
      dependencies = v.arrays.dependencies;
      maximal = v.arrays.maximal;
    };
    attributes_below = insert_below ATTRIBUTES s.attributes id v.attributes_below n.below;
    objects_below = v.objects_below;
    kinds_below = λ a. changed (λ (x : ℕ). x < 4) s.kinds id kind a n.known (v.kinds_below a);
    rules = v.rules;
    object_sets = λ k i. record {
      some = attributes_wider (insert_wider s.attributes id) (v.object_sets k i).some;
      six = (v.object_sets k i).six;
    };
    other_sets = v.other_sets;
    sides = λ d m. (
      attributes_wider (insert_wider s.attributes id) (v.sides d m).0,
      attributes_wider (insert_wider s.attributes id) (v.sides d m).1,
    );
    declared_sets = v.declared_sets;
    removed_sets = v.removed_sets;
  }

  module _ (number attributes : ℕ) (n : NewObject s number attributes) where
    -- the sets of the objects with the new one
    object_here : get_or (set s.sets number attributes) number 0 ≡ attributes
    object_here = get_or-set_same s.sets number attributes 0 (omega (arith, n.below, v.arrays.sets))

    object_other : (k : ℕ) → (k ≡ number → ⊥) → get_or (set s.sets number attributes) k 0 ≡ get_or s.sets k 0
    object_other k d = get_or-set_other s.sets number k attributes 0 d

    object_sets_law : (k : ℕ) → k ∈ insert s.objects number
        → ObjectSet s.attributes (get_or (set s.sets number attributes) k 0)
    object_sets_law k i = ⊎_elim here other (eq_or_ne k number)
      where
        here : k ≡ number → ObjectSet s.attributes (get_or (set s.sets number attributes) k 0)
        here e =
            subst (ObjectSet s.attributes)
            (sym (ap (λ (j : ℕ). get_or (set s.sets number attributes) j 0) e ∙ object_here))
            (record { some = n.some; six = n.six })

        other : (k ≡ number → ⊥) → ObjectSet s.attributes (get_or (set s.sets number attributes) k 0)
        other d =
            subst (ObjectSet s.attributes) (sym (object_other k d))
            (v.object_sets k
            (⊎_elim (λ j. j) (λ j. absurd (d (in_single j))) (∪_cases s.objects (single number) i)))

    other_sets_law : (k : ℕ) → k ∉ insert s.objects number → get_or (set s.sets number attributes) k 0 ≡ 0
    other_sets_law k o =
        object_other k (λ e. in_out (subst (λ (j : ℕ). j ∈ insert s.objects number) (sym e) (insert_in s.objects
        number)) o)
        ∙ v.other_sets k (not_in (λ i. in_out (∪_left (single number) i) o))

    object_well_formed : WellFormed (with_object s number attributes)
    unfolding with_object
    object_well_formed = record {
      arrays = record {
        kinds = v.arrays.kinds;
        sets = length-set s.sets number attributes ∙ v.arrays.sets;
        left = v.arrays.left;
        right = v.arrays.right;
        dependencies = v.arrays.dependencies;
        maximal = v.arrays.maximal;
      };
      attributes_below = v.attributes_below;
      objects_below = insert_below OBJECTS s.objects number v.objects_below n.below;
      kinds_below = v.kinds_below;
      rules = v.rules;
      object_sets = object_sets_law;
      other_sets = other_sets_law;
      sides = v.sides;
      declared_sets = λ M m. objects_wider (insert_wider s.objects number) (v.declared_sets M m);
      removed_sets = λ M m. objects_wider (insert_wider s.objects number) (v.removed_sets M m);
    }

  dependency_well_formed : (left right : ℕ) → NewDependency s left right → WellFormed (with_dependency s left right)
  unfolding with_dependency
  dependency_well_formed left right n = record {
    arrays = record {
      kinds = v.arrays.kinds;
      sets = v.arrays.sets;
      left = length-set s.left s.dependencies left ∙ v.arrays.left;
      right = length-set s.right s.dependencies right ∙ v.arrays.right;
      dependencies = add-one-le n.room;
      maximal = v.arrays.maximal;
    };
    attributes_below = v.attributes_below;
    objects_below = v.objects_below;
    kinds_below = v.kinds_below;
    rules = v.rules;
    object_sets = v.object_sets;
    other_sets = v.other_sets;
    sides = λ d m.
        one_more (dependencies_of s) (record { left = left; right = right }) v.sides (n.left_some, n.right_some) d
        (subst (Memᴰ d)
        (pairs_more s.dependencies s.left s.right left right (omega (arith, n.room, v.arrays.left))
        (omega (arith, n.room, v.arrays.right))) m);
    declared_sets = v.declared_sets;
    removed_sets = v.removed_sets;
  }

  -- a set more in an array of eight
  eight_more : (l : List ℕ) (n set' : ℕ) → length l ≡ 8 → NewMaximal s n set'
      → ((M : ℕ) → Memᴰ M (take n l) → SomeObjects s.objects M)
      → (M : ℕ) → Memᴰ M (take (n + 1) (set l n set')) → SomeObjects s.objects M
  eight_more l n set' e w h M m =
      one_more (take n l) set' h w.some M (subst (Memᴰ M) (take_more l n set' (omega (arith, w.room))) m)

  -- other records of maximal objects
  maximal_well_formed : {m : MaximalRecords} → MaximalArrays m
      → ((M : ℕ) → Memᴰ M (take m.declarations m.declared) → SomeObjects s.objects M)
      → ((M : ℕ) → Memᴰ M (take m.removals m.removed) → SomeObjects s.objects M)
      → WellFormed (with_maximal s m)
  unfolding with_maximal
  maximal_well_formed arrays declared removed = record {
    arrays = record {
      kinds = v.arrays.kinds;
      sets = v.arrays.sets;
      left = v.arrays.left;
      right = v.arrays.right;
      dependencies = v.arrays.dependencies;
      maximal = arrays;
    };
    attributes_below = v.attributes_below;
    objects_below = v.objects_below;
    kinds_below = v.kinds_below;
    rules = v.rules;
    object_sets = v.object_sets;
    other_sets = v.other_sets;
    sides = v.sides;
    declared_sets = declared;
    removed_sets = removed;
  }

  module _ (M : ℕ) where
    declared_well_formed : NewMaximal s s.maximal.declarations M
        → WellFormed (with_maximal s (with_declared s.maximal M))
    unfolding with_declared
    declared_well_formed n =
        let m = v.arrays.maximal in
        maximal_well_formed (record {
          declared = length-set s.maximal.declared s.maximal.declarations M ∙ m.declared;
          removed = m.removed;
          declarations = add-one-le n.room;
          removals = m.removals;
        })
        (eight_more s.maximal.declared s.maximal.declarations M m.declared n v.declared_sets)
        v.removed_sets

    removed_well_formed : NewMaximal s s.maximal.removals M
        → WellFormed (with_maximal s (with_removed s.maximal M))
    unfolding with_removed
    removed_well_formed n =
        let m = v.arrays.maximal in
        maximal_well_formed (record {
          declared = m.declared;
          removed = length-set s.maximal.removed s.maximal.removals M ∙ m.removed;
          declarations = m.declarations;
          removals = add-one-le n.room;
        })
        v.declared_sets
        (eight_more s.maximal.removed s.maximal.removals M m.removed n v.removed_sets)

  only_well_formed : WellFormed (with_maximal s (with_only s.maximal))
  unfolding with_only
  only_well_formed =
      let m = v.arrays.maximal in
      maximal_well_formed (record {
        declared = m.declared;
        removed = m.removed;
        declarations = m.declarations;
        removals = m.removals;
      }) v.declared_sets v.removed_sets

  table_well_formed : (names lengths angles dates : ℕ) → NewTable s names lengths angles dates
      → WellFormed (with_table s (with_masks s.table (masks_of names lengths angles dates)))
  unfolding with_table with_masks
  table_well_formed names lengths angles dates n = record {
    arrays = record {
      kinds = v.arrays.kinds;
      sets = v.arrays.sets;
      left = v.arrays.left;
      right = v.arrays.right;
      dependencies = v.arrays.dependencies;
      maximal = v.arrays.maximal;
    };
    attributes_below = v.attributes_below;
    objects_below = v.objects_below;
    kinds_below = v.kinds_below;
    rules = n.rules;
    object_sets = v.object_sets;
    other_sets = v.other_sets;
    sides = v.sides;
    declared_sets = v.declared_sets;
    removed_sets = v.removed_sets;
  }

-- ---- accepted records

declare_well_formed : (s : Scheme) (r : Record) → WellFormed s → fault_of s r ≡ 0 → WellFormed (declare s r)
unfolding declare
declare_well_formed s (OfBook (Attribute id kind)) v f =
    attribute_well_formed v id kind (attribute_accepted s id kind f)
declare_well_formed s (OfBook (Object number set)) v f =
    object_well_formed v number set (object_accepted s number set f)
declare_well_formed s (OfBook (Dependency left right)) v f =
    dependency_well_formed v left right (dependency_accepted s left right f)
declare_well_formed s (OfBook (Row object c0 c1 c2 c3 c4 c5)) v f = v
declare_well_formed s (OfBook (Declared set)) v f = declared_well_formed v set (declared_accepted s set f)
declare_well_formed s (OfBook (Removed set)) v f = removed_well_formed v set (removed_accepted s set f)
declare_well_formed s (OfBook (ComparisonTable names lengths angles dates)) v f =
    table_well_formed v names lengths angles dates (table_accepted s names lengths angles dates f)
declare_well_formed s (OfBook OnlyDeclared) v f = only_well_formed v
declare_well_formed s (OfBook (DeclaredWide set)) v f = declared_well_formed v set (declared_wide_accepted s set f)
declare_well_formed s (OfQuery r) v f = v

pub accepted_well_formed : {b : List ℕ} {rs : List Record} {h : Held} {at : ℕ} → AcceptedAs b rs h at
    → WellFormed h.scheme
accepted_well_formed none = nothing_well_formed
accepted_well_formed (one {s = h} {r = r} a e f l) = declare_well_formed h.scheme r (accepted_well_formed a) f

-- ---- what a caller needs of it

module _ {s : Scheme} (v : WellFormed s) where
  -- the set of any place is one of attributes, six at most
  place_below : (k : ℕ) → get_or s.sets k 0 < 2 ^ ATTRIBUTES
  place_below k =
      ⊎_elim (λ i. lt_of_le_of_lt (⊆_le (v.object_sets k i).some.inside) v.attributes_below)
      (λ o. subst (λ (x : ℕ). x < 2 ^ ATTRIBUTES) (sym (v.other_sets k o)) (omega arith)) (member_or_not k s.objects)

  pub well_formed_six : SixAtMost s
  unfolding rank bit
  well_formed_six = record {
    six = λ k. ⊎_elim (λ i. (v.object_sets k i).six)
        (λ o. subst (λ (x : ℕ). count ATTRIBUTES x ≤ 6) (sym (v.other_sets k o)) (omega arith))
        (member_or_not k s.objects);
  }

  pub sets_of_attributes : OfAttributes s.sets
  sets_of_attributes = record {
    bounded = λ x m. let p = place_of m in subst (λ (y : ℕ). y < 2 ^ ATTRIBUTES) p.holds (place_below p.place);
  }

  pub family_of_attributes : (M : ℕ) → OfAttributes (family_of s.sets M)
  unfolding family_of
  family_of_attributes M = record {
    bounded = λ x m.
        let p = Memᴰ.of_map (λ (k : ℕ). get_or s.sets k 0) (members OBJECTS M) m in
        subst (λ (y : ℕ). y < 2 ^ ATTRIBUTES) p.2 (place_below p.0);
  }

  pub scheme_bounded : Bounded (dependencies_of s) s.sets s.objects
  scheme_bounded = record {
    dependencies = record {
      bounded = λ d m. lt_of_le_of_lt (⊆_le (v.sides d m).1.inside) v.attributes_below;
    };
    attributes = sets_of_attributes;
    declared = v.objects_below;
  }

  -- each maximal object is a non-empty set of declared objects
  pub maximal_some : (M : ℕ) → Memᴰ M (maximal_of s) → SomeObjects s.objects M
  unfolding maximal_of
  maximal_some M m =
      (maximal_objects_are_the_list (dependencies_of s) s.sets s.objects scheme_bounded s.maximal.only
      (declared_of s)
      (removed_of s)).some_objects v.declared_sets M m
