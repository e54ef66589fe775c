-- What is proved of closures, grown sets and the list of maximal objects. The proofs are in `proofs/Theorems.antt`.
-- In order: what a scheme has, when an object joins, growing in every order, the computed list, removals and
-- declarations, the two faults, the list of maximal objects.
-- Assumes nothing.
use Rattle.std.specs.Prelude.{◌≡◌, Bool, true, false, ◌⊎◌, ◌↔◌, ℕ, ◌+◌, ◌^◌, ◌≤◌, ◌<◌, length, get_or}
use mathlib.Core.List.{List, [], ◌∷◌, ◌++◌, Memᴰ}
use Rattle.sets.specs.Sets.{◌∈◌, ◌⊆◌, single, ATTRIBUTES, OBJECTS}
use Rattle.reduction.specs.Steps.{at, NoneTwice}
use Rattle.reduction.specs.Kept.{acyclic}
use Rattle.reduction.specs.Statements.{OfAttributes, LiesIn}
use Rattle.scheme.specs.Dependencies.{Dependency, LeastClosed}
use Rattle.scheme.specs.Growing.{family_of, joins, Holding, grown}
use Rattle.scheme.specs.MaximalObjects.{computed, removing, adding, maximal_objects, both_kinds, some_cyclic}

-- ---- what a scheme has: attributes below ATTRIBUTES, objects below OBJECTS

-- what the dependencies determine are sets of attributes
pub record DeterminesAttributes (D : List Dependency) : Type 0 where
  pub bounded : (d : Dependency) → Memᴰ d D → d.right < 2 ^ ATTRIBUTES

pub record Bounded (D : List Dependency) (sets : List ℕ) (objects : ℕ) : Type 0 where
  pub dependencies : DeterminesAttributes D
  pub attributes : OfAttributes sets
  pub declared : objects < 2 ^ OBJECTS

-- ---- when an object joins

-- attribute a is one of those that object k "shares with the attributes held": it is one of k's and one of an object's
-- that is held
pub record Shared (sets : List ℕ) (H k a : ℕ) : Type 0 where
  pub own : a ∈ get_or sets k 0
  pub holder : ℕ
  pub held : holder ∈ H
  pub theirs : a ∈ get_or sets holder 0

-- an object joins exactly if it "has attributes which are determined, by closure under the dependencies, by those it
-- shares with the attributes held": they lie in the least closed set around those, and there is one
pub record JoinsByTheRule (D : List Dependency) (sets : List ℕ) (H k : ℕ) : Type 0 where
  pub shares : ℕ
  pub is_shared : (a : ℕ) → (a ∈ shares) ↔ Shared sets H k a
  pub exactly : (C : ℕ) → LeastClosed D shares C → (joins D sets H k ≡ true) ↔ (get_or sets k 0 ⊆ C)
  pub some : (C : ℕ) × LeastClosed D shares C

-- ---- growing in every order

-- whichever object is held first of those that the rule allows, the same set is grown; and there is a way to grow it
pub record GrownInEveryOrder (D : List Dependency) (sets : List ℕ) (objects start : ℕ) : Type 0 where
  pub every : (G : ℕ) → Holding D sets objects (single start) G → G ≡ grown D sets objects start
  pub some : Holding D sets objects (single start) (grown D sets objects start)

-- ---- the computed list

-- k is the lowest object from which M is grown
pub record LowestStart (D : List Dependency) (sets : List ℕ) (objects M k : ℕ) : Type 0 where
  pub declared : k ∈ objects
  pub grows : grown D sets objects k ≡ M
  pub lowest : (j : ℕ) → j ∈ objects → grown D sets objects j ≡ M → k ≤ j

-- "Sets properly inside another, and repeats, go. Order is by lowest start."
pub record ComputedList (D : List Dependency) (sets : List ℕ) (objects : ℕ) : Type 0 where
  pub has_start : (M : ℕ) → Memᴰ M (computed D sets objects) → (k : ℕ) × LowestStart D sets objects M k
  pub in_no_other : (M k : ℕ) → Memᴰ M (computed D sets objects) → k ∈ objects → M ⊆ grown D sets objects k
      → M ≡ grown D sets objects k
  pub around : (k : ℕ) → k ∈ objects → LiesIn (grown D sets objects k) (computed D sets objects)
  pub none_twice : NoneTwice (computed D sets objects)
  pub by_lowest_start : (i j a b : ℕ) → i < j → j < length (computed D sets objects)
      → LowestStart D sets objects (at (computed D sets objects) i) a
      → LowestStart D sets objects (at (computed D sets objects) j) b → a < b
  pub at_most : length (computed D sets objects) ≤ OBJECTS

-- ---- removals and declarations

-- the first list is the second with some left out
pub data LeavesOut : List ℕ → List ℕ → Type 0 where
  ended : LeavesOut [] []
  kept : {l m : List ℕ} (s : ℕ) → LeavesOut l m → LeavesOut (s ∷ l) (s ∷ m)
  out : {l m : List ℕ} (s : ℕ) → LeavesOut l m → LeavesOut l (s ∷ m)

-- "kind 6 removes an equal set (named twice, it is removed once and is no fault)"
pub record Removal (l named : List ℕ) : Type 0 where
  pub stays : (s : ℕ) → Memᴰ s l → (Memᴰ s named → ⊥) → Memᴰ s (removing l named)
  pub was_there : (s : ℕ) → Memᴰ s (removing l named) → Memᴰ s l
  pub not_named : (s : ℕ) → Memᴰ s (removing l named) → Memᴰ s named → ⊥
  pub ordered : LeavesOut (removing l named) l
  pub none_twice : NoneTwice l → NoneTwice (removing l named)

-- a is the first place of M in the list
pub record FirstPlace (l : List ℕ) (M a : ℕ) : Type 0 where
  pub there : a < length l
  pub holds : at l a ≡ M
  pub first : (i : ℕ) → i < a → at l i ≡ M → ⊥

-- the list has its sets in the order of their first places in the second one
pub record ByFirstPlace (l declared : List ℕ) : Type 0 where
  pub before : (i j a b : ℕ) → i < j → j < length l → FirstPlace declared (at l i) a → FirstPlace declared (at l j) b
      → a < b

-- "kind 5 adds its set at the end unless already there": of sets declared twice the first is added
pub record Addition (l declared : List ℕ) : Type 0 where
  pub ends : List ℕ
  pub at_the_end : adding l declared ≡ l ++ ends
  pub new : (s : ℕ) → Memᴰ s ends → Memᴰ s l → ⊥
  pub ordered : LeavesOut ends declared
  pub by_first_place : ByFirstPlace ends declared
  pub stays : (s : ℕ) → Memᴰ s l → Memᴰ s (adding l declared)
  pub there : (s : ℕ) → Memᴰ s declared → Memᴰ s (adding l declared)
  pub from_either : (s : ℕ) → Memᴰ s (adding l declared) → Memᴰ s l ⊎ Memᴰ s declared
  pub none_twice : NoneTwice l → NoneTwice (adding l declared)

-- ---- the two faults

-- "21 a book with both kinds"
pub record BothFault (only : Bool) (removals : ℕ) : Type 0 where
  pub exactly : (both_kinds only removals ≡ true) ↔ ((only ≡ true) × (1 ≤ removals))

-- "a remaining maximal object with a cycle"
pub record CyclicFault (sets l : List ℕ) : Type 0 where
  pub yes : (M : ℕ) → Memᴰ M l → acyclic (family_of sets M) ≡ false → some_cyclic sets l ≡ true
  pub yes_back : some_cyclic sets l ≡ true → (M : ℕ) × Memᴰ M l × (acyclic (family_of sets M) ≡ false)
  pub no : ((M : ℕ) → Memᴰ M l → acyclic (family_of sets M) ≡ true) → some_cyclic sets l ≡ false
  pub no_back : some_cyclic sets l ≡ false → (M : ℕ) → Memᴰ M l → acyclic (family_of sets M) ≡ true

-- ---- the list of maximal objects

-- M has an object, and its objects are declared
pub record SomeObjects (objects M : ℕ) : Type 0 where
  pub filled : (k : ℕ) × (k ∈ M)
  pub inside : M ⊆ objects

-- the list is the computed sets that count and are not removed, in their order, then the declared ones that are not among
-- them, each at its first place; a removal that matches nothing has no effect
pub record MaximalObjectList (D : List Dependency) (sets : List ℕ) (objects : ℕ) (only : Bool)
    (declared removed : List ℕ) : Type 0 where
  pub counting : List ℕ
  pub none_count : only ≡ true → counting ≡ []
  pub all_count : only ≡ false → counting ≡ computed D sets objects
  pub staying : List ℕ
  pub added : List ℕ
  pub whole : maximal_objects D sets objects only declared removed ≡ staying ++ added
  pub stays : (M : ℕ) → Memᴰ M staying ↔ (Memᴰ M counting × (Memᴰ M removed → ⊥))
  pub stay_in_order : LeavesOut staying counting
  pub adds : (M : ℕ) → Memᴰ M added ↔ (Memᴰ M declared × (Memᴰ M staying → ⊥))
  pub added_in_order : ByFirstPlace added declared
  pub some_objects : ((M : ℕ) → Memᴰ M declared → SomeObjects objects M)
      → (M : ℕ) → Memᴰ M (maximal_objects D sets objects only declared removed) → SomeObjects objects M
  pub none_twice : NoneTwice (maximal_objects D sets objects only declared removed)
  pub at_most : length (maximal_objects D sets objects only declared removed) ≤ OBJECTS + length declared
