-- The theorems of `Statements`, in its order; before them those of the closure and of grown sets, whose statements
-- stand with their definitions (`LeastClosed`, `LeastGrown`).
-- Assumes nothing.
use mathlib.Core.Bool.{Bool}
use mathlib.Core.List.{List}
use Prim.Native.Nat.{ℕ, ◌^◌, ◌<◌}
use Rattle.sets.specs.Sets.{◌∈◌, ◌⊆◌, ATTRIBUTES, OBJECTS}
use Rattle.scheme.specs.Dependencies.{Dependency, LeastClosed, closure}
use Rattle.scheme.specs.Growing.{LeastGrown, grown}
use Rattle.scheme.specs.Statements.{DeterminesAttributes, Bounded, JoinsByTheRule, GrownInEveryOrder}
use Rattle.scheme.specs.Statements.{ComputedList, Removal, Addition}
use Rattle.scheme.specs.Statements.{BothFault, CyclicFault, MaximalObjectList}
use Rattle.scheme.proofs.Closing.{closure_least, closure_mono}
use Rattle.scheme.proofs.Growing.{joins_by_the_rule, grown_least, grown_in_every_order}
use Rattle.scheme.proofs.Removals.{removal, addition, both_fault, cyclic_fault}
use Rattle.scheme.proofs.MaximalObjects.{computed_list, maximal_object_list}

-- ---- the closure

pub closure_is_least : (D : List Dependency) → DeterminesAttributes D → (A : ℕ) → A < 2 ^ ATTRIBUTES
    → LeastClosed D A (closure D A)
closure_is_least D o A h = closure_least D o h

pub closure_is_monotone : (D : List Dependency) → DeterminesAttributes D → (A B : ℕ) → B < 2 ^ ATTRIBUTES → A ⊆ B
    → closure D A ⊆ closure D B
closure_is_monotone D o A B h s = closure_mono D o h s

-- ---- grown sets

module _ (D : List Dependency) (sets : List ℕ) (objects : ℕ) (o : Bounded D sets objects) where
  pub object_joins_by_the_rule : (H : ℕ) → H < 2 ^ OBJECTS → (k : ℕ) → JoinsByTheRule D sets H k
  object_joins_by_the_rule H h k = joins_by_the_rule D sets objects o h k

  pub grown_is_least : (start : ℕ) → start ∈ objects → LeastGrown D sets objects start (grown D sets objects start)
  grown_is_least start i = grown_least D sets objects o i

  pub grown_is_the_same_in_every_order : (start : ℕ) → start ∈ objects → GrownInEveryOrder D sets objects start
  grown_is_the_same_in_every_order start i = grown_in_every_order D sets objects o i

  -- ---- the computed list

  pub computed_is_the_list : ComputedList D sets objects
  computed_is_the_list = computed_list D sets objects o

  -- ---- the list of maximal objects

  pub maximal_objects_are_the_list : (only : Bool) (declared removed : List ℕ)
      → MaximalObjectList D sets objects only declared removed
  maximal_objects_are_the_list only declared removed = maximal_object_list D sets objects o only declared removed

-- ---- removals and declarations

pub removing_removes : (l named : List ℕ) → Removal l named
removing_removes l named = removal named l

pub adding_adds : (l declared : List ℕ) → Addition l declared
adding_adds = addition

-- ---- the two faults

pub both_is_a_fault : (only : Bool) (removals : ℕ) → BothFault only removals
both_is_a_fault = both_fault

pub cyclic_is_a_fault : (sets l : List ℕ) → CyclicFault sets l
cyclic_is_a_fault = cyclic_fault
