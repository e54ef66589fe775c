-- What a scheme by value says: its lists are the arrays up to their counts.
-- In order: its lists and faults, as the code has them.
-- Assumes nothing.
use Rattle.std.specs.Prelude.{◌≡◌, Bool, true, false, List, [], ◌∷◌, ℕ, zero, suc, ◌+◌, ◌≤◌, ◌<◌, length, get_or, take}
use Rattle.sets.specs.Sets.{◌∈◌, ◌∉◌, within, ◌∩◌, OBJECTS}
use Rattle.reduction.specs.Packed.{padded}
use Rattle.scheme.specs.declared.Scheme.{Scheme}
use Rattle.scheme.specs.declared.Dependencies.{Dependencies}
use Rattle.scheme.specs.declared.ObjectList.{ObjectList}
use Rattle.scheme.specs.declared.MaximalList.{MaximalList}
use Rattle.scheme.specs.Dependencies.{Dependency, closure}
use Rattle.scheme.specs.MaximalObjects.{computed, maximal_objects, both_kinds, some_cyclic}

-- ---- its lists and faults

-- the first n dependencies of two arrays of sides
unfoldable pub pairs : ℕ → List ℕ → List ℕ → List Dependency
pairs zero ls rs = []
pairs (suc n) [] rs = []
pairs (suc n) (l ∷ ls) [] = []
pairs (suc n) (l ∷ ls) (r ∷ rs) = record { left = l; right = r } ∷ pairs n ls rs

abbrev pub dependencies_of : Scheme → List Dependency
dependencies_of s = pairs s.dependencies s.left s.right

abbrev pub declared_of : Scheme → List ℕ
declared_of s = take s.maximal.declarations s.maximal.declared

abbrev pub removed_of : Scheme → List ℕ
removed_of s = take s.maximal.removals s.maximal.removed

-- the computed maximal objects of a scheme, and the list of its maximal objects
unfoldable pub computed_of : Scheme → List ℕ
computed_of s = computed (dependencies_of s) s.sets s.objects

unfoldable pub maximal_of : Scheme → List ℕ
maximal_of s = maximal_objects (dependencies_of s) s.sets s.objects s.maximal.only (declared_of s) (removed_of s)

-- the faults 21 and 9
unfoldable pub both_of : Scheme → Bool
both_of s = both_kinds s.maximal.only s.maximal.removals

unfoldable pub cyclic_of : Scheme → Bool
cyclic_of s = some_cyclic s.sets (maximal_of s)

-- ---- as the code has them

-- the dependencies in two lists of sides: each left side with the right side beside it
abbrev pub beside : List ℕ → List ℕ → List Dependency
beside ls rs = pairs (length ls) ls rs

abbrev pub stated : Dependencies → List Dependency
stated d = beside d.left.now d.right.now

-- each object that is declared and not held was asked with the attributes `before`, and did not join
pub record NotJoined (D : List Dependency) (sets : List ℕ) (objects H before : ℕ) : Type 0 where
  pub apart : (k : ℕ) → k < OBJECTS → k ∈ objects → k ∉ H
      → within (get_or sets k 0) (closure D (get_or sets k 0 ∩ before)) ≡ false

-- "8 records of kind 5": how many maximal objects a scheme can have, one computed for each object and those declared
abbrev pub MAXIMALS : ℕ
MAXIMALS = OBJECTS + 8

-- a list of at most so many sets of objects in an array, with 0 behind it, beside its count; and the list again
unfoldable pub listed : List ℕ → ObjectList
listed l = record { sets = padded MAXIMALS l; count = length l }

abbrev pub sets_of : ObjectList → List ℕ
sets_of p = take p.count p.sets

-- a list with room for n sets more
pub record HasRoom (p : ObjectList) (n : ℕ) : Type 0 where
  pub whole : p ≡ listed (sets_of p)
  pub room : p.count + n ≤ MAXIMALS

-- how many of so many computed sets count
unfoldable pub counting_of : Bool → ℕ → ℕ
counting_of only n = elim only [ true ↦ 0 | false ↦ n ]

-- the maximal objects with both faults
unfoldable pub maximal_list_of : Scheme → MaximalList
maximal_list_of s = record {
  sets = padded MAXIMALS (maximal_of s);
  count = length (maximal_of s);
  both = both_of s;
  cyclic = cyclic_of s;
}
