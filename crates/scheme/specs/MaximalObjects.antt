-- The list of maximal objects: "Sets properly inside another, and repeats, go. Order is by lowest start. Then kind 6
-- removes an equal set (named twice, it is removed once and is no fault); kind 5 adds its set at the end unless already
-- there. Every one left must be acyclic".
-- Request 8: "Book kind 14, no body, now means that only declared maximal objects count"; "a removal that matches works,
-- one that matches nothing has no effect".
-- In order: the computed list, those that count, removals, declarations, the two faults.
-- Assumes nothing.
use Rattle.std.specs.Prelude.{Bool, true, false, not, ◌&&◌, ◌||◌, List, [], ◌∷◌, ◌++◌, map, ℕ, eqb, ltb}
use Rattle.sets.specs.Sets.{members, OBJECTS}
use Rattle.reduction.specs.Kept.{maximal, acyclic}
use Rattle.scheme.specs.Dependencies.{Dependency}
use Rattle.scheme.specs.Growing.{family_of, grown}

-- ---- the computed list

-- the sets grown from the declared objects, starts ascending
abbrev pub all_grown : List Dependency → List ℕ → ℕ → List ℕ
all_grown D sets objects = map (grown D sets objects) (members OBJECTS objects)

-- those properly inside another and repeats gone
unfoldable pub computed : List Dependency → List ℕ → ℕ → List ℕ
computed D sets objects = maximal (all_grown D sets objects)

-- ---- those that count: all computed ones, or none where only declared ones do

unfoldable pub counted : Bool → List ℕ → List ℕ
counted only l = elim only [ true ↦ [] | false ↦ l ]

-- ---- removals

-- s is one of the list
unfoldable pub is_one : ℕ → List ℕ → Bool
is_one s [] = false
is_one s (t ∷ l) = eqb s t || is_one s l

-- "kind 6 removes an equal set": the list without those that are named
unfoldable pub removing : List ℕ → List ℕ → List ℕ
removing [] named = []
removing (s ∷ l) named = elim (is_one s named) [ true ↦ removing l named | false ↦ s ∷ removing l named ]

-- ---- declarations

-- "kind 5 adds its set at the end unless already there", one after the other
unfoldable pub adding : List ℕ → List ℕ → List ℕ
adding l [] = l
adding l (s ∷ declared) = elim (is_one s l) [ true ↦ adding l declared | false ↦ adding (l ++ s ∷ []) declared ]

unfoldable pub maximal_objects : List Dependency → List ℕ → ℕ → Bool → List ℕ → List ℕ → List ℕ
maximal_objects D sets objects only declared removed =
    adding (removing (counted only (computed D sets objects)) removed) declared

-- ---- the two faults

-- "21 a book with both kinds": a set is named to be removed, and only declared ones count
unfoldable pub both_kinds : Bool → ℕ → Bool
both_kinds only removals = only && ltb 0 removals

-- some one of the list has a cycle: "a remaining maximal object with a cycle"
unfoldable pub some_cyclic : List ℕ → List ℕ → Bool
some_cyclic sets [] = false
some_cyclic sets (M ∷ l) = not (acyclic (family_of sets M)) || some_cyclic sets l
