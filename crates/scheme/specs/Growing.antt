-- "Growing maximal objects": "From each object as start: hold it; while some object not held has attributes which are
-- determined, by closure under the dependencies, by those it shares with the attributes held, hold it too." The other
-- side is not used. The objects' sets are a list, object k at place k; a set of objects is a mask.
-- In order: the attributes held, the rule, grown sets, growing computed.
-- Assumes nothing.
use Rattle.std.specs.Prelude.{◌≡◌, Bool, true, false, ◌||◌, ◌&&◌, List, map, ℕ, zero, suc, ◌^◌, eqb, get_or}
use Rattle.sets.specs.Sets.{◌∈◌, ◌∉◌, ◌⊆◌, has, within, ◌∩◌, insert, single, members, OBJECTS}
use Rattle.reduction.specs.Steps.{Family}
use Rattle.reduction.specs.Kept.{union}
use Rattle.scheme.specs.Dependencies.{Dependency, closure}

-- ---- the attributes held

-- the sets of the objects of H, ascending: the family of a maximal object
unfoldable pub family_of : List ℕ → ℕ → Family
family_of sets H = map (λ k. get_or sets k 0) (members OBJECTS H)

-- the attributes of the objects of H
unfoldable pub attributes_of : List ℕ → ℕ → ℕ
attributes_of sets H = union (family_of sets H)

-- ---- the rule

-- object k "has attributes which are determined .. by those it shares with the attributes held"
unfoldable pub joins : List Dependency → List ℕ → ℕ → ℕ → Bool
joins D sets H k = within (get_or sets k 0) (closure D (get_or sets k 0 ∩ attributes_of sets H))

-- ---- grown sets

-- no object of `objects` that is not held can be held
pub record NoneJoins (D : List Dependency) (sets : List ℕ) (objects H : ℕ) : Type 0 where
  pub held : (k : ℕ) → k ∈ objects → joins D sets H k ≡ true → k ∈ H

-- the least set that holds the start and is closed under the rule
pub record LeastGrown (D : List Dependency) (sets : List ℕ) (objects start G : ℕ) : Type 0 where
  pub holds_start : start ∈ G
  pub closed : NoneJoins D sets objects G
  pub least : (H : ℕ) → start ∈ H → NoneJoins D sets objects H → G ⊆ H

-- holding one object at a time, in any order that the rule allows, until none can be held
pub data Holding (D : List Dependency) (sets : List ℕ) (objects : ℕ) : ℕ → ℕ → Type 0 where
  ended : {H : ℕ} → NoneJoins D sets objects H → Holding D sets objects H H
  hold : {H G : ℕ} (k : ℕ) → k ∈ objects → k ∉ H → joins D sets H k ≡ true → Holding D sets objects (insert H k) G
      → Holding D sets objects H G

-- ---- growing computed

-- those of the objects below k that are held or join
unfoldable pub holding : List Dependency → List ℕ → ℕ → ℕ → ℕ → ℕ
holding D sets objects H zero = 0
holding D sets objects H (suc k) =
    elim (has H k || (has objects k && joins D sets H k)) [
      | true ↦ insert (holding D sets objects H k) k
      | false ↦ holding D sets objects H k
    ]

-- one round. Objects are those below OBJECTS
abbrev pub round : List Dependency → List ℕ → ℕ → ℕ → ℕ
round D sets objects H = holding D sets objects H OBJECTS

-- rounds, n at most, until none joins
unfoldable pub rounds : List Dependency → List ℕ → ℕ → ℕ → ℕ → ℕ
rounds D sets objects zero H = H
rounds D sets objects (suc n) H =
    elim (eqb (round D sets objects H) H) [ true ↦ H | false ↦ rounds D sets objects n (round D sets objects H) ]

-- the set grown from a start. A round that holds an object makes the set a larger number, so 2 ^ OBJECTS rounds are
-- enough
unfoldable pub grown : List Dependency → List ℕ → ℕ → ℕ → ℕ
grown D sets objects start = rounds D sets objects (2 ^ OBJECTS) (single start)
