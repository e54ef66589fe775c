-- Dependencies and the closure of an attribute set: "dependency: left determines right".
-- In order: dependencies, closed sets, the closure computed.
-- Assumes nothing.
use Rattle.std.specs.Prelude.{true, false, ℕ, zero, suc, ◌^◌, eqb}
use mathlib.Core.List.{List, [], ◌∷◌, Memᴰ}
use Rattle.sets.specs.Sets.{◌⊆◌, within, ◌∪◌, ATTRIBUTES}

-- ---- dependencies

pub record Dependency : Type 0 where
  pub left : ℕ
  pub right : ℕ

-- ---- closed sets

-- S has with each left side its right side
pub record Closed (D : List Dependency) (S : ℕ) : Type 0 where
  pub follows : (d : Dependency) → Memᴰ d D → d.left ⊆ S → d.right ⊆ S

-- "determined, by closure under the dependencies": C is the least closed set around A
pub record LeastClosed (D : List Dependency) (A C : ℕ) : Type 0 where
  pub around : A ⊆ C
  pub closed : Closed D C
  pub least : (S : ℕ) → A ⊆ S → Closed D S → C ⊆ S

-- ---- the closure computed

-- one pass: each dependency in turn whose left side is there adds its right side
unfoldable pub pass : List Dependency → ℕ → ℕ
pass [] A = A
pass (d ∷ D) A = pass D (elim (within d.left A) [ true ↦ A ∪ d.right | false ↦ A ])

-- passes, n at most, until nothing is added
unfoldable pub passes : List Dependency → ℕ → ℕ → ℕ
passes D zero A = A
passes D (suc n) A = elim (eqb (pass D A) A) [ true ↦ A | false ↦ passes D n (pass D A) ]

-- the closure of A. A pass that adds an attribute makes the set a larger number, so 2 ^ ATTRIBUTES passes are enough
unfoldable pub closure : List Dependency → ℕ → ℕ
closure D A = passes D (2 ^ ATTRIBUTES) A
