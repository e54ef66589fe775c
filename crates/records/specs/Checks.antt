-- Checks in a fixed order, the first that holds giving the number: as tests that compute, and as conditions.
-- In order: tests, conditions. Not here: the checks of a book's and of a query's records (`book`, `query`).
-- Assumes nothing.
use Rattle.std.specs.Prelude.{◌≡◌, Bool, true, false, ◌⊎◌, List, [], ◌∷◌, ℕ}

-- ---- tests

-- the number of the first check that holds, 0 where none does
unfoldable pub first_of : List (Bool × ℕ) → ℕ
first_of [] = 0
first_of ((holds, number) ∷ checks) = elim holds [ true ↦ number | false ↦ first_of checks ]

-- ---- conditions

-- a condition and the number that it gives
pub record Condition : Type 1 where
  pub holds : Type 0
  pub number : ℕ

abbrev pub ◌gives◌ : Type 0 → ℕ → Condition
P gives n = record { holds = P; number = n }

infix 0 ◌gives◌
-- n is the number of the first condition that holds, or 0 where none does
unfoldable pub First : List Condition → ℕ → Type 0
First [] n = n ≡ 0
First (c ∷ cs) n = (c.holds × (n ≡ c.number)) ⊎ ((c.holds → ⊥) × First cs n)
