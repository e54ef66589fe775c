-- Operators: "Records" of the paper, the paragraph that begins "Value kinds".
-- In order: operators and their numbers, what each means of two values, the test by number, and the operators that say
-- the same with the sides turned (`mirror`) and the contrary (`opposite`).
-- Not here: the comparison table (`Table`).
-- Assumes nothing.
use Rattle.std.specs.Prelude.{◌≡◌, ℕ, Bool, false, not, ◌&&◌, ◌||◌, [], ◌∷◌, ℤ, pos, negsuc, ◌≤ℤ◌, ◌<ℤ◌, ◌==◌, int_le, int_lt, slice_index_or}
use Rattle.values.specs.Values.{missing, value_of}

pub data Operator : Type 0 where
  equal unequal less at_most greater at_least : Operator

-- "Operators: 0 equal, 1 unequal, 2 less, 3 at most, 4 greater, 5 at least."
unfoldable pub operator_number : Operator → ℕ
operator_number equal = 0
operator_number unequal = 1
operator_number less = 2
operator_number at_most = 3
operator_number greater = 4
operator_number at_least = 5

-- What an operator says of the values left and right of it.
unfoldable pub Means : Operator → ℤ → ℤ → Type 0
Means equal x y = x ≡ y
Means unequal x y = ¬ (x ≡ y)
Means less x y = x <ℤ y
Means at_most x y = x ≤ℤ y
Means greater x y = y <ℤ x
Means at_least x y = y ≤ℤ x

-- Whether two integers are equal, as a test that computes.
abbrev pub eq_z : ℤ → ℤ → Bool
eq_z (pos a) (pos b) = a == b
eq_z (pos a) (negsuc b) = false
eq_z (negsuc a) (pos b) = false
eq_z (negsuc a) (negsuc b) = a == b

-- The tests of two values, in the order of the operators' numbers; a number over 5 never holds.
unfoldable pub compares : ℕ → ℤ → ℤ → Bool
compares operator x y =
    slice_index_or (eq_z x y ∷ not (eq_z x y) ∷ int_lt x y ∷ int_le x y ∷ int_lt y x ∷ int_le y x ∷ []) operator false

-- Whether an operator, by its number, holds of two cells, each of its own kind. "Between kinds, values are compared as
-- whole numbers." (request 7) "With a missing cell each of the six operators is false" (request 5).
unfoldable pub holds : ℕ → ℕ → ℕ → ℕ → ℕ → Bool
holds operator kind kind2 left right =
    not (missing kind left || missing kind2 right) && compares operator (value_of kind left) (value_of kind2 right)

-- The operator that says the same with the sides turned: less with greater, at most with at least, equal and unequal
-- each with itself.
unfoldable pub mirror : ℕ → ℕ
mirror operator = slice_index_or (0 ∷ 1 ∷ 4 ∷ 5 ∷ 2 ∷ 3 ∷ []) operator operator

-- The operator that says the contrary of two values: equal with unequal, less with at least, at most with greater. Of
-- missing cells neither holds.
unfoldable pub opposite : ℕ → ℕ
opposite operator = slice_index_or (1 ∷ 0 ∷ 5 ∷ 4 ∷ 3 ∷ 2 ∷ []) operator operator
