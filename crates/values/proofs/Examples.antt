-- Worked examples: operators by their numbers on two cells of a kind, what the definitions give beside what the paper
-- says.
-- In order: the operators on two cells, ranges.
-- Assumes nothing.
use Rattle.std.proofs.Common.{◌≡◌, ℕ, Bool, true, false, List, [], ◌∷◌, map, refl}
use Rattle.values.specs.Values.{missing, in_range, signed, value_of, less_cell, matches}
use Rattle.values.specs.Operators.{compares, holds}

-- "0 equal, 1 unequal, 2 less, 3 at most, 4 greater, 5 at least", then 6, which is no operator: which hold of two cells,
-- each of its own kind
unfoldable pub operators : ℕ → ℕ → ℕ → ℕ → List Bool
operators kind kind2 left right = map (λ operator. holds operator kind kind2 left right) (0 ∷ 1 ∷ 2 ∷ 3 ∷ 4 ∷ 5 ∷ 6 ∷ [])

-- whether a cell is one of each of the kinds 0 to 4
unfoldable pub ranges : ℕ → List Bool
ranges cell = map (λ kind. in_range kind cell) (0 ∷ 1 ∷ 2 ∷ 3 ∷ 4 ∷ [])

-- whether a cell is before another in each of the kinds 0 to 3, and whether it matches itself
unfoldable pub before : ℕ → ℕ → List Bool
before a b = map (λ kind. less_cell kind a b) (0 ∷ 1 ∷ 2 ∷ 3 ∷ [])

unfoldable pub matching : ℕ → List Bool
matching cell = map (λ kind. matches kind cell cell) (0 ∷ 1 ∷ 2 ∷ 3 ∷ [])

-- no operator holds
unfoldable pub none : List Bool
none = false ∷ false ∷ false ∷ false ∷ false ∷ false ∷ false ∷ []

pub record Trial : Type 0 where
  pub gives : List Bool
  pub says : List Bool

-- 4294964796 is the length -2500, 4294966396 the length -900
unfoldable pub trials : List Trial
trials =
    record {
      gives = operators 1 1 4294964796 4294966396;
      says = false ∷ true ∷ true ∷ true ∷ false ∷ false ∷ false ∷ [];
    }
    ∷ record { gives = operators 1 1 10 4294966396; says = false ∷ true ∷ false ∷ false ∷ true ∷ true ∷ false ∷ [] }
    ∷ record { gives = operators 1 1 10 10; says = true ∷ false ∷ false ∷ true ∷ false ∷ true ∷ false ∷ [] }
    -- as dates the two cells are large numbers
    ∷ record { gives = operators 3 3 10 4294966396; says = false ∷ true ∷ true ∷ true ∷ false ∷ false ∷ false ∷ [] }
    ∷ record { gives = operators 0 0 501 501; says = true ∷ false ∷ false ∷ true ∷ false ∷ true ∷ false ∷ [] }
    -- request 7: the length -1 beside the name and the date of its cell less 1, 2 ^ 32 - 2; the least length that there
    -- is, and 2 ^ 31 - 1, the largest
    ∷ record {
      gives = operators 1 0 4294967295 4294967294;
      says = false ∷ true ∷ true ∷ true ∷ false ∷ false ∷ false
          ∷ [];
    }
    ∷ record {
      gives = operators 3 1 4294967294 4294967295;
      says = false ∷ true ∷ false ∷ false ∷ true ∷ true ∷ false
          ∷ [];
    }
    ∷ record { gives = operators 1 3 2147483649 0; says = false ∷ true ∷ true ∷ true ∷ false ∷ false ∷ false ∷ [] }
    ∷ record { gives = operators 1 0 2147483647 2147483648; says = false ∷ true ∷ true ∷ true ∷ false ∷ false ∷ false ∷ [] }
    ∷ record { gives = operators 1 0 2147483647 2147483647; says = true ∷ false ∷ false ∷ true ∷ false ∷ true ∷ false ∷ [] }
    -- "2 angle (0 to 35,999 hundredths of a degree)"; 4 is no kind
    ∷ record { gives = ranges 0; says = true ∷ true ∷ true ∷ true ∷ false ∷ [] }
    ∷ record { gives = ranges 35999; says = true ∷ true ∷ true ∷ true ∷ false ∷ [] }
    ∷ record { gives = ranges 36000; says = true ∷ true ∷ false ∷ true ∷ false ∷ [] }
    ∷ record { gives = ranges 4294967294; says = true ∷ true ∷ false ∷ true ∷ false ∷ [] }
    -- request 5: missing in all kinds but lengths, in range "(angles too)"
    ∷ record { gives = ranges 4294967295; says = true ∷ true ∷ true ∷ true ∷ false ∷ [] }
    -- "With a missing cell each of the six operators is false", on either side and on both
    ∷ record { gives = operators 0 0 4294967295 4294967295; says = none }
    ∷ record { gives = operators 0 0 7 4294967295; says = none }
    ∷ record { gives = operators 2 2 4294967295 7; says = none }
    ∷ record { gives = operators 3 3 4294967295 7; says = none }
    ∷ record { gives = operators 1 1 2147483648 2147483648; says = none }
    ∷ record { gives = operators 1 1 2147483648 7; says = none }
    ∷ record { gives = operators 1 0 2147483648 7; says = none }
    -- and these are not missing
    ∷ record {
      gives = operators 1 1 4294967295 4294967295;
      says = true ∷ false ∷ false ∷ true ∷ false ∷ true ∷ false
          ∷ [];
    }
    ∷ record {
      gives = operators 3 3 2147483648 2147483648;
      says = true ∷ false ∷ false ∷ true ∷ false ∷ true ∷ false
          ∷ [];
    }
    -- it "sorts first": before the least value of each kind, and no value before it
    ∷ record { gives = before 4294967295 0; says = true ∷ true ∷ true ∷ true ∷ [] }
    ∷ record { gives = before 0 4294967295; says = false ∷ false ∷ false ∷ false ∷ [] }
    ∷ record { gives = before 2147483648 2147483649; says = true ∷ true ∷ true ∷ true ∷ [] }
    ∷ record { gives = before 2147483648 2147483647; says = false ∷ true ∷ false ∷ false ∷ [] }
    -- "in a join a missing cell matches nothing, itself included"
    ∷ record { gives = matching 4294967295; says = false ∷ true ∷ false ∷ false ∷ [] }
    ∷ record { gives = matching 2147483648; says = true ∷ false ∷ true ∷ true ∷ [] }
    ∷ []

pub trials_hold : map (λ t. t.gives) trials ≡ map (λ t. t.says) trials
unfolding trials operators ranges before matching none holds compares less_cell matches value_of signed in_range missing
trials_hold = refl
