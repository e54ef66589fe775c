-- Numbers in decimal: "cells in decimal with one space between; lengths may have a minus."
-- In order: the digits of a number, the number of digits, integers, cells.
-- Assumes nothing.
use Rattle.std.specs.Prelude.{◌≡◌, true, false, cond, ℕ, zero, suc, ◌+◌, ◌-◌, ◌*◌, ◌/◌, ◌%◌, ◌≤◌, eqb, ltb, ℤ, pos, negsuc, length, get_or}
use mathlib.Core.List.{List, [], ◌∷◌, ◌++◌, Memᴰ}
use Rattle.values.specs.Values.{missing, value_of}

-- ---- the digits of a number: the bytes 48 to 57 stand for 0 to 9

-- a number below 10 is one digit, any other the digits of its tenth part and then the last one; at most `fuel` digits
unfoldable pub decimal_within : ℕ → ℕ → List ℕ
decimal_within zero n = []
decimal_within (suc fuel) n =
    elim (ltb n 10) [ true ↦ (48 + n) ∷ [] | false ↦ decimal_within fuel (n / 10) ++ (48 + n % 10) ∷ [] ]

-- "in decimal": no number n has more than n + 1 digits
unfoldable pub decimal : ℕ → List ℕ
decimal n = decimal_within (suc n) n

-- what a number in decimal looks like: some digits, no leading zero but that of 0 itself
pub record Numeral (digits : List ℕ) : Type 0 where
  pub some : 1 ≤ length digits
  pub each : (b : ℕ) → Memᴰ b digits → (48 ≤ b) × (b ≤ 57)
  pub leading : get_or digits 0 0 ≡ 48 → length digits ≡ 1

-- ---- the number of digits

-- the number that digits stand for, behind the number m that the digits before them do
unfoldable pub number_from : ℕ → List ℕ → ℕ
number_from m [] = m
number_from m (d ∷ digits) = number_from (m * 10 + (d - 48)) digits

unfoldable pub number_of : List ℕ → ℕ
number_of digits = number_from 0 digits

-- ---- integers

-- "lengths may have a minus": byte 45, then the number without its sign
unfoldable pub integer_text : ℤ → List ℕ
integer_text (pos n) = decimal n
integer_text (negsuc n) = 45 ∷ decimal (suc n)

-- the integer of a text
unfoldable pub integer_of : List ℕ → ℤ
integer_of [] = pos 0
integer_of (b ∷ text) = cond (eqb b 45) (negsuc (number_of text - 1)) (pos (number_of (b ∷ text)))

-- ---- cells

-- "cells in decimal": the value of a cell of a kind
unfoldable pub value_text : ℕ → ℕ → List ℕ
value_text kind cell = integer_text (value_of kind cell)

-- a missing cell "prints as `-`" (request 5)
unfoldable pub cell_text : ℕ → ℕ → List ℕ
cell_text kind cell = cond (missing kind cell) (45 ∷ []) (value_text kind cell)
