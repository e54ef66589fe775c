-- Value kinds, cells and their order by value: "Records" of the paper, the paragraph that begins "Value kinds".
-- In order: the kinds' numbers, missing cells, which cells are in range, the value of a cell, order, key, match.
-- Not here: operators and the comparison table (`Operators`). A cell is a number below 2 ^ 32.
-- Assumes nothing.
use Rattle.std.specs.Prelude.{ℕ, ◌+◌, ◌%◌, ◌^◌, Bool, cond, not, ◌&&◌, ◌||◌, ℤ, pos, ◌==◌, int_lt, nat_lt}
use Rattle.std.proofs.Math.IntN.{sub_ℕ}

-- "Value kinds: 0 name (unsigned code)"
abbrev pub name_kind : ℕ
name_kind = 0

-- "1 length (signed, two's complement, millimetres)"
abbrev pub length_kind : ℕ
length_kind = 1

-- "2 angle (0 to 35,999 hundredths of a degree)"
abbrev pub angle_kind : ℕ
angle_kind = 2

-- "3 date (unsigned days)"
abbrev pub date_kind : ℕ
date_kind = 3

-- "A length of -2,147,483,648, or 4,294,967,295 in the other kinds (angles too), now means missing" (request 5): of a
-- length the cell is 2 ^ 31.
unfoldable pub missing : ℕ → ℕ → Bool
missing kind cell = cond (kind == length_kind) (cell == 2 ^ 31) (cell == 4294967295)

-- Which cells a kind has: of angles "0 to 35,999", of the other three kinds all; a number over 3 is no kind. A missing
-- cell "is in range" (request 5).
unfoldable pub in_range : ℕ → ℕ → Bool
in_range kind cell = cond (kind == angle_kind) (nat_lt cell 36000 || missing kind cell) (nat_lt kind 4 && nat_lt cell (2 ^ 32))

-- "signed, two's complement": from 2 ^ 31 on the value is the cell less 2 ^ 32.
unfoldable pub signed : ℕ → ℤ
signed cell = cond (nat_lt cell (2 ^ 31)) (pos cell) (sub_ℕ cell (2 ^ 32))

-- The value of a cell by its kind: lengths are "signed", the other kinds are not.
unfoldable pub value_of : ℕ → ℕ → ℤ
value_of kind cell = cond (kind == length_kind) (signed cell) (pos cell)

-- The order of two cells of one kind "by value"; a missing cell "sorts first" (request 5).
unfoldable pub less_cell : ℕ → ℕ → ℕ → Bool
less_cell kind a b = not (missing kind b) && (missing kind a || int_lt (value_of kind a) (value_of kind b))

-- An unsigned number for a cell; the numbers of two cells of one kind stand in the order of the cells.
unfoldable pub key : ℕ → ℕ → ℕ
key kind cell = cond (kind == length_kind) ((cell + 2 ^ 31) % 2 ^ 32) ((cell + 1) % 2 ^ 32)

-- An unsigned number for a cell; the numbers of two cells, of whatever kinds, stand in the order of their values: each is
-- the value moved up by 2 ^ 31. "Between kinds, values are compared as whole numbers." (request 7)
unfoldable pub raised : ℕ → ℕ → ℕ
raised kind cell = cond (kind == length_kind) (key kind cell) (cell + 2 ^ 31)

-- Whether two cells of one value kind match in a join: "in a join a missing cell matches nothing, itself included"
-- (request 5).
unfoldable pub matches : ℕ → ℕ → ℕ → Bool
matches kind a b = not (missing kind a) && a == b
