-- The comparison table: "Records" of the paper, the paragraph that begins "Value kinds", and request 7, "A club's own
-- comparison table".
-- In order: masks of operators, the entries of a table, what it allows, the built-in one, the rules of a table.
-- Assumes nothing.
use Rattle.std.specs.Prelude.{◌≡◌, ℕ, zero, suc, ◌+◌, ◌*◌, ◌/◌, ◌%◌, ◌^◌, ◌<◌, Bool, true, not, ◌&&◌, ◌||◌, List, [], ◌∷◌, ◌==◌, nat_lt, slice_index}
use Rattle.values.specs.Operators.{mirror}

-- "bit n for operator n"
abbrev pub mask_has : ℕ → ℕ → Bool
mask_has mask operator = mask / 2 ^ operator % 2 == 1

-- "byte 4 times left kind plus right kind being that pair's operators"
abbrev pub mask_at : List ℕ → ℕ → ℕ → ℕ
mask_at table left right = slice_index table (left * 4 + right)

-- What a table allows. A number over 3 is no kind, one over 5 no operator.
unfoldable pub allows : List ℕ → ℕ → ℕ → ℕ → Bool
allows table operator left right =
    nat_lt operator 6 && nat_lt left 4 && nat_lt right 4 && mask_has (mask_at table left right) operator

-- "The comparison table .. allows 0 and 1 within names and within angles, all six within lengths and within dates, and
-- none between different kinds."
unfoldable pub built_in : List ℕ
built_in =
    3 ∷ 0 ∷ 0 ∷ 0  -- names
    ∷ 0 ∷ 63 ∷ 0 ∷ 0  -- lengths
    ∷ 0 ∷ 0 ∷ 3 ∷ 0  -- angles
    ∷ 0 ∷ 0 ∷ 0 ∷ 63  -- dates
    ∷ []

-- ---- the rules of a table

-- "Each entry must be the mirror of the opposite one (less with greater, at most with at least, equal and unequal each
-- with itself), bits 6 and 7 are clear, and a kind with itself allows equal."
pub record TableRules (table : List ℕ) : Type 0 where
  pub clear : (left right : ℕ) → left < 4 → right < 4 → mask_at table left right < 64
  pub mirrors : (operator left right : ℕ) → operator < 6 → left < 4 → right < 4
      → mask_has (mask_at table right left) (mirror operator) ≡ mask_has (mask_at table left right) operator
  pub equals : (kind : ℕ) → kind < 4 → mask_has (mask_at table kind kind) 0 ≡ true

-- The same as a test: the mirrors of a mask's operators as one mask, an entry by its place, all entries.
unfoldable pub mirrored : ℕ → ℕ
mirrored mask = mask % 4 + mask / 4 % 4 * 16 + mask / 16 % 4 * 4

unfoldable pub entry_keeps : List ℕ → ℕ → Bool
entry_keeps table i =
    nat_lt (slice_index table i) 64
    && mirrored (slice_index table i) == slice_index table (i % 4 * 4 + i / 4)
    && (not (i % 5 == 0) || slice_index table i % 2 == 1)

-- the test passes at each number below n
unfoldable pub every_below : ℕ → (ℕ → Bool) → Bool
every_below zero test = true
every_below (suc n) test = test n && every_below n test

unfoldable pub keeps_rules : List ℕ → Bool
keeps_rules table = every_below 16 (entry_keeps table)
