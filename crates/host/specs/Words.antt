-- A few words for each number of the fixed list of refusals, as bytes. `docs/REFUSALS.md` has the same table.
-- Assumes nothing.
use Rattle.std.specs.Prelude.{Err, Bool, true, false, List, [], ◌∷◌, ℕ, ltb, length, get_or}
use Rattle.printout.specs.Printing.{Printed, printed, after}
use Rattle.printout.specs.declared.Unprinted.TheVariants.{NotFit}

-- from number 0 on; a number that no refusal has has none
unfoldable pub words : List (List ℕ)
words =
    []
    -- 1: too many bytes
    ∷ (116 ∷ 111 ∷ 111 ∷ 32 ∷ 109 ∷ 97 ∷ 110 ∷ 121 ∷ 32 ∷ 98 ∷ 121 ∷ 116 ∷ 101 ∷ 115 ∷ [])
    -- 2: kind not allowed
    ∷ (107 ∷ 105 ∷ 110 ∷ 100 ∷ 32 ∷ 110 ∷ 111 ∷ 116 ∷ 32 ∷ 97 ∷ 108 ∷ 108 ∷ 111 ∷ 119 ∷ 101 ∷ 100 ∷ [])
    -- 3: record cut short
    ∷ (114 ∷ 101 ∷ 99 ∷ 111 ∷ 114 ∷ 100 ∷ 32 ∷ 99 ∷ 117 ∷ 116 ∷ 32 ∷ 115 ∷ 104 ∷ 111 ∷ 114 ∷ 116 ∷ [])
    -- 4: too many of its kind
    ∷ (116 ∷ 111 ∷ 111 ∷ 32 ∷ 109 ∷ 97 ∷ 110 ∷ 121 ∷ 32 ∷ 111 ∷ 102 ∷ 32 ∷ 105 ∷ 116 ∷ 115 ∷ 32 ∷ 107 ∷ 105 ∷ 110 ∷ 100 ∷ [])
    -- 5: field out of range
    ∷ (102 ∷ 105 ∷ 101 ∷ 108 ∷ 100 ∷ 32 ∷ 111 ∷ 117 ∷ 116 ∷ 32 ∷ 111 ∷ 102 ∷ 32 ∷ 114 ∷ 97 ∷ 110 ∷ 103 ∷ 101 ∷ [])
    -- 6: declared already
    ∷ (100 ∷ 101 ∷ 99 ∷ 108 ∷ 97 ∷ 114 ∷ 101 ∷ 100 ∷ 32 ∷ 97 ∷ 108 ∷ 114 ∷ 101 ∷ 97 ∷ 100 ∷ 121 ∷ [])
    -- 7: not declared
    ∷ (110 ∷ 111 ∷ 116 ∷ 32 ∷ 100 ∷ 101 ∷ 99 ∷ 108 ∷ 97 ∷ 114 ∷ 101 ∷ 100 ∷ [])
    -- 8: "8 is no longer given"
    ∷ []
    -- 9: cycle in a maximal object
    ∷ (99 ∷ 121 ∷ 99 ∷ 108 ∷ 101 ∷ 32 ∷ 105 ∷ 110 ∷ 32 ∷ 97 ∷ 32 ∷ 109 ∷ 97 ∷ 120 ∷ 105 ∷ 109 ∷ 97 ∷ 108 ∷ 32 ∷ 111 ∷ 98 ∷ 106 ∷ 101 ∷ 99 ∷ 116 ∷ [])
    -- 10: no item
    ∷ (110 ∷ 111 ∷ 32 ∷ 105 ∷ 116 ∷ 101 ∷ 109 ∷ [])
    -- 11: operator not allowed
    ∷ (111 ∷ 112 ∷ 101 ∷ 114 ∷ 97 ∷ 116 ∷ 111 ∷ 114 ∷ 32 ∷ 110 ∷ 111 ∷ 116 ∷ 32 ∷ 97 ∷ 108 ∷ 108 ∷ 111 ∷ 119 ∷ 101 ∷ 100 ∷ [])
    -- 12: no connection
    ∷ (110 ∷ 111 ∷ 32 ∷ 99 ∷ 111 ∷ 110 ∷ 110 ∷ 101 ∷ 99 ∷ 116 ∷ 105 ∷ 111 ∷ 110 ∷ [])
    -- 13: space too small
    ∷ (115 ∷ 112 ∷ 97 ∷ 99 ∷ 101 ∷ 32 ∷ 116 ∷ 111 ∷ 111 ∷ 32 ∷ 115 ∷ 109 ∷ 97 ∷ 108 ∷ 108 ∷ [])
    -- 14: last serial number
    ∷ (108 ∷ 97 ∷ 115 ∷ 116 ∷ 32 ∷ 115 ∷ 101 ∷ 114 ∷ 105 ∷ 97 ∷ 108 ∷ 32 ∷ 110 ∷ 117 ∷ 109 ∷ 98 ∷ 101 ∷ 114 ∷ [])
    -- 15 to 17: none
    ∷ [] ∷ [] ∷ []
    -- 18: sheet cannot be printed
    ∷ (115 ∷ 104 ∷ 101 ∷ 101 ∷ 116 ∷ 32 ∷ 99 ∷ 97 ∷ 110 ∷ 110 ∷ 111 ∷ 116 ∷ 32 ∷ 98 ∷ 101 ∷ 32
    ∷ 112 ∷ 114 ∷ 105 ∷ 110 ∷ 116 ∷ 101 ∷ 100 ∷ [])
    -- 19: no such sheet number
    ∷ (110 ∷ 111 ∷ 32 ∷ 115 ∷ 117 ∷ 99 ∷ 104 ∷ 32 ∷ 115 ∷ 104 ∷ 101 ∷ 101 ∷ 116 ∷ 32 ∷ 110 ∷ 117 ∷ 109 ∷ 98 ∷ 101 ∷ 114 ∷ [])
    -- 20: wrong comparison table
    ∷ (119 ∷ 114 ∷ 111 ∷ 110 ∷ 103 ∷ 32 ∷ 99 ∷ 111 ∷ 109 ∷ 112 ∷ 97 ∷ 114 ∷ 105 ∷ 115 ∷ 111 ∷ 110 ∷ 32
    ∷ 116 ∷ 97 ∷ 98 ∷ 108 ∷ 101 ∷ [])
    -- 21: kinds 6 and 14 together
    ∷ (107 ∷ 105 ∷ 110 ∷ 100 ∷ 115 ∷ 32 ∷ 54 ∷ 32 ∷ 97 ∷ 110 ∷ 100 ∷ 32 ∷ 49 ∷ 52 ∷ 32
    ∷ 116 ∷ 111 ∷ 103 ∷ 101 ∷ 116 ∷ 104 ∷ 101 ∷ 114 ∷ [])
    ∷ []

abbrev pub words_of : ℕ → List ℕ
words_of n = get_or words n []

unfoldable pub has_words : ℕ → Bool
has_words n = ltb 0 (length (words_of n))

-- the words printed, where the number is that of a refusal
unfoldable pub words_printed : ℕ → List ℕ → Printed
words_printed n out = elim (has_words n) [ true ↦ printed (words_of n) out | false ↦ Err NotFit ]

unfoldable pub words_after : ℕ → List ℕ → List ℕ
words_after n out = elim (has_words n) [ true ↦ after (words_of n) out | false ↦ out ]
