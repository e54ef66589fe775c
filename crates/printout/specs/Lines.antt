-- The lines that the unit prints: "The unit's printout" of the paper.
-- In order: lines, an answer, refusals, which answers are fit to print.
-- Assumes nothing.
use Rattle.std.specs.Prelude.{◌≡◌, Bool, true, ◌&&◌, List, [], ◌∷◌, ◌++◌, ℕ, ◌+◌, ◌*◌, ◌≤◌, ◌<◌, leb, ltb, length, get_or}
use Rattle.values.specs.Values.{in_range}
use Rattle.sorted.specs.Rows.{Row, rows_in}
use Rattle.printout.specs.Decimal.{decimal, cell_text}

-- ---- lines

-- what stands behind a word, with these words left: "one space between", "Each line ends in one line feed."
unfoldable pub behind : List (List ℕ) → ℕ
behind [] = 10
behind (word ∷ words) = 32

-- the line of some words
unfoldable pub line : List (List ℕ) → List ℕ
line [] = []
line (word ∷ words) = word ++ behind words ∷ line words

-- ---- an answer

-- the cells of a row in decimal, each by the kind of its item
unfoldable pub cell_texts : List ℕ → Row → List (List ℕ)
cell_texts [] row = []
cell_texts (kind ∷ kinds) [] = []
cell_texts (kind ∷ kinds) (cell ∷ row) = cell_text kind cell ∷ cell_texts kinds row

abbrev pub row_line : List ℕ → Row → List ℕ
row_line kinds row = line (cell_texts kinds row)

-- "one line a row"
unfoldable pub row_lines : List ℕ → List Row → List ℕ
row_lines kinds [] = []
row_lines kinds (row ∷ rows) = row_line kinds row ++ row_lines kinds rows

-- "`Q`, the new serial, `rows`, the count"
unfoldable pub head_line : ℕ → ℕ → List ℕ
head_line serial rows = line ((81 ∷ []) ∷ decimal serial ∷ (114 ∷ 111 ∷ 119 ∷ 115 ∷ []) ∷ decimal rows ∷ [])

-- "An answer prints `Q`, the new serial, `rows`, the count, then one line a row, cells in decimal with one space
-- between; lengths may have a minus. Each line ends in one line feed."
unfoldable pub answer_text : ℕ → ℕ → List ℕ → List ℕ → List ℕ
answer_text serial rows kinds cells = head_line serial rows ++ row_lines kinds (rows_in (length kinds) rows cells)

-- ---- refusals

-- the word `refused`
abbrev pub refused : List ℕ
refused = 114 ∷ 101 ∷ 102 ∷ 117 ∷ 115 ∷ 101 ∷ 100 ∷ []

-- "A refused book prints `book refused N` only"
unfoldable pub book_refused : ℕ → List ℕ
book_refused number = line ((98 ∷ 111 ∷ 111 ∷ 107 ∷ []) ∷ refused ∷ decimal number ∷ [])

-- "a refused query `query refused N`"
unfoldable pub query_refused : ℕ → List ℕ
query_refused number = line ((113 ∷ 117 ∷ 101 ∷ 114 ∷ 121 ∷ []) ∷ refused ∷ decimal number ∷ [])

-- ---- which answers are fit to print

-- "An answer (serial, row count, value kinds of its items, cells) is *fit to print* if it has 1 to 8 items of known
-- value kinds, at most 999,999,999,999 rows, at least rows times items cells, and each of those cells in its kind's
-- range." There is no condition on the serial.
pub record FitToPrint (rows : ℕ) (kinds cells : List ℕ) : Type 0 where
  pub some_items : 1 ≤ length kinds
  pub few_items : length kinds ≤ 8
  pub known_kinds : (j : ℕ) → j < length kinds → get_or kinds j 0 < 4
  pub few_rows : rows ≤ 999_999_999_999
  pub enough_cells : rows * length kinds ≤ length cells
  pub in_ranges : (i j : ℕ) → i < rows → j < length kinds
      → in_range (get_or kinds j 0) (get_or cells (i * length kinds + j) 0) ≡ true

-- The same as tests that compute.
unfoldable pub all_known : List ℕ → Bool
all_known [] = true
all_known (kind ∷ kinds) = ltb kind 4 && all_known kinds

unfoldable pub row_fits : List ℕ → Row → Bool
row_fits [] row = true
row_fits (kind ∷ kinds) [] = true
row_fits (kind ∷ kinds) (cell ∷ row) = in_range kind cell && row_fits kinds row

unfoldable pub rows_fit : List ℕ → List Row → Bool
rows_fit kinds [] = true
rows_fit kinds (row ∷ rows) = row_fits kinds row && rows_fit kinds rows

unfoldable pub fits : ℕ → List ℕ → List ℕ → Bool
fits rows kinds cells =
    leb 1 (length kinds)
    && (leb (length kinds) 8
    && (all_known kinds
    && (leb rows 999_999_999_999
    && (leb (rows * length kinds) (length cells)
    && rows_fit kinds (rows_in (length kinds) rows cells)))))
