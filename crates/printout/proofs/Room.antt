-- How many bytes a text has at most.
-- In order: rows, answers, refusals.
-- Assumes nothing.
use mathlib.Core.List.{List, [], ◌∷◌, ◌++◌}
use Prim.Native.Nat.{ℕ, zero, suc, ◌*◌, ◌^◌, ◌≤◌, ◌<◌}
use native.Mathlib.Nat.{suc-mul}
use native.Mathlib.Omega.{arith}
use lib.ListN.{length, get_or, take, drop, length-append}
use Rattle.sorted.specs.Rows.{Row, rows_in}
use Rattle.sorted.proofs.Placed.{rows_fit}
use Rattle.printout.specs.Decimal.{decimal, cell_text}
use Rattle.printout.specs.Lines.{behind, line, cell_texts, row_line, row_lines, head_line, answer_text}
use Rattle.printout.specs.Lines.{book_refused, query_refused, FitToPrint}
use Rattle.printout.proofs.Decimal.{decimal_short, cell_short}
use Rattle.printout.proofs.Lines.{SmallCells, fit_small, first_small, rest_small}

-- ---- rows: at most 11 bytes for a cell and one behind it

row_short : (kinds : List ℕ) (row : Row) → ((i : ℕ) → get_or row i 0 < 2 ^ 32)
    → length (row_line kinds row) ≤ 12 * length kinds
unfolding line cell_texts
row_short [] row s = omega arith
row_short (k ∷ kinds) [] s = omega arith
row_short (k ∷ kinds) (a ∷ row) s =
    omega (
      arith,
      length-append (cell_text k a) (behind (cell_texts kinds row) ∷ row_line kinds row),
      cell_short k a (s 0),
      row_short kinds row (λ i. s (suc i)),
    )

rows_short : (kinds : List ℕ) (n : ℕ) (cells : List ℕ) → SmallCells (n * length kinds) cells
    → length (row_lines kinds (rows_in (length kinds) n cells)) ≤ 12 * (n * length kinds)
unfolding row_lines rows_in
rows_short kinds zero cells s = omega arith
rows_short kinds (suc n) cells s =
    omega (
      arith,
      length-append (row_line kinds (take (length kinds) cells))
          (row_lines kinds (rows_in (length kinds) n (drop (length kinds) cells))),
      row_short kinds (take (length kinds) cells) (first_small (length kinds) n cells s),
      rows_short kinds n (drop (length kinds) cells) (rest_small (length kinds) n cells s),
      suc-mul n (length kinds),
    )

-- ---- answers

head_short : (serial rows : ℕ) → serial < 2 ^ 32 → rows < 10 ^ 4 → length (head_line serial rows) ≤ 23
unfolding head_line line behind
head_short serial rows h k =
    omega (
      arith,
      length-append (decimal serial) (32 ∷ 114 ∷ 111 ∷ 119 ∷ 115 ∷ 32 ∷ (decimal rows ++ 10 ∷ [])),
      length-append (decimal rows) (10 ∷ []),
      decimal_short 9 serial (omega arith),
      decimal_short 3 rows k,
    )

pub answer_short : (serial rows : ℕ) (kinds cells : List ℕ) → serial < 2 ^ 32 → FitToPrint rows kinds cells
    → rows * length kinds ≤ 8192 → length (answer_text serial rows kinds cells) ≤ 98327
unfolding answer_text
answer_short serial rows kinds cells h v few =
    omega (
      arith,
      length-append (head_line serial rows) (row_lines kinds (rows_in (length kinds) rows cells)),
      head_short serial rows h (omega (arith, rows_fit v.some_items few)),
      rows_short kinds rows cells (fit_small rows kinds cells v),
    )

-- ---- refusals

pub book_short : (n : ℕ) → n < 256 → length (book_refused n) ≤ 17
unfolding book_refused line behind
book_short n h = omega (arith, length-append (decimal n) (10 ∷ []), decimal_short 2 n (omega arith))

pub query_short : (n : ℕ) → n < 256 → length (query_refused n) ≤ 18
unfolding query_refused line behind
query_short n h = omega (arith, length-append (decimal n) (10 ∷ []), decimal_short 2 n (omega arith))
