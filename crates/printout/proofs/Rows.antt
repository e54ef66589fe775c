-- Rows written and counted, cell by cell and row by row.
-- In order: marks, the line of a row, a row written, a row counted, the rows from one on, written, counted and tested.
-- Assumes nothing.
use mathlib.Core.Path.{◌≡◌, refl, sym, ap, ap₂, subst, ◌∙◌}
use mathlib.Core.Bool.{Bool, true, false, cond, ◌&&◌}
use mathlib.Core.Logic.{⊎_elim}
use mathlib.Core.List.{List, [], ◌∷◌, ◌++◌}
use Prim.Native.Nat.{ℕ, suc, ◌+◌, ◌-◌, ◌*◌, ◌≤◌, ◌<◌}
use native.Mathlib.Nat.{add-sub_cancel_left}
use native.Mathlib.Numerals.{add-one}
use native.Mathlib.Omega.{arith}
use borrow.Author.Tests as Tests
use lib.Dec.{ltb}
use lib.ListN.{length, get_or, take, drop, drop_of_length-le, length-append, length-drop}
use lib.Seq.{drop-cons, length-take-le}
use Rattle.sets.proofs.Numbers.{lt_or_le}
use Rattle.sorted.specs.Rows.{Row, rows_in}
use Rattle.sorted.proofs.Halving as Halving
use Rattle.sorted.proofs.Halving.{row_of_law, length_rows}
use Rattle.printout.specs.Decimal.{cell_text}
use Rattle.printout.specs.Lines.{behind, line, cell_texts, row_line, row_lines, row_fits, rows_fit}
use Rattle.printout.specs.Printing.{written}
use Rattle.printout.proofs.Writing.{Writing, writing_room, writing_next, writing_end}

-- ---- marks: what stands behind word i of n

abbrev mark_of : ℕ → ℕ → ℕ
mark_of i n = cond (ltb (i + 1) n) 32 10

pub mark_between : (i n : ℕ) → i + 1 < n → ◌≡◌ {A = ℕ} 32 (mark_of i n)
mark_between i n h = rw (Tests.lt-ltb (i + 1) n h)

pub mark_last : (i n : ℕ) → n ≤ i + 1 → ◌≡◌ {A = ℕ} 10 (mark_of i n)
mark_last i n h = rw (Tests.le-ltb (i + 1) n h)

-- ---- the line of a row

module _ (kinds : List ℕ) (row : Row) (i : ℕ) (h : i < length kinds) (wide : length kinds ≤ length row) where
  abbrev kind : ℕ
  kind = get_or kinds i 0

  abbrev cell : ℕ
  cell = get_or row i 0

  -- what is left of the line behind cell i
  abbrev row_rest : List ℕ
  row_rest = row_line (drop (i + 1) kinds) (drop (i + 1) row)

  mark_behind : behind (cell_texts (drop (suc i) kinds) (drop (suc i) row)) ≡ mark_of i (length kinds)
  unfolding behind cell_texts
  mark_behind =
      ⊎_elim (λ (l : suc i < length kinds).
      rw (drop-cons kinds (suc i) 0 l, drop-cons row (suc i) 0 (omega arith))
      (mark_between i (length kinds) (omega arith)))
      (λ (l : length kinds ≤ suc i). rw (drop_of_length-le kinds l) (mark_last i (length kinds) (omega arith)))
      (lt_or_le (suc i) (length kinds))

  row_front : row_line (drop i kinds) (drop i row) ≡ cell_text kind cell ++ mark_of i (length kinds) ∷ row_rest
  unfolding line cell_texts
  row_front =
      rw (drop-cons kinds i 0 h, drop-cons row i 0 (omega arith))
      (ap₂ (λ (m n : ℕ). cell_text kind cell ++ m ∷ row_line (drop n kinds) (drop n row)) mark_behind (sym (add-one i)))

  -- ---- a row written

  module _ (from : ℕ) (e : List ℕ) {at : ℕ} {bytes : List ℕ}
      (v : Writing from (row_line kinds row) e at (row_line (drop i kinds) (drop i row)) bytes) where
    pub cell_room : at + length (cell_text kind cell) ≤ length bytes
    cell_room =
        omega (
          arith,
          writing_room from (row_line kinds row) e v,
          ap length row_front,
          length-append (cell_text kind cell) (mark_of i (length kinds) ∷ row_rest),
        )

    module _ {next : ℕ} {mid : List ℕ} (p : next ≡ at + length (cell_text kind cell))
        (w : mid ≡ written at (cell_text kind cell) bytes) where
      cell_written : Writing from (row_line kinds row) e next (mark_of i (length kinds) ∷ row_rest) mid
      cell_written =
          writing_next from (row_line kinds row) e v (cell_text kind cell) (mark_of i (length kinds) ∷ row_rest) row_front
          p w

      pub mark_room : next < length mid
      mark_room = omega (arith, writing_room from (row_line kinds row) e cell_written)

      pub mark_written : {m to : ℕ} {out : List ℕ} → m ≡ mark_of i (length kinds) → to ≡ next + 1
          → out ≡ written next (m ∷ []) mid → Writing from (row_line kinds row) e to row_rest out
      mark_written {m = m} s q u =
          writing_next from (row_line kinds row) e cell_written (m ∷ []) row_rest
          (ap (λ (x : ℕ). x ∷ row_rest) (sym s)) q u

row_none : (kinds : List ℕ) (row : Row) (i : ℕ) → length kinds ≤ i → row_line (drop i kinds) (drop i row) ≡ []
unfolding line cell_texts
row_none kinds row i h = rw (drop_of_length-le kinds h)

pub row_end : (kinds : List ℕ) (row : Row) (i from : ℕ) (e : List ℕ) {at : ℕ} {bytes : List ℕ}
    → Writing from (row_line kinds row) e at (row_line (drop i kinds) (drop i row)) bytes → length kinds ≤ i
    → (at ≡ from + length (row_line kinds row)) × (bytes ≡ written from (row_line kinds row) e)
row_end kinds row i from e {at} {bytes} v h =
    writing_end from (row_line kinds row) e
    (subst (λ (l : List ℕ). Writing from (row_line kinds row) e at l bytes) (row_none kinds row i h) v)

-- ---- a row counted

-- n counts the bytes of the line before cell i
pub record RowCounted (kinds : List ℕ) (row : Row) (n i : ℕ) : Type 0 where
  pub sum : n + length (row_line (drop i kinds) (drop i row)) ≡ length (row_line kinds row)
  pub few : n ≤ 12 * i
  pub inside : i ≤ length kinds

pub row_counted_start : (kinds : List ℕ) (row : Row) → RowCounted kinds row 0 0
row_counted_start kinds row = record { sum = omega arith; few = omega arith; inside = omega arith }

module _ (kinds : List ℕ) (row : Row) {n i : ℕ} (v : RowCounted kinds row n i) where
  pub row_counted_next : {m : ℕ} → i < length kinds → length kinds ≤ length row
      → (m ≡ length (cell_text (get_or kinds i 0) (get_or row i 0))) × (m ≤ 11) → RowCounted kinds row (n + (m + 1)) (i + 1)
  row_counted_next h wide p = record {
    sum = omega (
      arith,
      v.sum,
      p,
      ap length (row_front kinds row i h wide),
      length-append (cell_text (get_or kinds i 0) (get_or row i 0)) (mark_of i (length kinds) ∷ row_rest kinds row i h wide),
    );
    few = omega (arith, v.few, p);
    inside = omega arith;
  }

  pub row_counted_end : length kinds ≤ i → length kinds ≤ 8 → (n ≡ length (row_line kinds row)) × (n ≤ 96)
  row_counted_end h k =
      (omega (arith, v.sum, ap length (row_none kinds row i h)), omega (arith, v.few, v.inside))

-- ---- the rows from row i on

module _ (w : ℕ) (cells : List ℕ) (i : ℕ) where
  -- the part of the cells that holds row i
  abbrev pub row_part : Row
  row_part = take (i * w + w - i * w) (drop (i * w) cells)

  module _ (rows : ℕ) (h : i < rows) where
    -- row i in front of the others
    pub rows_front : drop i (rows_in w rows cells) ≡ row_part ∷ drop (i + 1) (rows_in w rows cells)
    rows_front =
        drop-cons (rows_in w rows cells) i [] (omega (arith, h, length_rows w rows cells))
        ∙ ap₂ (λ (r : Row) (m : ℕ). r ∷ drop m (rows_in w rows cells))
        (row_of_law w rows cells i h ∙ ap (λ (m : ℕ). take m (drop (i * w) cells)) (sym (add-sub_cancel_left (i * w) w)))
        (sym (add-one i))

    module _ (f : rows * w ≤ length cells) where
      pub row_inside : i * w + w ≤ length cells
      row_inside = Halving.row_inside i rows w h f

      pub part_length : length row_part ≡ w
      part_length =
          length-take-le (i * w + w - i * w) (drop (i * w) cells) (omega (arith, length-drop (i * w) cells, row_inside))
          ∙ add-sub_cancel_left (i * w) w

-- behind the last row there is none
pub rows_none : (w : ℕ) (cells : List ℕ) (i rows : ℕ) → rows ≤ i → drop i (rows_in w rows cells) ≡ []
rows_none w cells i rows h = drop_of_length-le (rows_in w rows cells) (omega (arith, h, length_rows w rows cells))

-- ---- rows written

-- the lines of the rows from row i on
abbrev pub lines_left : List ℕ → List ℕ → ℕ → ℕ → List ℕ
lines_left kinds cells rows i = row_lines kinds (drop i (rows_in (length kinds) rows cells))

module _ (kinds cells : List ℕ) (rows i : ℕ) where
  -- the line of row i
  abbrev line_here : List ℕ
  line_here = row_line kinds (row_part (length kinds) cells i)

  module _ (h : i < rows) where
    lines_front : lines_left kinds cells rows i ≡ line_here ++ lines_left kinds cells rows (i + 1)
    unfolding row_lines
    lines_front = rw (rows_front (length kinds) cells i rows h)

    module _ (start : ℕ) (text e : List ℕ) {at : ℕ} {bytes : List ℕ}
        (v : Writing start text e at (lines_left kinds cells rows i) bytes) where
      pub row_room : at + length line_here ≤ length bytes
      row_room =
          omega (
            arith,
            writing_room start text e v,
            ap length lines_front,
            length-append line_here (lines_left kinds cells rows (i + 1)),
          )

      pub row_written : {to : ℕ} {out : List ℕ} → to ≡ at + length line_here → out ≡ written at line_here bytes
          → Writing start text e to (lines_left kinds cells rows (i + 1)) out
      row_written p w =
          writing_next start text e v line_here (lines_left kinds cells rows (i + 1)) lines_front p w

  module _ (h : rows ≤ i) where
    no_lines : lines_left kinds cells rows i ≡ []
    unfolding row_lines
    no_lines = ap (row_lines kinds) (rows_none (length kinds) cells i rows h)

    pub rows_written : (start : ℕ) (text e : List ℕ) {at : ℕ} {bytes : List ℕ}
        → Writing start text e at (lines_left kinds cells rows i) bytes
        → (at ≡ start + length text) × (bytes ≡ written start text e)
    rows_written start text e {at} {bytes} v =
        writing_end start text e (subst (λ (l : List ℕ). Writing start text e at l bytes) no_lines v)

-- ---- rows counted

-- n counts the bytes of the lines before that of row i
pub record RowsCounted (kinds cells : List ℕ) (rows i n : ℕ) : Type 0 where
  pub sum : n + length (lines_left kinds cells rows i) ≡ length (lines_left kinds cells rows 0)
  pub few : n ≤ 96 * i

pub rows_counted_start : (kinds cells : List ℕ) (rows : ℕ) → RowsCounted kinds cells rows 0 0
rows_counted_start kinds cells rows = record { sum = omega arith; few = omega arith }

module _ (kinds cells : List ℕ) {rows i n : ℕ} (v : RowsCounted kinds cells rows i n) where
  pub rows_counted_next : {m : ℕ} → i < rows → (m ≡ length (line_here kinds cells rows i)) × (m ≤ 96)
      → RowsCounted kinds cells rows (i + 1) (n + m)
  rows_counted_next h p = record {
    sum = omega (
      arith,
      v.sum,
      p,
      ap length (lines_front kinds cells rows i h),
      length-append (line_here kinds cells rows i) (lines_left kinds cells rows (i + 1)),
    );
    few = omega (arith, v.few, p);
  }

  pub rows_counted_end : rows ≤ i → i ≤ rows → rows ≤ 999_999_999_999
      → (n ≡ length (lines_left kinds cells rows 0)) × (n ≤ 96 * 999_999_999_999)
  rows_counted_end h l k =
      (omega (arith, v.sum, ap length (no_lines kinds cells rows i h)), omega (arith, v.few, l, k))

-- ---- rows tested

-- the rows before row i are fit to print
pub record RowsFitSoFar (kinds cells : List ℕ) (rows i : ℕ) : Type 0 where
  pub rest : rows_fit kinds (drop i (rows_in (length kinds) rows cells))
      ≡ rows_fit kinds (rows_in (length kinds) rows cells)

pub rows_fit_start : (kinds cells : List ℕ) (rows : ℕ) → RowsFitSoFar kinds cells rows 0
rows_fit_start kinds cells rows = record { rest = refl }

module _ (kinds cells : List ℕ) {rows i : ℕ} (v : RowsFitSoFar kinds cells rows i) where
  module _ (h : i < rows) {t : Bool} (e : t ≡ row_fits kinds (row_part (length kinds) cells i)) where
    abbrev rest_fits : Bool
    rest_fits = rows_fit kinds (drop (i + 1) (rows_in (length kinds) rows cells))

    row_tested : (t && rest_fits) ≡ rows_fit kinds (rows_in (length kinds) rows cells)
    unfolding rows_fit
    row_tested =
        ap (λ (s : Bool). s && rest_fits) e ∙ ap (rows_fit kinds) (sym (rows_front (length kinds) cells i rows h))
        ∙ v.rest

    pub rows_fit_no : t ≡ false → false ≡ rows_fit kinds (rows_in (length kinds) rows cells)
    rows_fit_no n = sym (ap (λ (s : Bool). s && rest_fits) n) ∙ row_tested

    pub rows_fit_next : t ≡ true → RowsFitSoFar kinds cells rows (i + 1)
    rows_fit_next y = record { rest = sym (ap (λ (s : Bool). s && rest_fits) y) ∙ row_tested }

  pub rows_fit_end : rows ≤ i → true ≡ rows_fit kinds (rows_in (length kinds) rows cells)
  unfolding rows_fit
  rows_fit_end h = sym (ap (rows_fit kinds) (rows_none (length kinds) cells i rows h)) ∙ v.rest
