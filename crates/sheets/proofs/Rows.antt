-- The rows of a sheet, and how many sheets there are.
-- In order: rows in cells, the number of sheets, the rows of all sheets, the rows that a sheet depends on.
-- Assumes nothing.
use mathlib.Core.Path.{◌≡◌, refl, sym, ap, ap₂, subst, ◌∙◌}
use mathlib.Core.Bool.{Bool, true, false}
use mathlib.Core.Logic.{◌⊎◌, inl, inr, ⊎_elim}
use mathlib.Core.List.{List, [], ◌∷◌, ◌++◌}
use Prim.Native.Nat.{ℕ, zero, suc, ◌+◌, ◌-◌, ◌*◌, ◌/◌, ◌%◌, ◌≤◌, ◌<◌, min, max}
use native.Mathlib.Nat.{sub-zero, zero-sub, suc-sub-suc, suc-min-suc, zero-min, min-zero, zero-mul, suc-mul, add_comm}
use native.Mathlib.Omega.{arith}
use borrow.Author.Tests as Tests
use lib.ListN.{length, take, drop, get_or, length-take}
use lib.Seq.{drop-drop, take-add, take_all, get_or-take, get_or-drop, ext_get_or}
use Rattle.sets.proofs.Numbers.{lt_or_le}
use Rattle.sorted.specs.Rows.{Row, row_at, rows_in}
use Rattle.sorted.proofs.Halving.{row_of_law, length_rows}
use Rattle.sheets.specs.Sheets.{sheet_rows, answer_rows, sheet_count, shown_to}
use Rattle.sheets.specs.Statements.{SheetsCounted, RowsShown}

-- ---- rows in cells

pub drop_rows : (w k n : ℕ) (cells : List ℕ) → drop k (rows_in w n cells) ≡ rows_in w (n - k) (drop (k * w) cells)
unfolding rows_in
drop_rows w zero n cells =
    sym (ap₂ (λ (m i : ℕ). rows_in w m (drop i cells)) (sub-zero n) (zero-mul w))
drop_rows w (suc k) zero cells = sym (ap (λ (m : ℕ). rows_in w m (drop (suc k * w) cells)) (zero-sub (suc k)))
drop_rows w (suc k) (suc n) cells =
    drop_rows w k n (drop w cells)
    ∙ ap (rows_in w (n - k)) (drop-drop (k * w) w cells)
    ∙ sym (ap₂ (λ (m i : ℕ). rows_in w m (drop i cells)) (suc-sub-suc n k) (suc-mul k w ∙ add_comm (k * w) w))

pub take_rows : (w k n : ℕ) (cells : List ℕ) → take k (rows_in w n cells) ≡ rows_in w (min k n) cells
unfolding rows_in
take_rows w zero n cells = sym (ap (λ (m : ℕ). rows_in w m cells) (zero-min n))
take_rows w (suc k) zero cells = sym (ap (λ (m : ℕ). rows_in w m cells) (min-zero (suc k)))
take_rows w (suc k) (suc n) cells =
    ap (λ (l : List Row). take w cells ∷ l) (take_rows w k n (drop w cells))
    ∙ sym (ap (λ (m : ℕ). rows_in w m cells) (suc-min-suc k n))

-- the rows of a sheet stand in the cells one behind the other
pub sheet_rows_law : (w number rows : ℕ) (cells : List ℕ)
    → sheet_rows number (rows_in w rows cells)
    ≡ rows_in w (min 38 (rows - 38 * (number - 1))) (drop (38 * (number - 1) * w) cells)
unfolding sheet_rows
sheet_rows_law w number rows cells =
    ap (take 38) (drop_rows w (38 * (number - 1)) rows cells)
    ∙ take_rows w 38 (rows - 38 * (number - 1)) (drop (38 * (number - 1) * w) cells)

-- a sheet has at most 38 rows
pub rows_few : (number : ℕ) (rows : List Row) → length (sheet_rows number rows) ≤ 38
unfolding sheet_rows
rows_few number rows = omega (arith, length-take 38 (drop (38 * (number - 1)) rows))

-- ---- the number of sheets

abbrev counted : ℕ → Bool → ℕ
counted rows t = elim t [ true ↦ 1 | false ↦ (rows + 37) / 38 ]

pub count_none : (rows : ℕ) → rows ≡ 0 → sheet_count rows ≡ 1
unfolding sheet_count
count_none rows e = ap (counted rows) (Tests.eq-eqb rows 0 e)

pub count_some : (rows : ℕ) → (rows ≡ 0 → ⊥) → sheet_count rows ≡ (rows + 37) / 38
unfolding sheet_count
count_some rows f = ap (counted rows) (Tests.ne_eqb rows 0 f)

-- what holds of the two forms of the count holds of it
count_is : (rows : ℕ) → ((rows ≡ 0) × (sheet_count rows ≡ 1)) ⊎ ((0 < rows) × (sheet_count rows ≡ (rows + 37) / 38))
count_is rows = ⊎_elim (λ (h : 0 < rows). inr (h, count_some rows (λ e. omega arith)))
    (λ (h : rows ≤ 0). inl (omega arith, count_none rows (omega arith))) (lt_or_le 0 rows)

-- as the code counts
pub sheets_counted_so : (rows : ℕ) {full n : ℕ} → full ≡ rows / 38 + min 1 (rows % 38) → n ≡ max full 1
    → n ≡ sheet_count rows
sheets_counted_so rows e f = ⊎_elim (λ (a : (rows ≡ 0) × (sheet_count rows ≡ 1)). omega (arith, a, e, f))
    (λ (a : (0 < rows) × (sheet_count rows ≡ (rows + 37) / 38)). omega (arith, a, e, f)) (count_is rows)

module _ (rows number : ℕ) (some : 1 ≤ number) (last : number ≤ sheet_count rows) where
  -- a sheet begins before the last row, or right behind it
  pub first_inside : 38 * (number - 1) ≤ rows
  first_inside = ⊎_elim (λ (a : (rows ≡ 0) × (sheet_count rows ≡ 1)). omega arith)
      (λ (a : (0 < rows) × (sheet_count rows ≡ (rows + 37) / 38)). omega arith) (count_is rows)

  pub number_inside : number ≤ rows / 38 + 1
  number_inside = ⊎_elim (λ (a : (rows ≡ 0) × (sheet_count rows ≡ 1)). omega arith)
      (λ (a : (0 < rows) × (sheet_count rows ≡ (rows + 37) / 38)). omega arith) (count_is rows)

pub sheets_counted : (rows : ℕ) → SheetsCounted rows
sheets_counted rows = ⊎_elim
    (λ (a : (rows ≡ 0) × (sheet_count rows ≡ 1)).
    record { some = omega arith; enough = omega arith; least = λ n h k. omega arith })
    (λ (a : (0 < rows) × (sheet_count rows ≡ (rows + 37) / 38)).
    record { some = omega arith; enough = omega arith; least = λ n h k. omega arith })
    (count_is rows)

-- ---- the rows of all sheets

shown_front : (n : ℕ) (rows : List Row) → shown_to n rows ≡ take (38 * n) rows
unfolding shown_to sheet_rows
shown_front zero rows = refl
shown_front (suc n) rows =
    ap₂ (λ (x : List Row) (m : ℕ). x ++ take 38 (drop (38 * m) rows)) (shown_front n rows) less
    ∙ sym (take-add (38 * n) 38 rows) ∙ ap (λ (m : ℕ). take m rows) more
  where
    less : suc n - 1 ≡ n
    less = omega arith

    more : 38 * n + 38 ≡ 38 * suc n
    more = omega arith

row_place : (rows : List Row) (i : ℕ) → i < length rows
    → get_or (sheet_rows (i / 38 + 1) rows) (i % 38) [] ≡ get_or rows i []
unfolding sheet_rows
row_place rows i h =
    get_or-take 38 (drop (38 * (i / 38 + 1 - 1)) rows) (i % 38) [] (omega arith)
    ∙ get_or-drop (38 * (i / 38 + 1 - 1)) rows (i % 38) []
    ∙ ap (λ (j : ℕ). get_or rows j []) back
  where
    back : 38 * (i / 38 + 1 - 1) + i % 38 ≡ i
    back = omega arith

row_sheet : (i n : ℕ) → i < n → i / 38 + 1 ≤ sheet_count n
row_sheet i n h = omega (arith, (sheets_counted n).enough)

pub rows_shown : (rows : List Row) → RowsShown rows
rows_shown rows = record {
  few = λ number. rows_few number rows;
  front = λ n. shown_front n rows;
  all =
      shown_front (sheet_count (length rows)) rows
      ∙ take_all (38 * sheet_count (length rows)) rows (sheets_counted (length rows)).enough;
  place = λ i h. (row_sheet i (length rows) h, row_place rows i h);
}

pub answer_shown : (rows : ℕ) (kinds cells : List ℕ)
    → shown_to (sheet_count rows) (answer_rows rows kinds cells) ≡ answer_rows rows kinds cells
answer_shown rows kinds cells =
    ap (λ (n : ℕ). shown_to (sheet_count n) (answer_rows rows kinds cells)) (sym (length_rows (length kinds) rows cells))
    ∙ (rows_shown (answer_rows rows kinds cells)).all

-- ---- the rows that a sheet depends on

module _ (w number rows : ℕ) (c : List ℕ) where
  pub shown_length : length (sheet_rows number (rows_in w rows c)) ≡ min 38 (rows - 38 * (number - 1))
  shown_length =
      ap length (sheet_rows_law w number rows c)
      ∙ length_rows w (min 38 (rows - 38 * (number - 1))) (drop (38 * (number - 1) * w) c)

  pub shown_at : (i : ℕ) → i < min 38 (rows - 38 * (number - 1))
      → get_or (sheet_rows number (rows_in w rows c)) i [] ≡ row_at w (38 * (number - 1) + i) c
  unfolding sheet_rows
  shown_at i h =
      get_or-take 38 (drop (38 * (number - 1)) (rows_in w rows c)) i [] (omega arith)
      ∙ get_or-drop (38 * (number - 1)) (rows_in w rows c) i []
      ∙ row_of_law w rows c (38 * (number - 1) + i) (omega arith)

pub shown_same : (w number rows : ℕ) (cells cells' : List ℕ) → ((i : ℕ) → 38 * (number - 1) ≤ i
    → i < 38 * (number - 1) + 38 → i < rows → row_at w i cells ≡ row_at w i cells')
    → sheet_rows number (rows_in w rows cells) ≡ sheet_rows number (rows_in w rows cells')
shown_same w number rows cells cells' same =
    ext_get_or [] (sheet_rows number (rows_in w rows cells)) (sheet_rows number (rows_in w rows cells'))
    (shown_length w number rows cells ∙ sym (shown_length w number rows cells'))
    (λ i h.
    let k : i < min 38 (rows - 38 * (number - 1)) = subst (λ (n : ℕ). i < n) (shown_length w number rows cells) h in
    shown_at w number rows cells i k ∙ same (38 * (number - 1) + i) (omega arith) (omega arith) (omega arith)
    ∙ sym (shown_at w number rows cells' i k))
