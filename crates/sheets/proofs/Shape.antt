-- The shape of lines and sheets: 96 characters and a line feed, 40 lines, 3,880 bytes.
-- In order: texts that go into a field, lines, lists of lines, the lines of rows, a sheet, what stands in each line.
-- Assumes nothing.
use mathlib.Core.Path.{◌≡◌, refl, sym, ap, subst, ◌∙◌}
use mathlib.Core.Logic.{⊎_elim}
use mathlib.Core.List.Memᴰ
use mathlib.Core.List.{List, [], ◌∷◌, ◌++◌, Memᴰ, append_assoc}
use mathlib.Core.List.{append-nil}
use Prim.Native.Nat.{ℕ, zero, suc, ◌+◌, ◌-◌, ◌*◌, ◌^◌, ◌≤◌, ◌<◌, min}
use native.Mathlib.Nat.{suc-mul, add-mul, mul-le-mul_right}
use native.Mathlib.Omega.{arith}
use lib.ListN.{length, get_or, take, drop, length-append, length-drop, get_or-append}
use lib.Seq.{get_or-drop, get_or-append-add, get_or_at}
use Rattle.sorted.specs.Rows.{Row, rows_in}
use Rattle.sorted.proofs.Halving.{length_rows}
use Rattle.printout.specs.Decimal.{decimal, cell_text}
use Rattle.printout.specs.Lines.{cell_texts, FitToPrint}
use Rattle.printout.proofs.Decimal.{decimal_numeral, cell_byte, cell_short}
use Rattle.printout.proofs.Lines.{SmallCells, fit_small, rest_small, first_of_kinds}
use Rattle.sheets.specs.Sheets.{blanks, field_of, fields_of, rest_of, line_of, head_line, row_line, foot_line}
use Rattle.sheets.specs.Sheets.{row_lines, blank_lines, sheet_rows, lines_showing, sheet_lines, joined, sheet_text}
use Rattle.sheets.specs.Sheets.{sheet_count}
use Rattle.sheets.specs.Sheets.{answer_rows}
use Rattle.sheets.specs.Statements.{LineOf96, SheetShaped, LinesSay}
use Rattle.sheets.proofs.Fields.{blanks_length, field_length, number_short, joined_append}
use Rattle.sheets.proofs.Rows.{sheet_rows_law, rows_few, first_inside, number_inside, shown_length, shown_at}

-- ---- texts that go into a field

pub record Short (text : List ℕ) : Type 0 where
  pub few : length text ≤ 12
  pub over : (b : ℕ) → Memᴰ b text → 32 < b

pub data Shorts : List (List ℕ) → Type 0 where
  none : Shorts []
  more : {text : List ℕ} {texts : List (List ℕ)} → Short text → Shorts texts → Shorts (text ∷ texts)

pub short_number : (n : ℕ) → n ≤ 999_999_999_999 → Short (decimal n)
short_number n h = record {
  few = number_short n h;
  over = λ b m. omega (arith, (decimal_numeral n).each b m);
}

pub short_cell : (kind cell : ℕ) → cell < 2 ^ 32 → Short (cell_text kind cell)
short_cell kind cell h = record {
  few = omega (arith, cell_short kind cell h);
  over = cell_byte kind cell;
}

pub short_cells : (kinds : List ℕ) (row : Row) → ((i : ℕ) → get_or row i 0 < 2 ^ 32) → Shorts (cell_texts kinds row)
unfolding cell_texts
short_cells [] row f = none
short_cells (k ∷ kinds) [] f = none
short_cells (k ∷ kinds) (a ∷ row) f = more (short_cell k a (f 0)) (short_cells kinds row (λ i. f (suc i)))

pub cells_few : (kinds : List ℕ) (row : Row) → length (cell_texts kinds row) ≤ length kinds
unfolding cell_texts
cells_few [] row = omega arith
cells_few (k ∷ kinds) [] = omega arith
cells_few (k ∷ kinds) (a ∷ row) = omega (arith, cells_few kinds row)

-- ---- lines

blank_is : (n b : ℕ) → Memᴰ b (blanks n) → b ≡ 32
blank_is zero b m = elim m [ ]
blank_is (suc n) b (Memᴰ.head e) = e
blank_is (suc n) b (Memᴰ.tail m) = blank_is n b m

field_over : (text : List ℕ) → Short text → (b : ℕ) → Memᴰ b (field_of text) → 32 ≤ b
unfolding field_of
field_over text s b m =
    ⊎_elim (λ k. omega (arith, blank_is (12 - length text) b k)) (λ k. omega (arith, s.over b k))
    (Memᴰ.append_cases (blanks (12 - length text)) m)

fields_over : {texts : List (List ℕ)} → Shorts texts → (b : ℕ) → Memᴰ b (fields_of texts) → 32 ≤ b
unfolding fields_of
fields_over none b m = elim m [ ]
fields_over (more {text} s v) b m =
    ⊎_elim (λ k. field_over text s b k) (λ k. fields_over v b k) (Memᴰ.append_cases (field_of text) m)

pub fields_length : {texts : List (List ℕ)} → Shorts texts → length (fields_of texts) ≡ 12 * length texts
unfolding fields_of
fields_length none = refl
fields_length (more {text} {texts} s v) =
    omega (arith, length-append (field_of text) (fields_of texts), field_length text s.few, fields_length v)

pub line_96 : {texts : List (List ℕ)} → Shorts texts → length texts ≤ 8 → LineOf96 (line_of texts)
unfolding line_of rest_of
line_96 {texts} v h = record {
  characters = fields_of texts ++ blanks (96 - length (fields_of texts));
  whole = sym (append_assoc (fields_of texts) (blanks (96 - length (fields_of texts))) (10 ∷ []));
  count = omega (
    arith,
    length-append (fields_of texts) (blanks (96 - length (fields_of texts))),
    blanks_length (96 - length (fields_of texts)),
    fields_length v,
  );
  no_feed = λ b m.
      ⊎_elim (λ k. fields_over v b k) (λ k. omega (arith, blank_is (96 - length (fields_of texts)) b k))
      (Memᴰ.append_cases (fields_of texts) m);
}

pub line_97 : (l : List ℕ) → LineOf96 l → length l ≡ 97
line_97 l v = omega (arith, ap length v.whole, length-append v.characters (10 ∷ []), v.count)

-- ---- lists of lines

pub data Shaped : List (List ℕ) → Type 0 where
  none : Shaped []
  more : {l : List ℕ} {ls : List (List ℕ)} → LineOf96 l → Shaped ls → Shaped (l ∷ ls)

pub shaped_append : {x y : List (List ℕ)} → Shaped x → Shaped y → Shaped (x ++ y)
shaped_append none w = w
shaped_append (more l v) w = more l (shaped_append v w)

shaped_each : {ls : List (List ℕ)} → Shaped ls → (l : List ℕ) → Memᴰ l ls → LineOf96 l
shaped_each none l m = elim m [ ]
shaped_each (more v vs) l (Memᴰ.head e) = subst LineOf96 (sym e) v
shaped_each (more v vs) l (Memᴰ.tail m) = shaped_each vs l m

pub shaped_length : {ls : List (List ℕ)} → Shaped ls → length (joined ls) ≡ 97 * length ls
unfolding joined
shaped_length none = refl
shaped_length (more {l} {ls} v vs) = omega (arith, length-append l (joined ls), line_97 l v, shaped_length vs)

-- ---- the lines of rows

pub blank_shaped : (n : ℕ) → Shaped (blank_lines n)
unfolding blank_lines
blank_shaped zero = none
blank_shaped (suc n) = more (line_96 none (omega arith)) (blank_shaped n)

pub blank_count : (n : ℕ) → length (blank_lines n) ≡ n
unfolding blank_lines
blank_count zero = refl
blank_count (suc n) = ap suc (blank_count n)

pub rows_count : (kinds : List ℕ) (rows : List Row) → length (row_lines kinds rows) ≡ length rows
unfolding row_lines
rows_count kinds [] = refl
rows_count kinds (row ∷ rows) = ap suc (rows_count kinds rows)

rows_shaped : (kinds : List ℕ) → length kinds ≤ 8 → (n : ℕ) (cells : List ℕ) → n * length kinds ≤ length cells
    → SmallCells (n * length kinds) cells → Shaped (row_lines kinds (rows_in (length kinds) n cells))
unfolding row_lines rows_in
rows_shaped kinds h zero cells f s = none
rows_shaped kinds h (suc n) cells f s =
    more (line_96 (short_cells kinds (take (length kinds) cells) (first_of_kinds kinds n cells f s).cells)
    (omega (arith, cells_few kinds (take (length kinds) cells))))
    (rows_shaped kinds h n (drop (length kinds) cells)
    (omega (arith, f, suc-mul n (length kinds), length-drop (length kinds) cells)) (rest_small (length kinds) n cells
    s))

-- ---- a sheet

showing_count : (serial rows : ℕ) (kinds : List ℕ) (shown : List Row) (number : ℕ) → length shown ≤ 38
    → length (lines_showing serial rows kinds shown number) ≡ 40
unfolding lines_showing
showing_count serial rows kinds shown number h =
    omega (
      arith,
      length-append (row_lines kinds shown) (blank_lines (38 - length shown) ++ foot_line number ∷ []),
      length-append (blank_lines (38 - length shown)) (foot_line number ∷ []),
      rows_count kinds shown,
      blank_count (38 - length shown),
    )

module _ (rows : ℕ) (kinds cells : List ℕ) (number : ℕ) (fit : FitToPrint rows kinds cells)
    (some : 1 ≤ number) (last : number ≤ sheet_count rows) where
  abbrev w : ℕ
  w = length kinds

  abbrev first : ℕ
  first = 38 * (number - 1)

  -- the rows of the sheet in their cells
  module _ (n : ℕ) (cut : n ≡ min 38 (rows - first)) where
    shown_inside : first + n ≤ rows
    shown_inside = omega (arith, cut, first_inside rows number some last)

    cells_inside : first * w + n * w ≤ rows * w
    cells_inside = subst (λ (m : ℕ). m ≤ rows * w) (add-mul first n w) (mul-le-mul_right w shown_inside)

    pub part_inside : first * w + n * w ≤ length cells
    part_inside = omega (arith, cells_inside, fit.enough_cells)

    pub cells_enough : n * w ≤ length (drop (first * w) cells)
    cells_enough = omega (arith, length-drop (first * w) cells, cells_inside, fit.enough_cells)

    pub cells_small : SmallCells (n * w) (drop (first * w) cells)
    cells_small i h =
        subst (λ (c : ℕ). c < 2 ^ 32) (sym (get_or-drop (first * w) cells i 0))
        (fit_small rows kinds cells fit (first * w + i) (omega (arith, cells_inside)))

    pub shown_rows : sheet_rows number (answer_rows rows kinds cells) ≡ rows_in w n (drop (first * w) cells)
    shown_rows =
        sheet_rows_law w number rows cells ∙ ap (λ (m : ℕ). rows_in w m (drop (first * w) cells)) (sym cut)

    shown_shaped : Shaped (row_lines kinds (rows_in w n (drop (first * w) cells)))
    shown_shaped = rows_shaped kinds fit.few_items n (drop (first * w) cells) cells_enough cells_small

  pub number_few : number ≤ 999_999_999_999
  number_few = omega (arith, number_inside rows number some last, fit.few_rows)

  -- the parts of a sheet, one behind the other
  pub sheet_parts : (serial n : ℕ) → n ≡ min 38 (rows - first)
      → sheet_text serial rows kinds cells number
      ≡ head_line serial rows
      ++ (joined (row_lines kinds (rows_in w n (drop (first * w) cells))) ++ (joined (blank_lines (38 - n)) ++ foot_line
      number))
  unfolding sheet_text sheet_lines lines_showing joined
  sheet_parts serial n cut =
      ap (λ (r : List Row). joined (lines_showing serial rows kinds r number)) (shown_rows n cut)
      ∙ ap (λ (m : ℕ). head_line serial rows ++ joined (row_lines kinds shown ++ (blank_lines (38 - m) ++ foot_line number
      ∷ [])))
      (length_rows w n (drop (first * w) cells))
      ∙ ap (λ (l : List ℕ). head_line serial rows ++ l) (joined_append (row_lines kinds shown) (blank_lines (38 - n) ++
      foot_line number ∷ [])
      ∙ ap (λ (l : List ℕ). joined (row_lines kinds shown) ++ l) (joined_append (blank_lines (38 - n)) (foot_line number
      ∷ [])
      ∙ ap (λ (l : List ℕ). joined (blank_lines (38 - n)) ++ l) (append-nil (foot_line number))))
    where
      shown : List Row
      shown = rows_in w n (drop (first * w) cells)

  module _ (serial : ℕ) (small : serial < 2 ^ 32) where
    showing_shaped : (r : List Row) → Shaped (row_lines kinds r) → Shaped (lines_showing serial rows kinds r number)
    unfolding lines_showing
    showing_shaped r v =
        more (line_96 (more (short_number serial (omega arith)) (more (short_number rows fit.few_rows) none)) (omega
        arith))
        (shaped_append v (shaped_append (blank_shaped (38 - length r))
        (more (line_96 (more (short_number number number_few) none) (omega arith)) none)))

    pub sheet_lines_shaped : Shaped (sheet_lines serial rows kinds cells number)
    unfolding sheet_lines
    sheet_lines_shaped =
        showing_shaped (sheet_rows number (answer_rows rows kinds cells))
        (subst (λ (r : List Row). Shaped (row_lines kinds r)) (sym (shown_rows (min 38 (rows - first)) refl))
        (shown_shaped (min 38 (rows - first)) refl))

    pub sheet_lines_count : length (sheet_lines serial rows kinds cells number) ≡ 40
    unfolding sheet_lines
    sheet_lines_count =
        showing_count serial rows kinds (sheet_rows number (answer_rows rows kinds cells)) number
        (rows_few number (answer_rows rows kinds cells))

    pub sheet_shaped : SheetShaped serial rows kinds cells number
    unfolding sheet_text
    sheet_shaped = record {
      lines = sheet_lines_count;
      each = shaped_each sheet_lines_shaped;
      bytes = omega (arith, shaped_length sheet_lines_shaped, sheet_lines_count);
    }

-- ---- what stands in each line

row_line_law : (kinds : List ℕ) (rows : List Row) (j : ℕ) → j < length rows
    → get_or (row_lines kinds rows) j [] ≡ row_line kinds (get_or rows j [])
unfolding row_lines
row_line_law kinds [] j h = absurd (omega (arith, h))
row_line_law kinds (r ∷ rows) zero h = refl
row_line_law kinds (r ∷ rows) (suc j) h = row_line_law kinds rows j (omega (arith, h))

blank_line : (n j : ℕ) → j < n → get_or (blank_lines n) j [] ≡ line_of []
unfolding blank_lines
blank_line zero j h = absurd (omega (arith, h))
blank_line (suc n) zero h = refl
blank_line (suc n) (suc j) h = blank_line n j (omega (arith, h))

module _ (serial rows : ℕ) (kinds : List ℕ) (shown : List Row) (number : ℕ) (few : length shown ≤ 38) where
  abbrev lines : List (List ℕ)
  lines = lines_showing serial rows kinds shown number

  line_of_row : (j : ℕ) → j < length shown → get_or lines (suc j) [] ≡ row_line kinds (get_or shown j [])
  unfolding lines_showing
  line_of_row j h =
      get_or-append (row_lines kinds shown) (blank_lines (38 - length shown) ++ foot_line number ∷ []) [] j
      (omega (arith, rows_count kinds shown))
      ∙ row_line_law kinds shown j h

  line_blank : (j : ℕ) → length shown ≤ j → j < 38 → get_or lines (suc j) [] ≡ line_of []
  unfolding lines_showing
  line_blank j h k =
      ap (λ (i : ℕ). get_or (row_lines kinds shown ++ (blank_lines (38 - length shown) ++ foot_line number ∷ [])) i []) back
      ∙ get_or-append-add (row_lines kinds shown) (blank_lines (38 - length shown) ++ foot_line number ∷ []) (j - length
      shown) []
      ∙ get_or-append (blank_lines (38 - length shown)) (foot_line number ∷ []) [] (j - length shown)
      (omega (arith, blank_count (38 - length shown)))
      ∙ blank_line (38 - length shown) (j - length shown) (omega arith)
    where
      back : j ≡ length (row_lines kinds shown) + (j - length shown)
      back = omega (arith, rows_count kinds shown)

  -- the foot line is the last of 40
  pub line_foot : get_or lines 39 [] ≡ foot_line number
  unfolding lines_showing
  line_foot =
      ap (λ (l : List (List ℕ)). get_or (head_line serial rows ∷ l) 39 [])
      (sym (append_assoc (row_lines kinds shown) (blank_lines (38 - length shown)) (foot_line number ∷ [])))
      ∙ get_or_at (head_line serial rows ∷ (row_lines kinds shown ++ blank_lines (38 - length shown))) (foot_line number) []
      []
      39
      (omega (
        arith,
        length-append (row_lines kinds shown) (blank_lines (38 - length shown)),
        rows_count kinds shown,
        blank_count (38 - length shown),
      ))

pub lines_say : (serial rows : ℕ) (kinds cells : List ℕ) (number : ℕ) → LinesSay serial rows kinds cells number
unfolding sheet_lines lines_showing
lines_say serial rows kinds cells number = record {
  head = refl;
  row = λ j h k.
      ap (λ (i : ℕ). get_or (sheet_lines serial rows kinds cells number) i []) (next j)
      ∙ line_of_row serial rows kinds (sheet_rows number (answer_rows rows kinds cells)) number few j (subst (λ (n : ℕ).
      j < n) (sym long) (omega arith))
      ∙ ap (row_line kinds) (shown_at (length kinds) number rows cells j (omega arith));
  blank = λ j h k.
      ap (λ (i : ℕ). get_or (sheet_lines serial rows kinds cells number) i []) (next j)
      ∙ line_blank serial rows kinds (sheet_rows number (answer_rows rows kinds cells)) number few j (subst (λ (n : ℕ).
      n ≤ j) (sym long) (omega arith)) h;
  foot = line_foot serial rows kinds (sheet_rows number (answer_rows rows kinds cells)) number few;
}
  where
    next : (j : ℕ) → 1 + j ≡ suc j
    next j = omega arith

    few : length (sheet_rows number (answer_rows rows kinds cells)) ≤ 38
    few = rows_few number (answer_rows rows kinds cells)

    long : length (sheet_rows number (answer_rows rows kinds cells)) ≡ min 38 (rows - 38 * (number - 1))
    long = shown_length (length kinds) number rows cells
