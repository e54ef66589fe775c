-- Fields, lines and a sheet written.
-- In order: blanks, a field, the fields of a row, the end of a line, the head line, the foot line, the line of a row,
-- lines of rows, lines of blanks, a sheet.
-- Assumes nothing.
use mathlib.Core.Path.{◌≡◌, refl, sym, ap, ap₂, subst, ◌∙◌}
use mathlib.Core.List.{List, [], ◌∷◌, ◌++◌, append-nil}
use Prim.Native.Nat.{ℕ, suc, ◌+◌, ◌-◌, ◌*◌, ◌^◌, ◌≤◌, ◌<◌}
use native.Mathlib.Nat.{add-sub_cancel_left, sub-zero}
use native.Mathlib.Omega.{arith}
use lib.ListN.{length, get_or, take, drop, replicate, length-append, length-drop}
use lib.Seq.{length-take-le}
use Rattle.sorted.specs.Rows.{Row, rows_in}
use Rattle.printout.specs.Decimal.{decimal, cell_text}
use Rattle.printout.specs.Lines.{cell_texts}
use Rattle.printout.specs.Printing.{written}
use Rattle.printout.proofs.Decimal.{cell_short}
use Rattle.printout.proofs.Writing.{Writing, written_part, writing_start, writing_room, writing_next, writing_end}
use Rattle.printout.proofs.Texts.{first_room, second_room, both_written}
use Rattle.printout.proofs.Rows.{row_part, rows_front, rows_none}
use Rattle.sheets.specs.Sheets.{blanks, field_of, fields_of, rest_of, line_of, head_line, row_line, foot_line}
use Rattle.sheets.specs.Sheets.{row_lines, blank_lines, joined}
use Rattle.sheets.proofs.Fields.{blanks_length, field_length, number_short}
use Rattle.sheets.proofs.Fields.{fields_left}
use Rattle.sheets.proofs.Fields.{fields_front, fields_none, line_none, line_one, line_two}

-- ---- blanks

-- a part lent, filled with blanks
pub blanks_written : (at n : ℕ) (e : List ℕ) {part : List ℕ} → at + n ≤ length e
    → part ≡ replicate (length (take (at + n - at) (drop at e))) 32
    → take at e ++ (part ++ drop (at + n - at) (drop at e)) ≡ written at (blanks n) e
blanks_written at n e h p =
    written_part at (at + n) (blanks n) e (omega (arith, blanks_length n)) (p ∙ ap blanks filled)
  where
    filled : length (take (at + n - at) (drop at e)) ≡ n
    filled =
        length-take-le (at + n - at) (drop at e) (omega (arith, h, length-drop at e)) ∙ add-sub_cancel_left at n

-- ---- a field: n is the length of its text

module _ (text e : List ℕ) (at : ℕ) (room : at + length (field_of text) ≤ length e) {n : ℕ} (p : n ≡ length text) where
  pub blanks_room : at + length (blanks (12 - n)) ≤ length e
  unfolding field_of
  blanks_room = rw p (first_room at (blanks (12 - length text)) text e room)

  module _ {end : ℕ} {mid : List ℕ} (q : end ≡ at + length (blanks (12 - n))) (w : mid ≡ written at (blanks (12 - n)) e)
    where
      end_is : end ≡ at + length (blanks (12 - length text))
      end_is = q ∙ ap (λ (m : ℕ). at + length (blanks (12 - m))) p

      mid_is : mid ≡ written at (blanks (12 - length text)) e
      mid_is = w ∙ ap (λ (m : ℕ). written at (blanks (12 - m)) e) p

      pub text_room : end + length text ≤ length mid
      unfolding field_of
      text_room = second_room at (blanks (12 - length text)) text e room end_is mid_is

      pub field_written : {to : ℕ} {out : List ℕ} → to ≡ end + length text → out ≡ written end text mid
          → (to ≡ at + length (field_of text)) × (out ≡ written at (field_of text) e)
      unfolding field_of
      field_written r u = both_written at (blanks (12 - length text)) text e room end_is mid_is r u

-- the field of a cell has its 12 columns
pub cell_field : (kind cell : ℕ) → cell < 2 ^ 32 → length (field_of (cell_text kind cell)) ≡ 12
cell_field kind cell h = field_length (cell_text kind cell) (omega (arith, cell_short kind cell h))

-- ---- the fields of a row

module _ (kinds : List ℕ) (row : Row) (from : ℕ) (e : List ℕ) (i : ℕ) {at : ℕ} {bytes : List ℕ}
    (v : Writing from (fields_left kinds row 0) e at (fields_left kinds row i) bytes) where
  -- the cell and its kind as the code has them
  module _ (h : i < length kinds) (wide : length kinds ≤ length row) {k a : ℕ} (p : k ≡ get_or kinds i 0)
      (q : a ≡ get_or row i 0) where
    fields_more : fields_left kinds row i ≡ field_of (cell_text k a) ++ fields_left kinds row (i + 1)
    fields_more =
        fields_front kinds row i h wide
        ∙ ap₂ (λ (x y : ℕ). field_of (cell_text x y) ++ fields_left kinds row (i + 1)) (sym p) (sym q)

    pub field_room : at + length (field_of (cell_text k a)) ≤ length bytes
    field_room =
        omega (
          arith,
          writing_room from (fields_left kinds row 0) e v,
          ap length fields_more,
          length-append (field_of (cell_text k a)) (fields_left kinds row (i + 1)),
        )

    pub fields_next : {next to : ℕ} {out : List ℕ} → next ≡ i + 1 → to ≡ at + length (field_of (cell_text k a))
        → out ≡ written at (field_of (cell_text k a)) bytes
        → Writing from (fields_left kinds row 0) e to (fields_left kinds row next) out
    fields_next n r w =
        writing_next from (fields_left kinds row 0) e v (field_of (cell_text k a)) (fields_left kinds row _)
        (fields_more ∙ ap (λ (m : ℕ). field_of (cell_text k a) ++ fields_left kinds row m) (sym n)) r w

  pub fields_end : length kinds ≤ i
      → (at ≡ from + length (fields_left kinds row 0)) × (bytes ≡ written from (fields_left kinds row 0) e)
  fields_end h =
      writing_end from (fields_left kinds row 0) e
      (subst (λ (l : List ℕ). Writing from (fields_left kinds row 0) e at l bytes) (fields_none kinds row i h) v)

-- ---- the end of a line

module _ (used at : ℕ) (e : List ℕ) (room : at + length (rest_of used) ≤ length e) where
  pub rest_room : at + length (blanks (96 - used)) ≤ length e
  unfolding rest_of
  rest_room = first_room at (blanks (96 - used)) (10 ∷ []) e room

  module _ {end : ℕ} {mid : List ℕ} (p : end ≡ at + length (blanks (96 - used)))
      (w : mid ≡ written at (blanks (96 - used)) e) where
    pub feed_room : end < length mid
    unfolding rest_of
    feed_room = omega (arith, second_room at (blanks (96 - used)) (10 ∷ []) e room p w)

    pub rest_written : {to : ℕ} {out : List ℕ} → to ≡ end + 1 → out ≡ written end (10 ∷ []) mid
        → (to ≡ at + length (rest_of used)) × (out ≡ written at (rest_of used) e)
    unfolding rest_of
    rest_written q u = both_written at (blanks (96 - used)) (10 ∷ []) e room p w q u

-- ---- the head line

-- the serial as the code has it, the number x
module _ (serial rows : ℕ) (few : rows ≤ 999_999_999_999) {x : ℕ} (same : (x ≡ serial) × (x < 2 ^ 32)) (e : List ℕ)
    (room : 0 + length (head_line serial rows) ≤ length e) where
  head_parts : head_line serial rows ≡ field_of (decimal x) ++ (field_of (decimal rows) ++ rest_of 24)
  head_parts =
      line_two (decimal serial) (decimal rows) (number_short serial (omega arith)) (number_short rows few)
      ∙ ap (λ (n : ℕ). field_of (decimal n) ++ (field_of (decimal rows) ++ rest_of 24)) (sym same.0)

  head_start : Writing 0 (head_line serial rows) e 0 (head_line serial rows) e
  head_start = writing_start 0 (head_line serial rows) e room

  pub serial_room : 0 + length (field_of (decimal x)) ≤ length e
  serial_room =
      omega (
        arith,
        room,
        ap length head_parts,
        length-append (field_of (decimal x)) (field_of (decimal rows) ++ rest_of
            24),
      )

  module _ {a : ℕ} {first : List ℕ} (p : a ≡ 0 + length (field_of (decimal x)))
      (w : first ≡ written 0 (field_of (decimal x)) e) where
    serial_written : Writing 0 (head_line serial rows) e a (field_of (decimal rows) ++ rest_of 24) first
    serial_written =
        writing_next 0 (head_line serial rows) e head_start (field_of (decimal x)) (field_of (decimal rows) ++ rest_of 24)
        head_parts p w

    pub count_room : a + length (field_of (decimal rows)) ≤ length first
    count_room =
        omega (
          arith,
          writing_room 0 (head_line serial rows) e serial_written,
          length-append (field_of (decimal rows)) (rest_of 24),
        )

    module _ {b : ℕ} {second : List ℕ} (q : b ≡ a + length (field_of (decimal rows)))
        (u : second ≡ written a (field_of (decimal rows)) first) where
      count_written : Writing 0 (head_line serial rows) e b (rest_of 24) second
      count_written =
          writing_next 0 (head_line serial rows) e serial_written (field_of (decimal rows)) (rest_of 24) refl q u

      pub head_rest_room : b + length (rest_of 24) ≤ length second
      head_rest_room = writing_room 0 (head_line serial rows) e count_written

      pub head_written : {to : ℕ} {out : List ℕ} → to ≡ b + length (rest_of 24) → out ≡ written b (rest_of 24) second
          → (to ≡ 0 + length (head_line serial rows)) × (out ≡ written 0 (head_line serial rows) e)
      head_written r t =
          writing_end 0 (head_line serial rows) e
          (writing_next 0 (head_line serial rows) e count_written (rest_of 24) [] (sym (append-nil (rest_of 24))) r t)

-- ---- a line of a part and its rest

module _ (line part rest : List ℕ) (parts : line ≡ part ++ rest) (at : ℕ) (e : List ℕ)
    (room : at + length line ≤ length e) where
  room_is : at + length (part ++ rest) ≤ length e
  room_is = subst (λ (l : List ℕ). at + length l ≤ length e) parts room

  pub part_room : at + length part ≤ length e
  part_room = first_room at part rest e room_is

  module _ {end : ℕ} {mid : List ℕ} (p : end ≡ at + length part) (w : mid ≡ written at part e) where
    pub rest_behind : end + length rest ≤ length mid
    rest_behind = second_room at part rest e room_is p w

    pub line_written : {to : ℕ} {out : List ℕ} → to ≡ end + length rest → out ≡ written end rest mid
        → (to ≡ at + length line) × (out ≡ written at line e)
    line_written q u =
        let (f, g) = both_written at part rest e room_is p w q u in (
          f ∙ ap (λ (l : List ℕ). at + length l) (sym parts),
          g ∙ ap (λ (l : List ℕ). written at l e) (sym parts),
        )

-- ---- the foot line and the line of a row

pub foot_parts : (number : ℕ) → number ≤ 999_999_999_999
    → foot_line number ≡ field_of (decimal number) ++ rest_of 12
foot_parts number few = line_one (decimal number) (number_short number few)

module _ (kinds : List ℕ) (row : Row) (at : ℕ) (e : List ℕ) (room : at + length (row_line kinds row) ≤ length e) where
  abbrev row_fields : List ℕ
  row_fields = fields_of (cell_texts kinds row)

  row_parts : (n : ℕ) → n ≡ length row_fields → row_line kinds row ≡ row_fields ++ rest_of n
  unfolding line_of
  row_parts n p = ap (λ (m : ℕ). row_fields ++ rest_of m) (sym p)

  pub row_fields_room : at + length row_fields ≤ length e
  row_fields_room =
      part_room (row_line kinds row) row_fields (rest_of (length row_fields)) (row_parts (length row_fields) refl) at e room

  -- the fields have 12 columns each
  module _ {end : ℕ} {mid : List ℕ} (p : end ≡ at + length row_fields) (w : mid ≡ written at row_fields e)
      (q : end ≡ at + 12 * length kinds) where
    parts_12 : row_line kinds row ≡ row_fields ++ rest_of (12 * length kinds)
    parts_12 = row_parts (12 * length kinds) (omega (arith, p, q))

    pub row_rest_room : end + length (rest_of (12 * length kinds)) ≤ length mid
    row_rest_room = rest_behind (row_line kinds row) row_fields (rest_of (12 * length kinds)) parts_12 at e room p w

    pub row_line_written : {to : ℕ} {out : List ℕ} → to ≡ end + length (rest_of (12 * length kinds))
        → out ≡ written end (rest_of (12 * length kinds)) mid
        → (to ≡ at + length (row_line kinds row)) × (out ≡ written at (row_line kinds row) e)
    row_line_written r u =
        line_written (row_line kinds row) row_fields (rest_of (12 * length kinds)) parts_12 at e room p w r u

-- ---- lines of rows

-- the lines of the rows from row i on
abbrev pub lines_left : List ℕ → List ℕ → ℕ → ℕ → List ℕ
lines_left kinds cells rows i = joined (row_lines kinds (drop i (rows_in (length kinds) rows cells)))

module _ (kinds cells : List ℕ) (rows i : ℕ) where
  -- the line of row i
  abbrev line_here : List ℕ
  line_here = row_line kinds (row_part (length kinds) cells i)

  module _ (h : i < rows) where
    lines_front : lines_left kinds cells rows i ≡ line_here ++ lines_left kinds cells rows (i + 1)
    unfolding row_lines joined
    lines_front = rw (rows_front (length kinds) cells i rows h)

    module _ (start : ℕ) (text e : List ℕ) {at : ℕ} {bytes : List ℕ}
        (v : Writing start text e at (lines_left kinds cells rows i) bytes) where
      pub row_room : at + length line_here ≤ length bytes
      row_room =
          omega (
            arith,
            writing_room start text e v,
            ap length lines_front,
            length-append line_here (lines_left kinds cells rows (i + 1)),
          )

      pub row_written : {to : ℕ} {out : List ℕ} → to ≡ at + length line_here → out ≡ written at line_here bytes
          → Writing start text e to (lines_left kinds cells rows (i + 1)) out
      row_written p w =
          writing_next start text e v line_here (lines_left kinds cells rows (i + 1)) lines_front p w

  module _ (h : rows ≤ i) where
    no_lines : lines_left kinds cells rows i ≡ []
    unfolding row_lines joined
    no_lines = ap (λ (l : List Row). joined (row_lines kinds l)) (rows_none (length kinds) cells i rows h)

    pub rows_written : (start : ℕ) (text e : List ℕ) {at : ℕ} {bytes : List ℕ}
        → Writing start text e at (lines_left kinds cells rows i) bytes
        → (at ≡ start + length text) × (bytes ≡ written start text e)
    rows_written start text e {at} {bytes} v =
        writing_end start text e (subst (λ (l : List ℕ). Writing start text e at l bytes) no_lines v)

-- ---- lines of blanks

abbrev pub blank_text : ℕ → List ℕ
blank_text n = joined (blank_lines n)

-- the first of the lines behind i of them
blank_front : (n i : ℕ) → i < n → blank_text (n - i) ≡ rest_of 0 ++ blank_text (n - (i + 1))
unfolding joined blank_lines
blank_front n i h = ap blank_text more ∙ ap (λ (l : List ℕ). l ++ blank_text (n - (i + 1))) line_none
  where
    more : n - i ≡ suc (n - (i + 1))
    more = omega (arith, h)

no_blank_lines : (n i : ℕ) → n ≤ i → blank_text (n - i) ≡ []
unfolding joined blank_lines
no_blank_lines n i h = ap blank_text none
  where
    none : n - i ≡ 0
    none = omega (arith, h)

pub blank_start : (from n : ℕ) (e : List ℕ) → from + length (blank_text n) ≤ length e
    → Writing from (blank_text n) e from (blank_text (n - 0)) e
blank_start from n e h =
    subst (λ (m : ℕ). Writing from (blank_text n) e from (blank_text m) e) (sym (sub-zero n))
    (writing_start from (blank_text n) e h)

module _ (from n : ℕ) (e : List ℕ) (i : ℕ) {at : ℕ} {bytes : List ℕ}
    (v : Writing from (blank_text n) e at (blank_text (n - i)) bytes) where
  pub blank_line_room : i < n → at + length (rest_of 0) ≤ length bytes
  blank_line_room h =
      omega (
        arith,
        writing_room from (blank_text n) e v,
        ap length (blank_front n i h),
        length-append (rest_of 0) (blank_text (n - (i + 1))),
      )

  pub blank_line_written : i < n → {to : ℕ} {out : List ℕ} → to ≡ at + length (rest_of 0)
      → out ≡ written at (rest_of 0) bytes → Writing from (blank_text n) e to (blank_text (n - (i + 1))) out
  blank_line_written h p w =
      writing_next from (blank_text n) e v (rest_of 0) (blank_text (n - (i + 1))) (blank_front n i h) p w

  pub blank_lines_written : n ≤ i → (at ≡ from + length (blank_text n)) × (bytes ≡ written from (blank_text n) e)
  blank_lines_written h =
      writing_end from (blank_text n) e
      (subst (λ (l : List ℕ). Writing from (blank_text n) e at l bytes) (no_blank_lines n i h) v)
