-- The theorems of `specs/Statements.antt`, in its order.
-- In order: numbers in decimal, cells, what a text says, fit to print, what printing gives, room.
-- Assumes nothing.
use mathlib.Core.Path.{◌≡◌, refl, sym, ap, ◌∙◌}
use mathlib.Core.List.{List}
use Prim.Native.Nat.{ℕ}
use native.Mathlib.Omega.{arith}
use lib.ListN.{get_or}
use Rattle.values.specs.Values.{missing, in_range}
use Rattle.sorted.specs.Rows.{rows_in}
use Rattle.printout.specs.Lines.{all_known, row_fits, rows_fit, fits}
use Rattle.printout.specs.Statements.{InDecimal, CellsRead, TextsRead, FitTested, FitBounds}
use Rattle.printout.specs.Statements.{TextPrinted, AnswerPrinted, RoomEnough}
use Rattle.printout.proofs.Decimal.{decimal_small, decimal_large, decimal_numeral, number_decimal}
use Rattle.printout.proofs.Decimal.{numeral_decimal, integer_read, cell_same}
use Rattle.printout.proofs.Lines.{row_same, answer_same, book_same, query_same}
use Rattle.printout.proofs.Lines.{answer_first, book_first, query_first}
use Rattle.printout.proofs.Fit.{fits_fit, fit_fits, names_fit}
use Rattle.printout.proofs.Texts as Texts
use Rattle.printout.proofs.Room.{answer_short, book_short, query_short}

pub in_decimal : InDecimal
in_decimal = record {
  one_digit = λ n. decimal_small;
  more_digits = λ n. decimal_large;
  looks = decimal_numeral;
  reads_back = number_decimal;
  only = numeral_decimal;
}

pub cells_read : CellsRead
cells_read = record { reads_back = integer_read; apart = cell_same }

-- texts that begin with other bytes are not the same
firsts : (x y : List ℕ) (a b : ℕ) → get_or x 0 0 ≡ a → get_or y 0 0 ≡ b → ¬ (a ≡ b) → ¬ (x ≡ y)
firsts x y a b p q f e = f (sym p ∙ ap (λ (l : List ℕ). get_or l 0 0) e ∙ q)

pub texts_read : TextsRead
texts_read = record {
  row = row_same;
  answer = answer_same;
  book = book_same;
  query = query_same;
  answer_not_book = λ serial rows kinds cells n.
      firsts _ _ 81 98 (answer_first serial rows kinds cells) (book_first n) (λ e. omega (arith, e));
  answer_not_query = λ serial rows kinds cells n.
      firsts _ _ 81 113 (answer_first serial rows kinds cells) (query_first n) (λ e. omega (arith, e));
  book_not_query = λ m n. firsts _ _ 98 113 (book_first m) (query_first n) (λ e. omega (arith, e));
}

pub fit_tested : FitTested
unfolding FitTested
fit_tested rows kinds cells = (fits_fit rows kinds cells, fit_fits rows kinds cells)

pub fit_bounds : FitBounds
unfolding fits all_known row_fits rows_fit rows_in missing in_range
fit_bounds = record {
  no_item = λ rows cells f. omega (arith, f.some_items);
  eight_items = fits_fit 1 _ _ refl;
  nine_items = λ rows kinds cells h f. omega (arith, h, f.few_items);
  four_is_no_kind = λ rows kinds cells j h l f. omega (arith, l, f.known_kinds j h);
  most_rows = names_fit;
  more_rows = λ rows kinds cells h f. omega (arith, h, f.few_rows);
}

pub text_printed : (text bytes : List ℕ) → TextPrinted text bytes
text_printed = Texts.text_printed

pub answer_printed_law : (serial rows : ℕ) (kinds cells bytes : List ℕ) → AnswerPrinted serial rows kinds cells bytes
answer_printed_law = Texts.answer_printed_law

pub room_enough : RoomEnough
room_enough = record { answer = answer_short; book = book_short; query = query_short }
