-- `sheets::put_number` meets its contract: the blanks and the digits, one behind the other.
-- Assumes nothing.
use native.Mathlib.Omega.{arith}
use Rattle.sheets.proofs.Putting.{blanks_room, text_room, field_written}
use Rattle.sheets.proofs.Fields.{number_short}
use Rattle.printout.specs.Decimal.{decimal}
use Rattle.sheets.proofs.put_number.Goals as goal

pub overflow_sub-digits : goal.overflow_sub-digits
overflow_sub-digits c = omega (arith, c.decimal_length-digits.ensures.value, number_short c.args.x c.requires.x_bound)

pub put_blanks-end-requires : goal.put_blanks-end-requires
put_blanks-end-requires c = blanks_room (decimal c.args.x) c.args.out.now c.args.at c.requires.x_in_bounds
    c.decimal_length-digits.ensures.value

pub put_decimal-requires : goal.put_decimal-requires
put_decimal-requires c = text_room (decimal c.args.x) c.args.out.now c.args.at c.requires.x_in_bounds
    c.decimal_length-digits.ensures.value c.put_blanks-end.ensures.value c.put_blanks-end.ensures.out_after

pub returns : goal.returns
returns c = let r = field_written (decimal c.args.x) c.args.out.now c.args.at c.requires.x_in_bounds
    c.decimal_length-digits.ensures.value c.put_blanks-end.ensures.value c.put_blanks-end.ensures.out_after
    c.put_decimal.ensures.value c.put_decimal.ensures.out_after in
    record { value = r.0; out_after = r.1 }
