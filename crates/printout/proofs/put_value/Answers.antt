-- `printout::put_value` meets its contract: a minus and the digits, or the digits only.
-- Assumes nothing.
use native.Mathlib.Omega.{arith}
use Rattle.printout.proofs.Writing.{minus_room, digits_room, digits_written, plain_room, plain_written}
use Rattle.printout.proofs.put_value.Goals as goal

pub put_byte-digits-requires : goal.put_byte-digits-requires
put_byte-digits-requires c = minus_room c.args.kind c.args.cell c.args.at c.args.out.now c.requires
    c.has_minus.ensures c.if-has_minus.true (omega arith)

pub put_decimal-requires : goal.put_decimal-requires
put_decimal-requires c = digits_room c.args.kind c.args.cell c.args.at c.args.out.now c.requires
    c.has_minus.ensures c.index.ensures c.if-has_minus.true c.put_byte-digits.ensures.value
    c.put_byte-digits.ensures.out_after

pub returns-then-has_minus : goal.returns-then-has_minus
returns-then-has_minus c = let r = digits_written c.args.kind c.args.cell c.args.at c.args.out.now c.requires
    c.has_minus.ensures c.index.ensures c.if-has_minus.true
    c.put_byte-digits.ensures.value c.put_byte-digits.ensures.out_after
    c.put_decimal.ensures.value c.put_decimal.ensures.out_after in
    record { value = r.0; out_after = r.1 }

pub put_decimal-requires-2 : goal.put_decimal-requires-2
put_decimal-requires-2 c = plain_room c.args.kind c.args.cell c.args.at c.args.out.now c.requires
    c.has_minus.ensures c.index-2.ensures c.if-has_minus.false

pub returns : goal.returns
returns c = let r = plain_written c.args.kind c.args.cell c.args.at c.args.out.now c.requires
    c.has_minus.ensures c.index-2.ensures c.if-has_minus.false
    c.put_decimal-2.ensures.value c.put_decimal-2.ensures.out_after in record { value = r.0; out_after = r.1 }
