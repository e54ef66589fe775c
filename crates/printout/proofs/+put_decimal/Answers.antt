-- `printout::put_decimal` meets its contract. The digits of the tenth part, then the last one (`large_written`). The
-- measure: the number.
-- Assumes nothing.
use native.Mathlib.Omega.{arith}
use Rattle.printout.proofs.Writing.{small_written, tenth_room, last_room, large_written, small_room}
use Rattle.printout.proofs.+put_decimal.Goals as goal

pub put_byte-requires : goal.put_byte-requires
put_byte-requires t c = small_room c.args.x c.args.at c.args.out.now c.requires
    (omega (arith, c.if-x-lt10.true))

pub returns-then-x-lt10 : goal.returns-then-x-lt10
returns-then-x-lt10 t c = let r = small_written c.args.x c.args.at _ (omega (arith, c.if-x-lt10.true))
    c.digit.ensures
    c.put_byte.ensures.value c.put_byte.ensures.out_after in
    record { value = r.0; out_after = r.1 }

pub put_decimal-end-requires : goal.put_decimal-end-requires
put_decimal-end-requires t c = (
  omega (arith, c.if-x-lt10.false),
  tenth_room c.args.x c.args.at c.args.out.now (omega (arith, c.if-x-lt10.false))
      c.requires,
)

pub digit-requires-2 : goal.digit-requires-2
digit-requires-2 t c = omega arith

pub put_byte-requires-2 : goal.put_byte-requires-2
put_byte-requires-2 t c = last_room c.args.x c.args.at c.args.out.now (omega (arith, c.if-x-lt10.false))
    c.requires
    c.put_decimal-end.ensures.value c.put_decimal-end.ensures.out_after

pub returns : goal.returns
returns t c = let r = large_written c.args.x c.args.at _ (omega (arith, c.if-x-lt10.false)) c.requires
    c.put_decimal-end.ensures.value c.put_decimal-end.ensures.out_after
    c.digit-2.ensures c.put_byte-2.ensures.value c.put_byte-2.ensures.out_after in
    record { value = r.0; out_after = r.1 }
