-- `printout::print_text` meets its contract: there is no room, or the text is written.
-- Assumes nothing.
use Rattle.printout.proofs.Texts.{whole_printed, none_printed}
use native.Mathlib.Omega.{arith}
use Rattle.printout.proofs.print_text.Goals as goal

pub returns-then-out-text : goal.returns-then-out-text
returns-then-out-text c = let r = none_printed c.args.text.now c.args.out.now (omega (arith, c.if-out-text.true)) in
    record { value = r.0; out_after = r.1 }

pub returns : goal.returns
returns c = let r = whole_printed c.args.text.now c.args.out.now (omega (arith, c.if-out-text.false))
    (c.put_text.ensures.value, c.put_text.ensures.out_after) in
    record { value = r.0; out_after = r.1 }
