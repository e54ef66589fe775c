-- `printout::put_text` meets its contract. The invariant: the bytes before this one are written (`Writing`). Assumes nothing.
use mathlib.Core.Path.{refl}
use Rattle.printout.proofs.Writing.{writing_start, text_next}
use Rattle.printout.proofs.put_text.Goals as goal

pub loop-byte-init : goal.loop-byte-init
loop-byte-init c = writing_start c.args.at c.args.text.now c.args.out.now c.requires

pub loop-byte-preserved : goal.loop-byte-preserved
loop-byte-preserved c = text_next c.args.at c.args.text.now c.args.out.now c.loop-byte.invariant c.loop-byte-test.true refl
    c.put_byte-end.ensures.value c.put_byte-end.ensures.out_after
