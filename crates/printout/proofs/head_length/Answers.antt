-- `printout::head_length` meets its contract, by the parts of the head line (`head_counted`).
-- Assumes nothing.
use Rattle.printout.proofs.Texts.{head_counted}
use Rattle.printout.proofs.head_length.Goals as goal

pub returns : goal.returns
returns c = let r = head_counted c.args.serial c.args.rows c.index.ensures
    (c.decimal_length.ensures.value, c.decimal_length.ensures.inside) (
      c.decimal_length-2.ensures.value,
      c.decimal_length-2.ensures.inside,
    ) in
    record { value = r.0; inside = r.1 }
