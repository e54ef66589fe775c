-- `printout::value_length` meets its contract, with a minus and without (`minus_counted`, `plain_counted`).
-- Assumes nothing.
use Rattle.printout.proofs.Decimal.{minus_counted, plain_counted}
use Rattle.printout.proofs.value_length.Goals as goal

pub returns-then-has_minus : goal.returns-then-has_minus
returns-then-has_minus c = let r = minus_counted c.args.kind c.args.cell c.has_minus.ensures
    c.index.ensures c.if-has_minus.true c.decimal_length.ensures.value in
    record { value = r.0; inside = r.1 }

pub returns : goal.returns
returns c = let r = plain_counted c.args.kind c.args.cell c.has_minus.ensures
    c.index-2.ensures c.if-has_minus.false c.decimal_length-2.ensures.value in record { value = r.0; inside = r.1 }
