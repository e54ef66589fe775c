-- `printout::cell_length` meets its contract, of a missing cell and of one that is there. Assumes nothing.
use Rattle.printout.proofs.Decimal.{missing_counted, value_counted}
use Rattle.printout.proofs.cell_length.Goals as goal

pub returns-then-missing : goal.returns-then-missing
returns-then-missing c = let r = missing_counted _ _ c.missing.ensures c.if-missing.true in
    record { value = r.0; inside = r.1 }

pub returns : goal.returns
returns c = let r = value_counted _ _ c.missing.ensures c.if-missing.false c.value_length.ensures.value
    c.value_length.ensures.inside in record { value = r.0; inside = r.1 }
