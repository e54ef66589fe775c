-- `printout::rows_length` meets its contract. The invariant: `n` counts the bytes of the rows before row i
-- (`RowsCounted`).
-- Assumes nothing.
use Rattle.printout.proofs.Rows.{rows_counted_next, rows_counted_end}
use Rattle.printout.proofs.rows_length.Goals as goal

pub loop-i-preserved : goal.loop-i-preserved
loop-i-preserved c = rows_counted_next c.args.kinds.now c.args.cells.now c.loop-i.invariant
    c.loop-i-test.true (c.row_length-n.ensures.value, c.row_length-n.ensures.inside)

pub returns : goal.returns
returns c = let r = rows_counted_end c.args.kinds.now c.args.cells.now c.loop-i.invariant
    c.loop-i-test.false c.loop-i.auto.i-end c.requires.kinds_len_bound.1 in
    record { value = r.0; inside = r.1 }
