-- `printout::rows_fit` meets its contract. The invariant: the rows before row i fit (`RowsFitSoFar`).
-- Assumes nothing.
use Rattle.printout.proofs.Rows.{rows_fit_no, rows_fit_next, rows_fit_end}
use Rattle.printout.proofs.rows_fit.Goals as goal

pub returns-then-not-row_fits : goal.returns-then-not-row_fits
returns-then-not-row_fits c = rows_fit_no c.args.kinds.now c.args.cells.now c.loop-i.invariant
    c.loop-i-test.true c.row_fits.ensures c.if-not-row_fits.true

pub loop-i-preserved : goal.loop-i-preserved
loop-i-preserved c = rows_fit_next c.args.kinds.now c.args.cells.now c.loop-i.invariant
    c.loop-i-test.true c.row_fits.ensures c.if-not-row_fits.false

pub returns : goal.returns
returns c = rows_fit_end c.args.kinds.now c.args.cells.now c.loop-i.invariant c.loop-i-test.false
