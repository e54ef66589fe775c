-- `printout::rows_fit` meets its contract. The invariant: the rows before row i fit (`RowsFitSoFar`).
-- Assumes nothing.
use Rattle.printout.proofs.Rows.{RowsFitSoFar}
use Rattle.printout.proofs.rows_fit.Given as goal

abbrev pub invariant-loop-i : goal.invariant-loop-i
invariant-loop-i l = RowsFitSoFar l.kinds l.cells l.rows l.i
