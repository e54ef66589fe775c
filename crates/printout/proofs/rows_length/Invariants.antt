-- `printout::rows_length` meets its contract. The invariant: `n` counts the bytes of the rows before row i
-- (`RowsCounted`).
-- Assumes nothing.
use Rattle.printout.proofs.Rows.{RowsCounted}
use Rattle.printout.proofs.rows_length.Given as goal

abbrev pub invariant-loop-i : goal.invariant-loop-i
invariant-loop-i l = RowsCounted l.kinds l.cells l.rows l.i l.n
