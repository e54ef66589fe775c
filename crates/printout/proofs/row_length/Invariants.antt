-- `printout::row_length` meets its contract. The invariant: `n` counts the bytes before the next cell (`RowCounted`).
-- Assumes nothing.
use lib.ListN.{length}
use Rattle.printout.proofs.Rows.{RowCounted}
use Rattle.printout.proofs.row_length.Given as goal

abbrev pub invariant-loop-kind : goal.invariant-loop-kind
invariant-loop-kind l = RowCounted l.kinds l.row l.n (length l.yielded)
