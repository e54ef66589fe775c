-- `sheets::put_rows` meets its contract. The invariant: the lines before that of row i are written (`Writing`).
-- Assumes nothing.
use Rattle.sheets.proofs.Putting.{lines_left}
use Rattle.printout.proofs.Writing.{Writing}
use Rattle.sheets.proofs.put_rows.Given as goal

abbrev pub invariant-loop-i : goal.invariant-loop-i
invariant-loop-i l = Writing l.at (lines_left l.kinds l.cells l.rows 0) l.initial.out l.end
    (lines_left l.kinds l.cells l.rows l.i) l.out
