-- `printout::put_row` meets its contract. The invariant: the line is written before cell i (`Writing`).
-- Assumes nothing.
use lib.ListN.{drop}
use Rattle.printout.proofs.Writing.{Writing}
use Rattle.printout.specs.Lines.{row_line}
use Rattle.printout.proofs.put_row.Given as goal

abbrev pub invariant-loop-i : goal.invariant-loop-i
invariant-loop-i l = Writing l.at (row_line l.kinds l.row) l.initial.out l.end (row_line (drop l.i l.kinds) (drop l.i l.row)) l.out
