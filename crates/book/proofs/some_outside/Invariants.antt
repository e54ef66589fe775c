-- `book::some_outside` meets its contract. The invariant: no attribute passed has a cell outside its range
-- (`InsideSoFar`). Assumes nothing.
use Rattle.book.proofs.Cells.{InsideSoFar}
use Rattle.book.proofs.some_outside.Given as goal

abbrev pub invariant-loop-a : goal.invariant-loop-a
invariant-loop-a l = InsideSoFar l.kinds l.set l.cells l.a
