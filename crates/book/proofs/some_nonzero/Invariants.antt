-- `book::some_nonzero` meets its contract. The invariant: the cells passed are zero (`ZeroSoFar`).
-- Assumes nothing.
use Rattle.book.proofs.Cells.{ZeroSoFar}
use Rattle.book.proofs.some_nonzero.Given as goal

abbrev pub invariant-loop-i : goal.invariant-loop-i
invariant-loop-i l = ZeroSoFar l.cells l.from l.i
