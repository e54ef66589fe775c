-- `book::some_nonzero` meets its contract. The invariant: the cells passed are zero (`ZeroSoFar`).
-- Assumes nothing.
use native.Mathlib.Omega.{arith}
use Rattle.book.proofs.Cells.{zero_start, zero_not_here, zero_next, zero_end}
use borrow.Author.Rules.{rules}
use Rattle.book.proofs.some_nonzero.Goals as goal

pub loop-i-init : goal.loop-i-init
loop-i-init c = zero_start _ _ (search rules)

pub returns-then-cells-i-ne0 : goal.returns-then-cells-i-ne0
returns-then-cells-i-ne0 c = zero_not_here c.loop-i.invariant (omega arith) c.if-cells-i-ne0.true

pub loop-i-preserved : goal.loop-i-preserved
loop-i-preserved c = zero_next c.loop-i.invariant (omega arith) c.if-cells-i-ne0.false

pub returns : goal.returns
returns c = zero_end c.loop-i.invariant (omega arith)
