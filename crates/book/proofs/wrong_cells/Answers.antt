-- `book::wrong_cells` meets its contract: it is the definition, by its two callees. Assumes nothing.
use Rattle.book.proofs.Cells.{cells_wrong, cells_left}
use Rattle.book.proofs.wrong_cells.Goals as goal

pub returns-then-some_nonzero : goal.returns-then-some_nonzero
returns-then-some_nonzero c = cells_wrong _ _ _ c.count.ensures c.some_nonzero.ensures c.if-some_nonzero.true

pub returns : goal.returns
returns c = cells_left _ _ _ c.count.ensures c.some_nonzero.ensures c.if-some_nonzero.false c.some_outside.ensures
