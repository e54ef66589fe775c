-- `book::nothing_declared` meets its contract: field for field it is the definition. Assumes nothing.
use Rattle.book.specs.Declaring.{nothing_declared}
use Rattle.book.proofs.nothing_declared.Goals as goal

pub returns : goal.returns
unfolding nothing_declared
returns c = rw c.built_in-masks.ensures
