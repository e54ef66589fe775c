-- `book::with_object` meets its contract: the two changed fields are those of the definition. Assumes nothing.
use Rattle.book.specs.Declaring.{with_object}
use Rattle.book.proofs.with_object.Goals as goal

pub returns : goal.returns
unfolding with_object
returns c = cc (c.insert.ensures, c.from.ensures)
