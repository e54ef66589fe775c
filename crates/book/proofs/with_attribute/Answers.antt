-- `book::with_attribute` meets its contract: the two changed fields are those of the definition. Assumes nothing.
use Rattle.book.specs.Declaring.{with_attribute}
use Rattle.book.proofs.with_attribute.Goals as goal

pub returns : goal.returns
unfolding with_attribute
returns c = cc (c.insert.ensures, c.from.ensures)
