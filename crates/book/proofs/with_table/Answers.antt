-- `book::with_table` meets its contract: the two changed fields are those of the definition. Assumes nothing.
use Rattle.book.specs.Declaring.{with_table, with_masks}
use Rattle.book.proofs.with_table.Goals as goal

pub returns : goal.returns
unfolding with_table with_masks
returns c = rw c.masks_of-masks.ensures
