-- `book::with_removed` meets its contract: the two changed fields are those of the definition. Assumes nothing.
use mathlib.Core.Path.{refl}
use Rattle.book.specs.Declaring.{with_maximal, with_removed}
use Rattle.book.proofs.with_removed.Goals as goal

pub returns : goal.returns
unfolding with_maximal with_removed
returns c = refl
