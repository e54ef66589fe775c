-- `book::with_declared` meets its contract: the two changed fields are those of the definition. Assumes nothing.
use mathlib.Core.Path.{refl}
use Rattle.book.specs.Declaring.{with_maximal, with_declared}
use Rattle.book.proofs.with_declared.Goals as goal

pub returns : goal.returns
unfolding with_maximal with_declared
returns c = refl
