-- `book::with_only` meets its contract: the changed field is that of the definition. Assumes nothing.
use mathlib.Core.Path.{refl}
use Rattle.book.specs.Declaring.{with_maximal, with_only}
use Rattle.book.proofs.with_only.Goals as goal

pub returns : goal.returns
unfolding with_maximal with_only
returns c = refl
