-- `book::with_dependency` meets its contract: the three changed fields are those of the definition. Assumes nothing.
use mathlib.Core.Path.{refl}
use Rattle.book.specs.Declaring.{with_dependency}
use Rattle.book.proofs.with_dependency.Goals as goal

pub returns : goal.returns
unfolding with_dependency
returns c = refl
