-- `query::nothing_asked` meets its contract: field for field it is the definition. Assumes nothing.
use mathlib.Core.Path.{refl}
use Rattle.query.specs.Asking.{nothing_asked}
use Rattle.query.proofs.nothing_asked.Goals as goal

pub returns : goal.returns
unfolding nothing_asked
returns c = refl
