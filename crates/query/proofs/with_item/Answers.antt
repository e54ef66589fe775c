-- `query::with_item` meets its contract: the changed fields are those of the definition. Assumes nothing.
use mathlib.Core.Path.{refl}
use Rattle.query.specs.Asking.{with_item}
use Rattle.query.proofs.with_item.Goals as goal

pub returns : goal.returns
unfolding with_item
returns c = refl
