-- `query::with_comparison` meets its contract: the changed fields are those of the definition. Assumes nothing.
use mathlib.Core.Path.{refl}
use Rattle.query.specs.Asking.{with_comparison}
use Rattle.query.proofs.with_comparison.Goals as goal

pub returns : goal.returns
unfolding with_comparison
returns c = refl
