-- `query::with_name` meets its contract: the changed set is that of the definition. Assumes nothing.
use Rattle.query.specs.Asking.{with_name}
use Rattle.query.proofs.with_name.Goals as goal

pub returns : goal.returns
unfolding with_name
returns c = cc (c.insert.ensures, c.from.ensures)
