-- `query::with_constant` meets its contract: the comparison and its name are added. Assumes nothing.
use Rattle.query.specs.Asking.{with_record}
use Rattle.query.proofs.with_constant.Goals as goal

pub returns : goal.returns
unfolding with_record
returns c = cc (c.with_name.ensures, c.with_comparison.ensures)
