-- `query::with_two` meets its contract: the comparison and both names are added. Assumes nothing.
use Rattle.query.specs.Asking.{with_record}
use Rattle.query.proofs.with_two.Goals as goal

pub returns : goal.returns
unfolding with_record
returns c = cc (c.with_name-2.ensures, c.with_name.ensures, c.with_comparison.ensures)
