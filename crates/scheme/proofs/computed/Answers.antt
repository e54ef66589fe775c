-- `scheme::computed` meets its contract: the sides up to the count are the dependencies.
-- Assumes nothing.
use Rattle.scheme.proofs.OfScheme.{computed_of_fact}
use Rattle.scheme.proofs.computed.Goals as goal

pub returns : goal.returns
returns c = computed_of_fact c.before.args.s c.first-left.ensures c.first-right.ensures c.computed_sets.ensures
