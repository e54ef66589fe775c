-- `query::none_contains` meets its contract. The invariant: no maximal object before the place contains x (`NoneSoFar`).
-- Assumes nothing.
use Rattle.scheme.proofs.Lists.{NoneSoFar}
use Rattle.query.proofs.Loops.{contains_asks}
use Rattle.query.proofs.none_contains.Given as goal

abbrev pub invariant-loop-objects : goal.invariant-loop-objects
invariant-loop-objects l = NoneSoFar (contains_asks l.sets l.x) l.maximal l.objects-index
