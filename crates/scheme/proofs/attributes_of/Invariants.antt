-- `scheme::attributes_of` meets its contract. The invariant: what is gathered is the attributes of the objects below
-- `k` (`AttributesSoFar`). Assumes nothing.
use Rattle.scheme.proofs.Loops.{AttributesSoFar}
use Rattle.scheme.proofs.attributes_of.Given as goal

abbrev pub invariant-loop-k : goal.invariant-loop-k
invariant-loop-k l = AttributesSoFar l.sets l.objects l.k l.all
