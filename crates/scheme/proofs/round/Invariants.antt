-- `scheme::round` meets its contract. The invariant: what is gathered is the objects below `k` that are held or join
-- (`HoldingBelow`). Assumes nothing.
use Rattle.scheme.specs.OfScheme.{beside}
use Rattle.scheme.proofs.Loops.{HoldingBelow}
use Rattle.scheme.proofs.round.Given as goal

abbrev pub invariant-loop-k : goal.invariant-loop-k
invariant-loop-k l = HoldingBelow (beside l.dependencies.left.now l.dependencies.right.now) l.objects.sets.now l.objects.declared l.held l.k l.next
