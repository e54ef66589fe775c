-- `scheme::grown_sets` meets its contract. The invariant: the array and the count are the sets grown from the objects
-- below `k` (`MembersSoFar`). Assumes nothing.
use Rattle.scheme.specs.Growing.{grown}
use Rattle.scheme.specs.OfScheme.{beside, MAXIMALS}
use Rattle.scheme.proofs.Loops.{MembersSoFar}
use Rattle.scheme.proofs.grown_sets.Given as goal

abbrev pub invariant-loop-k : goal.invariant-loop-k
invariant-loop-k l = MembersSoFar MAXIMALS (grown (beside l.dependencies.left.now l.dependencies.right.now) l.objects.sets.now l.objects.declared) l.objects.declared l.k l.count l.out
