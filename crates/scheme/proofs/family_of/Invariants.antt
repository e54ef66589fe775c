-- `scheme::family_of` meets its contract. The invariant: the array and the count are the sets of the objects below `k`
-- (`MembersSoFar`). Assumes nothing.
use lib.ListN.{get_or}
use Rattle.sets.specs.Sets.{OBJECTS}
use Rattle.scheme.proofs.Loops.{MembersSoFar}
use Rattle.scheme.proofs.family_of.Given as goal

abbrev pub invariant-loop-k : goal.invariant-loop-k
invariant-loop-k l = MembersSoFar OBJECTS (λ j. get_or l.sets j 0) l.objects l.k l.count l.out
