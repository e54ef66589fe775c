-- `scheme::grow` meets its contract. The invariant: some number of rounds leads from the set to the grown one, and
-- `next` is one round (`Repeating`); who is not in it did not join by the attributes `before` (`NotJoined`). The
-- measure: 2 ^ OBJECTS less the set, which a round makes larger.
-- Assumes nothing.
use Prim.Native.Nat.{◌-◌, ◌^◌}
use Rattle.sets.specs.Sets.{OBJECTS}
use Rattle.scheme.specs.Growing.{grown}
use Rattle.scheme.specs.OfScheme.{beside, NotJoined}
use Rattle.scheme.proofs.Growing.{rounds_repeat, round_grows}
use Rattle.scheme.proofs.Repeating.{Repeating}
use Rattle.scheme.proofs.grow.Given as goal

abbrev pub invariant-loop-next : goal.invariant-loop-next
invariant-loop-next l = Repeating (rounds_repeat (beside l.dependencies.left.now l.dependencies.right.now) l.objects.sets.now l.objects.declared) OBJECTS (round_grows (beside l.dependencies.left.now l.dependencies.right.now) l.objects.sets.now l.objects.declared)
    (grown (beside l.dependencies.left.now l.dependencies.right.now) l.objects.sets.now l.objects.declared l.start) l.held l.next
    × NotJoined (beside l.dependencies.left.now l.dependencies.right.now) l.objects.sets.now l.objects.declared l.next l.before

abbrev pub decreases-loop-next : goal.decreases-loop-next
decreases-loop-next l = 2 ^ OBJECTS - l.held
