-- `scheme::closure` meets its contract. The invariant: some number of passes leads from the set to the closure, and
-- `next` is one pass (`Repeating`). The measure: 2 ^ ATTRIBUTES less the set, which a pass makes larger. Assumes nothing.
use Prim.Native.Nat.{◌-◌, ◌^◌}
use Rattle.sets.specs.Sets.{ATTRIBUTES}
use Rattle.scheme.specs.Dependencies.{closure}
use Rattle.scheme.specs.OfScheme.{beside}
use Rattle.scheme.proofs.Closing.{passes_repeat, pass_grows}
use Rattle.scheme.proofs.Repeating.{Repeating}
use Rattle.scheme.proofs.closure.Given as goal

abbrev pub invariant-loop-next : goal.invariant-loop-next
invariant-loop-next l = Repeating (passes_repeat (beside l.dependencies.left.now l.dependencies.right.now)) ATTRIBUTES (pass_grows (beside l.dependencies.left.now l.dependencies.right.now)) (closure (beside l.dependencies.left.now l.dependencies.right.now) l.attributes) l.all l.next

abbrev pub decreases-loop-next : goal.decreases-loop-next
decreases-loop-next l = 2 ^ ATTRIBUTES - l.all
