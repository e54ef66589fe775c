-- `scheme::grown_sets` meets its contract. The invariant: the array and the count are the sets grown from the objects
-- below `k` (`MembersSoFar`). Assumes nothing.
use mathlib.Core.Path.{refl, sym, ◌∙◌}
use native.Mathlib.Omega.{arith}
use Rattle.reduction.specs.Packed.{padded}
use Rattle.scheme.proofs.Loops.{members_start, members_room, members_with, members_past}
use Rattle.scheme.proofs.Loops.{members_end}
use Rattle.scheme.proofs.Packing.{listing_listed}
use Rattle.scheme.proofs.grown_sets.Goals as goal
use Rattle.scheme.proofs.grown_sets.Goals.{then-has, else-has}

pub loop-k-init : goal.loop-k-init
unfolding padded
loop-k-init c = members_start _ _ _ _ (omega arith) refl

pub offset_bounds-out-count : goal.offset_bounds-out-count
offset_bounds-out-count c = omega (arith, members_room c.loop-k.invariant (omega arith))

pub bounds-out-count : goal.bounds-out-count
bounds-out-count c = omega (arith, members_room c.loop-k.invariant (omega arith))

pub overflow_add-count : goal.overflow_add-count
overflow_add-count c = omega (arith, members_room c.loop-k.invariant (omega arith))

pub loop-k-preserved : goal.loop-k-preserved
loop-k-preserved c = elim c.if-has.branch [
  | then-has w ↦ members_with c.loop-k.invariant (omega arith) w.grow.result
      (sym c.has.ensures ∙ w.if-has.true) w.grow.ensures w.out-is w.count-is
  | else-has w ↦ members_past c.loop-k.invariant (omega arith)
      (sym c.has.ensures ∙ w.if-has.false) w.out-is w.count-is
]

pub returns : goal.returns
returns c = listing_listed (members_end c.loop-k.invariant (omega arith))
