-- `scheme::without_removed` meets its contract. The invariant: the array has what is left of the places before that of
-- `m` (`RemovingSoFar`). Assumes nothing.
use mathlib.Core.Path.{refl}
use native.Mathlib.Omega.{arith}
use Rattle.reduction.specs.Packed.{padded}
use Rattle.scheme.proofs.ListLoops.{removing_start, removing_room, removing_kept, removing_gone}
use Rattle.scheme.proofs.ListLoops.{removing_end}
use Rattle.scheme.proofs.without_removed.Goals as goal

pub loop-m-init : goal.loop-m-init
unfolding padded
loop-m-init c = removing_start _ _ refl

pub offset_bounds-out-count : goal.offset_bounds-out-count
offset_bounds-out-count c = omega (arith, removing_room c.requires c.loop-m.invariant (omega arith))

pub bounds-out-count : goal.bounds-out-count
bounds-out-count c = omega (arith, removing_room c.requires c.loop-m.invariant (omega arith))

pub overflow_add-count : goal.overflow_add-count
overflow_add-count c = omega (arith, removing_room c.requires c.loop-m.invariant (omega arith))

pub loop-m-preserved : goal.loop-m-preserved
loop-m-preserved c = grind (arith, removing_kept, removing_gone)

pub returns : goal.returns
returns c = removing_end c.loop-m.invariant (omega arith)
