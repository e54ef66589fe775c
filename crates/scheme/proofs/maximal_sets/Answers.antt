-- `scheme::maximal_sets` meets its contract. The invariant: the array has the kept sets of the places before `i`
-- (`KeptSoFar`). Assumes nothing.
use mathlib.Core.Path.{refl}
use native.Mathlib.Omega.{arith}
use Rattle.reduction.specs.Packed.{padded}
use Rattle.scheme.proofs.ListLoops.{kept_start, kept_room, kept_turn, kept_end}
use Rattle.scheme.proofs.maximal_sets.Goals as goal

pub loop-i-init : goal.loop-i-init
unfolding padded
loop-i-init c = kept_start _ refl

pub offset_bounds-out-count : goal.offset_bounds-out-count
offset_bounds-out-count c = omega (arith, kept_room c.requires c.loop-i.invariant (omega arith))

pub bounds-out-count : goal.bounds-out-count
bounds-out-count c = omega (arith, kept_room c.requires c.loop-i.invariant (omega arith))

pub overflow_add-count : goal.overflow_add-count
overflow_add-count c = omega (arith, kept_room c.requires c.loop-i.invariant (omega arith))

pub loop-i-preserved : goal.loop-i-preserved
loop-i-preserved c = kept_turn c.requires c.loop-i.invariant (omega arith)
    (λ y. (grind arith, grind arith))
    (λ n. (grind arith, grind arith))

pub returns : goal.returns
returns c = kept_end c.loop-i.invariant (omega arith)
