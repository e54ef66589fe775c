-- `scheme::with_declared` meets its contract. The invariant: the array has the list with the declared sets before that
-- of `m` added (`AddingSoFar`). Assumes nothing.
use mathlib.Core.Path.{sym, ◌∙◌}
use native.Mathlib.Omega.{arith}
use Rattle.scheme.proofs.Packing.{listing_inside, listing_part}
use Rattle.scheme.proofs.ListLoops.{adding_start, adding_room, adding_one, adding_none, adding_end}
use Rattle.scheme.proofs.with_declared.Goals as goal
use Rattle.scheme.proofs.with_declared.Goals.{then-not-is_one, else-not-is_one}

pub loop-m-init : goal.loop-m-init
loop-m-init c = adding_start c.args.list _ c.requires

pub slice_bounds-out-end : goal.slice_bounds-out-end
slice_bounds-out-end c = listing_inside c.loop-m.invariant.listing

pub slice_bounds-is_one-end : goal.slice_bounds-is_one-end
slice_bounds-is_one-end c = listing_part c.loop-m.invariant.listing

pub offset_bounds-out-count : goal.offset_bounds-out-count
offset_bounds-out-count c = omega (arith, adding_room c.loop-m.invariant (omega arith))

pub bounds-out-count : goal.bounds-out-count
bounds-out-count c = omega (arith, adding_room c.loop-m.invariant (omega arith))

pub overflow_add-count : goal.overflow_add-count
overflow_add-count c = omega (arith, adding_room c.loop-m.invariant (omega arith))

pub loop-m-preserved : goal.loop-m-preserved
loop-m-preserved c = elim c.if-not-is_one.branch [
  | then-not-is_one w ↦ adding_one c.loop-m.invariant (omega arith)
      (sym c.is_one.ensures ∙ w.if-not-is_one.true) w.out-is w.count-is
  | else-not-is_one w ↦ adding_none c.loop-m.invariant (omega arith)
      (sym c.is_one.ensures ∙ w.if-not-is_one.false) w.out-is w.count-is
]

pub returns : goal.returns
returns c = adding_end c.loop-m.invariant (omega arith)
