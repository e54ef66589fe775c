-- `book::some_outside` meets its contract. The invariant: no attribute passed has a cell outside its range
-- (`InsideSoFar`). Assumes nothing.
use Prim.Native.Nat.{◌<◌}
use Rattle.sets.specs.Sets.{ATTRIBUTES}
use mathlib.Core.Bool.{not}
use mathlib.Core.Path.{ap}
use native.Mathlib.Omega.{arith}
use Rattle.records.proofs.Checks.{tested}
use Rattle.book.proofs.Cells.{inside_start, place_in_row, outside_here, inside_with, inside_past}
use Rattle.book.proofs.Cells.{inside_end}
use Rattle.book.proofs.some_outside.Goals as goal
use Rattle.book.proofs.some_outside.Goals.{then-has+else-not-in_range, else-has}

pub loop-a-init : goal.loop-a-init
loop-a-init c = inside_start _ _ _

pub offset_bounds-cells-place : goal.offset_bounds-cells-place
offset_bounds-cells-place c = let is = tested c.has.ensures c.if-has.true in
    let few = c.requires in
    omega (arith, place_in_row _ _ few (omega arith) is c.rank-place.ensures)

pub bounds-cells-place : goal.bounds-cells-place
bounds-cells-place c = let is = tested c.has.ensures c.if-has.true in
    let few = c.requires in
    place_in_row _ _ few (omega arith) is c.rank-place.ensures

pub returns-then-not-in_range : goal.returns-then-not-in_range
returns-then-not-in_range c = let is = tested c.has.ensures c.if-has.true in
    outside_here c.loop-a.invariant (omega arith) is c.rank-place.ensures c.in_range.ensures (ap not c.if-not-in_range.true)

pub loop-a-preserved : goal.loop-a-preserved
loop-a-preserved c = let v = c.loop-a.invariant in
    let l : c.loop-a.a < ATTRIBUTES = omega arith in
    let is = c.has.ensures in
    elim c.if-has.branch [
      | then-has+else-not-in_range w ↦
          inside_with v l (tested is w.if-has.true) w.rank-place.ensures w.in_range.ensures (ap not w.if-not-in_range.false)
      | else-has w ↦ inside_past v l (tested is w.if-has.false)
    ]

pub returns : goal.returns
returns c = inside_end c.loop-a.invariant (omega arith)
