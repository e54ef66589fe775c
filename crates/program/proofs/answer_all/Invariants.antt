-- `program::answer_all` meets its contract. The invariant: `Going`. The measure: the bytes of the input that are left.
-- Assumes nothing.
use Prim.Native.Nat.{◌-◌}
use lib.ListN.{length}
use Rattle.program.proofs.Going.{Going}
use Rattle.program.proofs.answer_all.Given as goal

abbrev pub invariant-loop-at : goal.invariant-loop-at
invariant-loop-at g l = Going l.input l.space l.extents l.layout l.pools l.spare l.out l.at l.serial

abbrev pub decreases-loop-at : goal.decreases-loop-at
decreases-loop-at g l = length l.input - l.at
