-- `query::walk` meets its contract. The invariant: the records passed are accepted, and the code has what they ask
-- (`Walking`). The measure: the bytes left. Assumes nothing.
use Prim.Native.Nat.{◌-◌}
use lib.ListN.{length}
use Rattle.query.proofs.Loops.{Walking}
use Rattle.query.proofs.walk.Given as goal

abbrev pub invariant-loop-r : goal.invariant-loop-r
invariant-loop-r l = Walking l.s l.bytes l.asked l.at

abbrev pub decreases-loop-r : goal.decreases-loop-r
decreases-loop-r l = length l.bytes - l.at
