-- `sets::within_each` meets its contract. The invariant: the attributes below k are asked (`EachSoFar`).
-- Assumes nothing.
use Rattle.sets.proofs.Plain.{EachSoFar}
use Rattle.sets.proofs.within_each.Given as goal

abbrev pub invariant-loop-k : goal.invariant-loop-k
invariant-loop-k l = EachSoFar l.s l.t l.k
