-- `scheme::maximal_sets` meets its contract. The invariant: the array has the kept sets of the places before `i`
-- (`KeptSoFar`). Assumes nothing.
use Rattle.scheme.proofs.ListLoops.{KeptSoFar}
use Rattle.scheme.proofs.maximal_sets.Given as goal

abbrev pub invariant-loop-i : goal.invariant-loop-i
invariant-loop-i l = KeptSoFar l.grown l.i l.count l.out
