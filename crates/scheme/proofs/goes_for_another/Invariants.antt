-- `scheme::goes_for_another` meets its contract. The invariant: set `i` goes for no set before `j` (`NotGoneSoFar`).
-- Assumes nothing.
use lib.ListN.{length}
use Rattle.reduction.proofs.Loops.{NotGoneSoFar}
use Rattle.scheme.proofs.goes_for_another.Given as goal

abbrev pub invariant-loop-j : goal.invariant-loop-j
invariant-loop-j l = NotGoneSoFar l.list (length l.list) l.i l.j
