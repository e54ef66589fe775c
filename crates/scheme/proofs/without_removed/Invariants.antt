-- `scheme::without_removed` meets its contract. The invariant: the array has what is left of the places before that of
-- `m` (`RemovingSoFar`). Assumes nothing.
use Rattle.scheme.proofs.ListLoops.{RemovingSoFar}
use Rattle.scheme.proofs.without_removed.Given as goal

abbrev pub invariant-loop-m : goal.invariant-loop-m
invariant-loop-m l = RemovingSoFar l.list l.removed l.m-index l.count l.out
