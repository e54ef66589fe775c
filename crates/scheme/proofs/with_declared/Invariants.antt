-- `scheme::with_declared` meets its contract. The invariant: the array has the list with the declared sets before that
-- of `m` added (`AddingSoFar`). Assumes nothing.
use lib.ListN.{take}
use Rattle.scheme.proofs.ListLoops.{AddingSoFar}
use Rattle.scheme.proofs.with_declared.Given as goal

abbrev pub invariant-loop-m : goal.invariant-loop-m
invariant-loop-m l = AddingSoFar (take l.initial.count l.initial.out) l.declared l.m-index l.count l.out
