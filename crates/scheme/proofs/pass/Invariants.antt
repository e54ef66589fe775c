-- `scheme::pass` meets its contract. The invariant: the sides from `i` on, from what is gathered, give what all of them
-- give (`PassSoFar`). Assumes nothing.
use Rattle.scheme.proofs.Loops.{PassSoFar}
use Rattle.scheme.proofs.pass.Given as goal

abbrev pub invariant-loop-i : goal.invariant-loop-i
invariant-loop-i l = PassSoFar l.dependencies.left.now l.dependencies.right.now l.attributes l.i l.all
