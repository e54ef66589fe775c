-- `query::some_unconnected` meets its contract. The invariant: no variable before the place is unconnected (`NoneUnconnected`).
-- Assumes nothing.
use Rattle.query.proofs.Loops.{NoneUnconnected}
use Rattle.query.proofs.some_unconnected.Given as goal

abbrev pub invariant-loop-x : goal.invariant-loop-x
invariant-loop-x l = NoneUnconnected l.sets l.maximal l.fn.attributes l.x-index
