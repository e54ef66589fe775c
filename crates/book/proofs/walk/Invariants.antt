-- `book::walk` meets its contract. The invariant: the records passed are accepted, their rows counted and stored
-- (`Walking`). The measure: the bytes left. Assumes nothing.
use Prim.Native.Nat.{◌-◌}
use lib.ListN.{length}
use Rattle.book.proofs.Walking.{Walking}
use Rattle.book.proofs.walk.Given as goal

abbrev pub invariant-loop-r : goal.invariant-loop-r
invariant-loop-r l = Walking l.bytes l.initial.directory l.directory l.scheme l.rows l.at

abbrev pub decreases-loop-r : goal.decreases-loop-r
decreases-loop-r l = length l.bytes - l.at
