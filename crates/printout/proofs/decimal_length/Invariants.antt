-- `printout::decimal_length` meets its contract. The invariant: `n` counts the digits that `left` has lost, and one
-- more (`DigitsCounted`). The measure: `left`.
-- Assumes nothing.
use Rattle.printout.proofs.Writing.{DigitsCounted}
use Rattle.printout.proofs.decimal_length.Given as goal

abbrev pub invariant-loop-left : goal.invariant-loop-left
invariant-loop-left l = DigitsCounted l.x l.left l.n

abbrev pub decreases-loop-left : goal.decreases-loop-left
decreases-loop-left l = l.left
