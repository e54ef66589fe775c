-- `printout::decimal_length` meets its contract. The invariant: `n` counts the digits that `left` has lost, and one
-- more (`DigitsCounted`). The measure: `left`.
-- Assumes nothing.
use native.Mathlib.Omega.{arith}
use borrow.Author.Rules.{rules}
use Rattle.printout.proofs.Writing.{digits_start, digits_next, digits_end, digits_few}
use Rattle.printout.proofs.decimal_length.Goals as goal

pub loop-left-init : goal.loop-left-init
loop-left-init c = digits_start _

pub loop-left-preserved : goal.loop-left-preserved
loop-left-preserved c = search (rules, digits_next)

pub returns : goal.returns
returns c = record {
  value = digits_end c.loop-left.invariant (omega arith);
  inside = digits_few c.loop-left.invariant (omega arith) (omega arith);
}
