-- `numbers::flag` meets its contract, by cases of the test.
-- Assumes nothing.
use mathlib.Core.Path.{ap, sym}
use Rattle.numbers.specs.Numbers.{toℕ}
use Rattle.numbers.proofs.flag.Goals as goal

pub returns-then-b : goal.returns-then-b
unfolding toℕ
returns-then-b c = ap toℕ (sym c.if-b.true)

pub returns-else-b : goal.returns-else-b
unfolding toℕ
returns-else-b c = ap toℕ (sym c.if-b.false)
