-- `book::last_fault` meets its contract: each way out is a case of the definition. Assumes nothing.
use mathlib.Core.Path.{sym, ap, ap₂}
use mathlib.Core.Bool.{Bool}
use Rattle.book.specs.Reading.{last_number}
use Rattle.book.proofs.last_fault.Goals as goal

pub returns-then-both : goal.returns-then-both
unfolding last_number
returns-then-both c = ap (λ (b : Bool). last_number b c.args.cyclic) (sym c.if-both.true)

pub returns-then-cyclic : goal.returns-then-cyclic
unfolding last_number
returns-then-cyclic c = ap₂ last_number (sym c.if-both.false) (sym c.if-cyclic.true)

pub returns-else-cyclic : goal.returns-else-cyclic
unfolding last_number
returns-else-cyclic c = ap₂ last_number (sym c.if-both.false) (sym c.if-cyclic.false)
