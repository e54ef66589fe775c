-- `scheme::counting` meets its contract, by cases.
-- Assumes nothing.
use mathlib.Core.Path.{sym, ap}
use mathlib.Core.Bool.{Bool}
use Rattle.scheme.specs.OfScheme.{counting_of}
use Rattle.scheme.proofs.counting.Goals as goal

pub returns-then-only : goal.returns-then-only
unfolding counting_of
returns-then-only c = sym (ap (λ (b : Bool). counting_of b c.args.count) c.if-only.true)

pub returns-else-only : goal.returns-else-only
unfolding counting_of
returns-else-only c = sym (ap (λ (b : Bool). counting_of b c.args.count) c.if-only.false)
