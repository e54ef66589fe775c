use mathlib.Core.Path.{◌∙◌}
use mathlib.Core.Path.{sym, ap}
use mathlib.Core.Bool.{Bool, ◌&&◌}
use lib.Dec.{ltb}
use Rattle.scheme.specs.MaximalObjects.{both_kinds}
use Rattle.scheme.proofs.both_kinds.Goals as goal

pub returns-then-only : goal.returns-then-only
unfolding both_kinds
returns-then-only c = sym (ap (λ (b : Bool). b && ltb 0 c.args.removals) c.if-only.true)

pub returns-else-only : goal.returns-else-only
unfolding both_kinds
returns-else-only c = c.if-only.false ∙ sym (ap (λ (b : Bool). b && ltb 0 c.args.removals) c.if-only.false)
