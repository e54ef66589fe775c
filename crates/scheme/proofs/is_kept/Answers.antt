-- `scheme::is_kept` meets its contract: each way out is one case of the definition.
-- Assumes nothing.
use mathlib.Core.Path.{refl, sym, ◌∙◌}
use lib.ListN.{length}
use Rattle.reduction.specs.Steps.{at}
use Rattle.reduction.proofs.Loops.{keeps_empty, keeps_unless}
use Rattle.scheme.proofs.is_kept.Goals as goal

pub returns-then-is_empty : goal.returns-then-is_empty
returns-then-is_empty c = keeps_empty c.args.list.now (length c.args.list.now) c.args.i (at c.args.list.now c.args.i) refl refl (sym c.is_empty.ensures ∙ c.if-is_empty.true)

pub returns : goal.returns
returns c = keeps_unless c.args.list.now (length c.args.list.now) c.args.i (at c.args.list.now c.args.i) refl refl c.goes_for_another.result (sym c.is_empty.ensures ∙ c.if-is_empty.false) c.goes_for_another.ensures
