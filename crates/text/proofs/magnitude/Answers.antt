-- `text::magnitude` meets its contract. The value so far and the digits left give the whole, up to the bound (`Valuing`).
-- Assumes nothing.
use Rattle.text.proofs.Scanning.{valuing_start, valuing_next, valuing_ends}
use native.Mathlib.Omega.{arith}
use borrow.Author.Rules.{rules}
use Rattle.text.proofs.magnitude.Goals as goal

pub loop-b-init : goal.loop-b-init
loop-b-init c = valuing_start _

pub loop-b-preserved : goal.loop-b-preserved
loop-b-preserved c =
    valuing_next _ _ _ c.loop-b.invariant (omega arith) c.above.result _ (search rules) (search rules)

pub returns : goal.returns
returns c = valuing_ends _ _ _ c.loop-b.invariant (omega arith)
