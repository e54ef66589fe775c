-- `sets::within_each` meets its contract. The invariant: the attributes below k are asked (`EachSoFar`).
-- Assumes nothing.
use mathlib.Core.Path.{sym, ◌∙◌}
use Rattle.sets.proofs.Bits.{in_out}
use Rattle.sets.proofs.Sets.{yes_has, no_has}
use native.Mathlib.Omega.{arith}
use Rattle.sets.proofs.Plain.{each_start, each_next, each_failed, each_end}
use Rattle.sets.proofs.within_each.Goals as goal
use Rattle.sets.proofs.within_each.Goals.{then-has+else-not-has, else-has}

pub loop-k-init : goal.loop-k-init
loop-k-init c = each_start _ _

pub returns-then-not-has : goal.returns-then-not-has
returns-then-not-has c = sym (each_failed c.loop-k.invariant (omega arith)
    (yes_has _ _ (sym c.has.ensures ∙ c.if-has.true))
    (λ i. in_out i (no_has _ _ (sym c.has-then-has.ensures ∙ c.if-not-has.true))))

pub loop-k-preserved : goal.loop-k-preserved
loop-k-preserved c = each_next c.loop-k.invariant (omega arith) (elim c.if-has.branch [
  | then-has+else-not-has w ↦ λ i. yes_has _ _ (sym w.has-then-has.ensures ∙ w.if-not-has.false)
  | else-has w ↦ λ i. absurd (in_out i (no_has _ _ (sym c.has.ensures ∙ w.if-has.false)))
])

pub returns : goal.returns
returns c = sym (each_end c.loop-k.invariant (omega arith))
