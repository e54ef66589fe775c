-- `scheme::attributes_of` meets its contract. The invariant: what is gathered is the attributes of the objects below
-- `k` (`AttributesSoFar`). Assumes nothing.
use native.Mathlib.Omega.{arith}
use mathlib.Core.Path.{sym, ◌∙◌}
use Rattle.scheme.proofs.Loops.{attributes_start, attributes_with, attributes_past}
use Rattle.scheme.proofs.Loops.{attributes_end}
use Rattle.scheme.proofs.attributes_of.Goals as goal
use Rattle.scheme.proofs.attributes_of.Goals.{then-has, else-has}

pub loop-k-init : goal.loop-k-init
loop-k-init c = attributes_start _ _

pub loop-k-preserved : goal.loop-k-preserved
loop-k-preserved c = elim c.if-has.branch [
  | then-has w ↦ attributes_with c.loop-k.invariant (omega arith) c.if-has.all
      (sym c.has.ensures ∙ w.if-has.true) (w.all-is ∙ w.union-all.ensures)
  | else-has w ↦ attributes_past c.loop-k.invariant (omega arith) c.if-has.all
      (sym c.has.ensures ∙ w.if-has.false) w.all-is
]

pub returns : goal.returns
returns c = attributes_end c.loop-k.invariant (omega arith)
