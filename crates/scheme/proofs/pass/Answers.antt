-- `scheme::pass` meets its contract. The invariant: the sides from `i` on, from what is gathered, give what all of them
-- give (`PassSoFar`). Assumes nothing.
use mathlib.Core.Path.{refl, sym, ◌∙◌}
use native.Mathlib.Omega.{arith}
use Rattle.scheme.proofs.Loops.{pass_start, pass_with, pass_past, pass_end}
use Rattle.scheme.proofs.pass.Goals as goal
use Rattle.scheme.proofs.pass.Goals.{then-within, else-within}

pub loop-i-init : goal.loop-i-init
loop-i-init c = pass_start _ _ _

pub loop-i-preserved : goal.loop-i-preserved
loop-i-preserved c = elim c.if-within.branch [
  | then-within w ↦ pass_with c.loop-i.invariant (omega arith) (omega arith) _ _ _ _ refl refl refl
      (sym c.within.ensures ∙ w.if-within.true) (w.all-is ∙ w.union-all.ensures)
  | else-within w ↦ pass_past c.loop-i.invariant (omega arith) (omega arith) _ _ _ _ refl refl refl
      (sym c.within.ensures ∙ w.if-within.false) w.all-is
]

pub returns : goal.returns
returns c = pass_end c.loop-i.invariant (omega arith)
