-- `scheme::round` meets its contract. The invariant: what is gathered is the objects below `k` that are held or join
-- (`HoldingBelow`). Assumes nothing.
use native.Mathlib.Omega.{arith}
use mathlib.Core.Path.{sym, ◌∙◌}
use Rattle.sets.proofs.Sets.{yes_has, no_has}
use Rattle.scheme.proofs.Loops.{holding_start, holding_held, holding_joined, holding_apart}
use Rattle.scheme.proofs.Loops.{holding_other, holding_end}
use Rattle.scheme.proofs.Growing.{asked_apart}
use Rattle.scheme.proofs.round.Goals as goal
use Rattle.scheme.proofs.round.Goals.{then-has, else-has+then-has-2+then-is_determined, else-has+then-has-2+else-is_determined, else-has+else-has-2}

pub loop-k-init : goal.loop-k-init
loop-k-init c = holding_start _ _ _ _

pub is_determined-requires : goal.is_determined-requires
is_determined-requires c =
    asked_apart _ _ c.args.asked c.requires (omega arith)
    (yes_has _ _ (sym c.has-else-has.ensures ∙ c.if-has-2.true))
    (no_has _ _ (sym c.has.ensures ∙ c.if-has.false))

pub loop-k-preserved : goal.loop-k-preserved
loop-k-preserved c = elim c.if-has.branch [
  | then-has w ↦ holding_held c.loop-k.invariant (omega arith) c.if-has.next
      (sym c.has.ensures ∙ w.if-has.true) (w.next-is ∙ w.insert-next.ensures)
  | else-has+then-has-2+then-is_determined w ↦ holding_joined c.loop-k.invariant (omega arith)
      c.attributes_of-attributes.result c.attributes_of-attributes.ensures w.is_determined.result
      w.is_determined.ensures (sym w.has-else-has.ensures ∙ w.if-has-2.true)
      c.if-has.next w.if-is_determined.true (w.next-is ∙ w.insert-next-then-is_determined.ensures)
  | else-has+then-has-2+else-is_determined w ↦ holding_apart c.loop-k.invariant (omega arith)
      c.attributes_of-attributes.result c.attributes_of-attributes.ensures w.is_determined.result
      w.is_determined.ensures (sym w.has-else-has.ensures ∙ w.if-has-2.true)
      c.if-has.next (sym c.has.ensures ∙ w.if-has.false) w.if-is_determined.false w.next-is
  | else-has+else-has-2 w ↦ holding_other c.loop-k.invariant (omega arith) c.if-has.next
      (sym c.has.ensures ∙ w.if-has.false)
      (sym w.has-else-has.ensures ∙ w.if-has-2.false) w.next-is
]

pub returns : goal.returns
returns c = holding_end c.loop-k.invariant (omega arith)
