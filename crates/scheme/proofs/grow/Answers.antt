-- `scheme::grow` meets its contract. The invariant: some number of rounds leads from the set to the grown one, and
-- `next` is one round (`Repeating`); who is not in it did not join by the attributes `before` (`NotJoined`). The
-- measure: 2 ^ OBJECTS less the set, which a round makes larger.
-- Assumes nothing.
use Prim.Native.Nat.{◌^◌}
use mathlib.Core.Path.{ap}
use Rattle.sets.specs.Sets.{OBJECTS}
use Rattle.scheme.specs.Growing.{rounds, grown}
use Rattle.scheme.specs.OfScheme.{beside}
use Rattle.scheme.proofs.Growing.{not_joined}
use Rattle.scheme.proofs.Repeating.{repeating_start, repeating_next, repeating_less, repeating_end}
use Rattle.scheme.proofs.grow.Goals as goal

pub loop-next-init : goal.loop-next-init
unfolding grown
loop-next-init c = let a = c.args in
    let D = beside a.dependencies.left.now a.dependencies.right.now in (
      repeating_start _ _ _ c.single-held.type_inv c.round-next.type_inv c.round-next.ensures
          (ap (rounds D a.objects.sets.now a.objects.declared (2 ^ OBJECTS)) c.single-held.ensures),
      not_joined D a.objects.sets.now a.objects.declared _ c.round-next.ensures c.attributes_of-before.ensures,
    )

pub round-next-requires-in-loop-next : goal.round-next-requires-in-loop-next
round-next-requires-in-loop-next c = c.loop-next.invariant.1

pub loop-next-smaller : goal.loop-next-smaller
loop-next-smaller c = repeating_less _ _ _ c.loop-next.invariant.0 c.loop-next-test.true

pub loop-next-preserved : goal.loop-next-preserved
loop-next-preserved c = let a = c.args in (
  repeating_next _ _ _ c.loop-next.invariant.0 _ c.loop-next-test.true
      c.round-next-in-loop-next.type_inv c.round-next-in-loop-next.ensures,
  not_joined (beside a.dependencies.left.now a.dependencies.right.now) a.objects.sets.now a.objects.declared _ c.round-next-in-loop-next.ensures
      c.attributes_of-before-in-loop-next.ensures,
)

pub returns : goal.returns
returns c = repeating_end _ _ _ c.loop-next.invariant.0 c.loop-next-test.false
