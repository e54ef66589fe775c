-- `scheme::closure` meets its contract. The invariant: some number of passes leads from the set to the closure, and
-- `next` is one pass (`Repeating`). The measure: 2 ^ ATTRIBUTES less the set, which a pass makes larger. Assumes nothing.
use mathlib.Core.Path.{refl}
use Rattle.scheme.specs.Dependencies.{closure}
use Rattle.scheme.proofs.Repeating.{repeating_start, repeating_next, repeating_less, repeating_end}
use Rattle.scheme.proofs.closure.Goals as goal

pub loop-next-init : goal.loop-next-init
unfolding closure
loop-next-init c = repeating_start _ _ _ c.ranges.attributes.fits c.pass-next.type_inv c.pass-next.ensures refl

pub loop-next-smaller : goal.loop-next-smaller
loop-next-smaller c = repeating_less _ _ _ c.loop-next.invariant c.loop-next-test.true

pub loop-next-preserved : goal.loop-next-preserved
loop-next-preserved c = repeating_next _ _ _ c.loop-next.invariant _ c.loop-next-test.true c.pass-next-in-loop-next.type_inv c.pass-next-in-loop-next.ensures

pub returns : goal.returns
returns c = repeating_end _ _ _ c.loop-next.invariant c.loop-next-test.false
