-- `scheme::is_cyclic` meets its contract: the family is the whole list of its sets, and the test is the reduction's.
-- Assumes nothing.
use mathlib.Core.Path.{ap, ◌∙◌}
use mathlib.Core.Bool.{not}
use Rattle.reduction.specs.Kept.{acyclic}
use Rattle.scheme.proofs.Packing.{listing_take}
use Rattle.scheme.proofs.Loops.{family_listing}
use Rattle.scheme.proofs.is_cyclic.Goals as goal

pub returns : goal.returns
returns c = ap not (c.is_acyclic.ensures ∙ ap acyclic (c.first.ensures ∙ listing_take (family_listing c.before.args.sets.now c.before.args.m c.family_of-family.ensures)))
