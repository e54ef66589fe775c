-- `<u64 as Mask>::within` meets its contract: it is the definition.
-- Assumes nothing.
use mathlib.Core.Path.{refl}
use Rattle.sets.specs.Sets.{within}
use Rattle.sets.proofs.U64Mask.within.Goals as goal

pub returns : goal.returns
unfolding within
returns c = refl
