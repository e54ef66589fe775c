-- `<u32 as Mask>::lowest` meets its contract: it is the definition.
-- Assumes nothing.
use mathlib.Core.Path.{refl}
use Rattle.sets.specs.Sets.{lowest}
use Rattle.sets.proofs.U32Mask.lowest.Goals as goal

pub returns : goal.returns
unfolding lowest
returns c = refl
