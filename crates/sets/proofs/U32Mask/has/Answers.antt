-- `<u32 as Mask>::has` meets its contract: it is the definition.
-- Assumes nothing.
use mathlib.Core.Path.{refl}
use Rattle.sets.specs.Sets.{bit, has}
use Rattle.sets.proofs.U32Mask.has.Goals as goal

pub returns : goal.returns
unfolding bit has
returns c = refl
