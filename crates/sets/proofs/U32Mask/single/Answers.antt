-- `<u32 as Mask>::single` meets its contract: 2 ^ k with k below ATTRIBUTES is not cut off.
-- Assumes nothing.
use Rattle.sets.specs.Sets.{ATTRIBUTES}
use Rattle.sets.proofs.Sets.{single_shifted}
use Rattle.sets.proofs.U32Mask.single.Goals as goal

pub returns : goal.returns
returns c = single_shifted ATTRIBUTES c.requires
