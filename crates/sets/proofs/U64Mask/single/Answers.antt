-- `<u64 as Mask>::single` meets its contract: 2 ^ k with k below OBJECTS is not cut off.
-- Assumes nothing.
use Rattle.sets.specs.Sets.{OBJECTS}
use Rattle.sets.proofs.Sets.{single_shifted}
use Rattle.sets.proofs.U64Mask.single.Goals as goal

pub returns : goal.returns
returns c = single_shifted OBJECTS c.requires
