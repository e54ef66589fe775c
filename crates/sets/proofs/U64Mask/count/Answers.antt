-- `<u64 as Mask>::count` meets its contract: the library's count of ones is the rank of the width.
-- Assumes nothing.
use Rattle.sets.specs.Sets.{OBJECTS}
use Rattle.sets.proofs.Ranks.{ones_count}
use Rattle.sets.proofs.U64Mask.count.Goals as goal

pub returns : goal.returns
returns c = ones_count OBJECTS c.ranges.self.fits
