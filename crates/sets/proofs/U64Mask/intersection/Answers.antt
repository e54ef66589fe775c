-- `<u64 as Mask>::intersection` meets its contract: it is the definition.
-- Assumes nothing.
use mathlib.Core.Path.{refl}
use Rattle.sets.specs.Sets.{◌∩◌}
use Rattle.sets.proofs.U64Mask.intersection.Goals as goal

pub returns : goal.returns
unfolding ◌∩◌
returns c = refl
