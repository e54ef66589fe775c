-- `<u64 as Mask>::is_empty` meets its contract: it is the definition.
-- Assumes nothing.
use mathlib.Core.Path.{refl}
use Rattle.sets.specs.Sets.{is_empty}
use Rattle.sets.proofs.U64Mask.is_empty.Goals as goal

pub returns : goal.returns
unfolding is_empty
returns c = refl
