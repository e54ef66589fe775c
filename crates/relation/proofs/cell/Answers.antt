-- `relation::cell` meets its contract: the cell of an attribute stands at its rank among the six.
-- Assumes nothing.
use native.Mathlib.Omega.{arith}
use Rattle.sets.specs.Sets.{ATTRIBUTES}
use Rattle.sets.proofs.Bits.{member_lt}
use Rattle.relation.proofs.BookRows.{cell_read, cell_within}
use Rattle.relation.proofs.cell.Goals as goal

pub rank-place-requires : goal.rank-place-requires
rank-place-requires c = member_lt ATTRIBUTES c.ranges.s.fits c.requires.1

pub overflow_add-at : goal.overflow_add-at
overflow_add-at c = omega (arith, c.requires.0.whole, c.ranges)

pub word_at-requires : goal.word_at-requires
word_at-requires c = cell_within c.rank-place.result c.requires.0 c.ranges.s.fits c.requires.1 c.rank-place.ensures

pub returns : goal.returns
returns c = cell_read c.rank-place.result c.word_at.result c.requires.0 c.ranges.s.fits c.requires.1 c.rank-place.ensures c.word_at.ensures
