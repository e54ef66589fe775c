-- `records::long_at` meets its contract: eight bytes, the lowest first, are the field (`field_eight`).
-- Assumes nothing.
use Rattle.records.proofs.Fields.{field_eight}
use Rattle.records.proofs.long_at.Goals as goal

pub returns : goal.returns
returns c = field_eight c.args.s.now c.args.at c.from_le_bytes.ensures
