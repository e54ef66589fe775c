-- `records::word_at` meets its contract: four bytes, the lowest first, are the field (`field_four`).
-- Assumes nothing.
use Rattle.records.proofs.Fields.{field_four}
use Rattle.records.proofs.word_at.Goals as goal

pub returns : goal.returns
returns c = field_four c.args.s.now c.args.at c.from_le_bytes.ensures
