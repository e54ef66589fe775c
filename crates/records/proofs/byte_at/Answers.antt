-- `records::byte_at` meets its contract: a field of one byte is the byte.
-- Assumes nothing.
use mathlib.Core.Path.{sym}
use Rattle.records.proofs.Fields.{field_one}
use Rattle.records.proofs.byte_at.Goals as goal

pub returns : goal.returns
returns c = sym (field_one _ _)
