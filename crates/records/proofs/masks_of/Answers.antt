-- `records::masks_of` meets its contract: the four bytes of each word, the lowest first.
-- Assumes nothing.
use native.Mathlib.Omega.{arith}
use Rattle.records.proofs.Records.{masks_are}
use Rattle.records.proofs.masks_of.Goals as goal

pub returns : goal.returns
returns c = let a = c.args in
    masks_are a.names a.lengths a.angles a.dates c.to_le_bytes.ensures c.to_le_bytes-2.ensures c.to_le_bytes-3.ensures c.to_le_bytes-4.ensures
    (omega arith) (omega arith) (omega arith) (omega arith) (omega arith) (omega arith) (omega arith) (omega arith)
    (omega arith) (omega arith) (omega arith) (omega arith) (omega arith) (omega arith) (omega arith) (omega arith)
