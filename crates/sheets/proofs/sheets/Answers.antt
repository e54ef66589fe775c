-- `sheets::sheets` meets its contract.
-- Assumes nothing.
use Rattle.sheets.proofs.Rows.{sheets_counted_so}
use Rattle.sheets.proofs.sheets.Goals as goal

pub returns : goal.returns
returns c = sheets_counted_so _ c.div_ceil.ensures c.max.ensures
