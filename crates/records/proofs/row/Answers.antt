-- `records::row` meets its contract: its fields are those of kind 4 (`row_at`).
-- Assumes nothing.
use borrow.Author.Rules.{rules}
use Rattle.records.proofs.Records.{row_at}
use Rattle.records.proofs.row.Goals as goal

pub returns : goal.returns
returns c = search (rules, row_at)
