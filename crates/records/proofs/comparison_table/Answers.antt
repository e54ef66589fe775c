-- `records::comparison_table` meets its contract: its fields are those of kind 13 (`comparison_table_at`).
-- Assumes nothing.
use borrow.Author.Rules.{rules}
use Rattle.records.proofs.Records.{comparison_table_at}
use Rattle.records.proofs.comparison_table.Goals as goal

pub returns : goal.returns
returns c = search (rules, comparison_table_at)
