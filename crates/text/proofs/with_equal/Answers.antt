-- `text::with_equal` meets its contract. The byte behind decides.
-- Assumes nothing.
use Rattle.text.proofs.Marks.{equal_behind, no_equal_behind}
use borrow.Author.Rules.{rules}
use Rattle.text.proofs.with_equal.Goals as goal

pub returns-then-byte_at-eq61 : goal.returns-then-byte_at-eq61
returns-then-byte_at-eq61 c = search (rules, equal_behind)

pub returns : goal.returns
returns c = search (rules, no_equal_behind)
