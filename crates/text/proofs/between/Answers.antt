-- `text::between` meets its contract. A byte below the first is outside, and any other is tested against the last.
-- Assumes nothing.
use Rattle.text.proofs.Scanning.{between_below, between_there}
use borrow.Author.Rules.{rules}
use Rattle.text.proofs.between.Goals as goal

pub returns-then-first-b : goal.returns-then-first-b
returns-then-first-b c = search (rules, between_there)

pub returns-else-first-b : goal.returns-else-first-b
returns-else-first-b c = search (rules, between_below)
