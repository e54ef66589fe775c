-- `printout::mark` meets its contract, behind the last word and behind another.
-- Assumes nothing.
use borrow.Author.Rules.{rules}
use Rattle.printout.proofs.Rows.{mark_between, mark_last}
use Rattle.printout.proofs.mark.Goals as goal

pub returns-then-i-n : goal.returns-then-i-n
returns-then-i-n c = search (rules, mark_between)

pub returns-else-i-n : goal.returns-else-i-n
returns-else-i-n c = search (rules, mark_last)
