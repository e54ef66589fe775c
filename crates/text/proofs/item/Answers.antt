-- `text::item` meets its contract. Its name ends where the run of capital letters does (`item_is`).
-- Assumes nothing.
use Rattle.text.proofs.Marks.{item_none, item_goes, item_is}
use borrow.Author.Rules.{rules}
use Rattle.text.proofs.item.Goals as goal

pub returns-then-end-from : goal.returns-then-end-from
returns-then-end-from c = search (rules, item_none)

pub returns-then-goes_on : goal.returns-then-goes_on
returns-then-goes_on c = search (rules, item_goes)

pub returns : goal.returns
returns c = search (rules, item_is)
