-- `text::constant` meets its contract. Its digits end where the run does (`constant_is`).
-- Assumes nothing.
use Rattle.text.proofs.Marks.{constant_none, constant_goes, constant_is}
use borrow.Author.Rules.{rules}
use Rattle.text.proofs.constant.Goals as goal

pub returns-then-end-from : goal.returns-then-end-from
returns-then-end-from c = search (rules, constant_none)

pub returns-then-goes_on : goal.returns-then-goes_on
returns-then-goes_on c = search (rules, constant_goes)

pub returns : goal.returns
returns c = search (rules, constant_is)
