-- `text::less` meets its contract. `<>` first, then `<=` and `<`.
-- Assumes nothing.
use Rattle.text.proofs.Marks.{fixed_two, fixed_less}
use borrow.Author.Rules.{rules}
use Rattle.text.proofs.less.Goals as goal

pub returns-then-byte_at-eq62 : goal.returns-then-byte_at-eq62
returns-then-byte_at-eq62 c = search (rules, fixed_two)

pub returns : goal.returns
returns c = search (rules, fixed_less)
