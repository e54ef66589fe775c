-- `text::spelled_word` meets its contract. The word stands there, and no letter or digit behind it (`word_is`).
-- Assumes nothing.
use Rattle.text.proofs.Tokens.{word_not, word_goes, word_is}
use borrow.Author.Rules.{rules}
use Rattle.text.proofs.spelled_word.Goals as goal

pub returns-then-not-stands : goal.returns-then-not-stands
returns-then-not-stands c = search (rules, word_not)

pub returns-then-goes_on : goal.returns-then-goes_on
returns-then-goes_on c = search (rules, word_goes)

pub returns : goal.returns
returns c = search (rules, word_is)
