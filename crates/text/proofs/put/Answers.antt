-- `text::put` meets its contract. One word written (`written_word`).
-- Assumes nothing.
use Rattle.text.proofs.Writing.{written_word}
use borrow.Author.Rules.{rules}
use Rattle.text.proofs.put.Goals as goal

pub returns : goal.returns
returns c = record { value = search rules; out_after = search (rules, written_word) }
