-- `text::letter_word` meets its contract. As it is defined.
-- Assumes nothing.
use mathlib.Core.Path.{sym, ap, ◌∙◌}
use Rattle.text.specs.Tokens.{letter_word}
use Rattle.text.proofs.letter_word.Goals as goal

pub returns-in-Some : goal.returns-in-Some
unfolding letter_word
returns-in-Some c = c.from.ensures ∙ sym (ap letter_word c.in-Some.is)

pub returns-in-None : goal.returns-in-None
unfolding letter_word
returns-in-None c = sym (ap letter_word c.in-None.is)
