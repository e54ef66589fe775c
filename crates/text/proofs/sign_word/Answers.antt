-- `text::sign_word` meets its contract. As it is defined.
-- Assumes nothing.
use mathlib.Core.Path.{sym, ap}
use Rattle.text.specs.Programs.{sign_word}
use Rattle.text.proofs.sign_word.Goals as goal

pub returns-then-minus : goal.returns-then-minus
unfolding sign_word
returns-then-minus c = sym (ap sign_word c.if-minus.true)

pub returns-else-minus : goal.returns-else-minus
unfolding sign_word
returns-else-minus c = sym (ap sign_word c.if-minus.false)
