-- `text::right_words` meets its contract. As it is defined.
-- Assumes nothing.
use mathlib.Core.Path.{sym, ap, ◌∙◌}
use mathlib.Core.List.{[], ◌∷◌}
use Prim.Native.Nat.{ℕ}
use Rattle.text.specs.Programs.{right_words}
use Rattle.text.proofs.right_words.Goals as goal

pub returns-in-Item : goal.returns-in-Item
unfolding right_words
returns-in-Item c =
    ap (λ (n : ℕ). n ∷ c.in-Item.name ∷ []) c.letter_word.ensures ∙ sym (ap right_words c.in-Item.is)

pub returns-in-Constant : goal.returns-in-Constant
unfolding right_words
returns-in-Constant c =
    ap (λ (n : ℕ). n ∷ c.in-Constant.magnitude ∷ []) c.sign_word.ensures ∙ sym (ap right_words c.in-Constant.is)
