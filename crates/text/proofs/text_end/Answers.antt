-- `text::text_end` meets its contract. What was read, or nothing.
-- Assumes nothing.
use mathlib.Core.Path.{sym, ◌∙◌}
use Rattle.text.proofs.Whole.{text_if_yes, text_if_no}
use Rattle.text.proofs.text_end.Goals as goal

pub returns-then-is_end : goal.returns-then-is_end
returns-then-is_end c = text_if_yes _ _ (sym c.is_end.ensures ∙ c.if-is_end.true)

pub returns-else-is_end : goal.returns-else-is_end
returns-else-is_end c = text_if_no _ _ (sym c.is_end.ensures ∙ c.if-is_end.false)
