-- `text::is_end` meets its contract. The token there is the end, or it is not.
-- Assumes nothing.
use mathlib.Core.Path.{sym, ap, ◌∙◌}
use Rattle.text.specs.Programs.{is_at_end}
use Rattle.text.proofs.Whole.{not_at_end}
use Rattle.text.proofs.is_end.Goals as goal

pub returns-in-AtEnd : goal.returns-in-AtEnd
unfolding is_at_end
returns-in-AtEnd c = sym (ap is_at_end (sym c.token_at-t.ensures ∙ c.in-AtEnd.is))

pub returns-in_default : goal.returns-in_default
returns-in_default c = not_at_end _ c.in_default.not-AtEnd ∙ ap is_at_end c.token_at-t.ensures
