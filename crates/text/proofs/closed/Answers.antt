-- `text::closed` meets its contract. The closing parenthesis stands behind the condition, or it does not.
-- Assumes nothing.
use Rattle.text.proofs.Parsers.{closed_missing, closed_there}
use mathlib.Core.Path.{◌∙◌}
use Rattle.text.proofs.closed.Goals as goal

pub returns-in_err-next : goal.returns-in_err-next
returns-in_err-next c = c.from_residual.ensures ∙ closed_missing _ _ c.in_err-next.ensures

pub returns : goal.returns
returns c = closed_there _ _ _ c.in_ok-next.ensures
