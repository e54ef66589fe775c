-- `query::unread` meets its contract: each arm is a case of the definition. Assumes nothing.
use mathlib.Core.Path.{ap, sym, ◌∙◌}
use Rattle.query.specs.Reading.{stop_number}
use Rattle.query.proofs.Loops.{unread_elsewhere}
use Rattle.query.proofs.unread.Goals as goal

pub returns-in-Nothing : goal.returns-in-Nothing
unfolding stop_number
returns-in-Nothing c = ap stop_number (sym c.in-Nothing.is)

pub returns-in_default : goal.returns-in_default
returns-in_default c = c.unread.ensures ∙ unread_elsewhere _ c.in_default.not-Nothing
