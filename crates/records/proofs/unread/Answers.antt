-- `records::unread` meets its contract: each arm is a case of the definition. Assumes nothing.
use mathlib.Core.Path.{ap, sym, ◌∙◌}
use Rattle.records.specs.Walking.{unread_number}
use Rattle.records.proofs.Refused.{unread_at_end}
use Rattle.records.proofs.unread.Goals as goal

pub returns-in-Unknown : goal.returns-in-Unknown
unfolding unread_number
returns-in-Unknown c = ap (unread_number c.args.owner) (sym c.in-Unknown.is)

pub returns-in-Short : goal.returns-in-Short
unfolding unread_number
returns-in-Short c = c.short_fault.ensures ∙ ap (unread_number c.args.owner) (sym c.in-Short.is)

pub returns-in_default : goal.returns-in_default
returns-in_default c = unread_at_end c.args.owner _ c.in_default.not-Unknown c.in_default.not-Short
