-- `text::after` meets its contract. The token there is the word, or it is not.
-- Assumes nothing.
use mathlib.Core.Path.{sym, ap, ◌∙◌}
use denote.Enum.Bare.{same_true, same_false}
use Rattle.text.specs.contracts.Word.{the_type}
use Rattle.text.specs.Programs.{after_token}
use Rattle.text.proofs.Writing.{after_yes, after_no, after_other}
use Rattle.text.proofs.after.Goals as goal

pub returns-then-eq : goal.returns-then-eq
returns-then-eq c =
    after_yes _ _ _ _ c.in-WordAt.ensures (same_true the_type tt _ _ (sym c.eq.ensures ∙ c.if-eq.true))

pub returns-else-eq : goal.returns-else-eq
returns-else-eq c =
    after_no _ _ _ _ c.in-WordAt.ensures (same_false the_type _ _ (sym c.eq.ensures ∙ c.if-eq.false))

pub returns-in_default : goal.returns-in_default
returns-in_default c = after_other _ _ c.in_default.not-WordAt ∙ ap (after_token _) c.token_at.ensures
