-- `host::print_words` meets its contract: a refusal's number has its words (`words_are`), no other has any.
-- Assumes nothing.
use mathlib.Core.Path.{sym, ◌∙◌}
use Rattle.host.proofs.Words.{words_are, words_none}
use Rattle.host.proofs.print_words.Goals as goal

pub returns-in-Some : goal.returns-in-Some
returns-in-Some c = let r = words_are _ _ (sym c.from_number.ensures ∙ c.in-Some.is) c.words_for.ensures
    (c.print_text.ensures.value, c.print_text.ensures.out_after) in
    record { value = r.0; out_after = r.1 }

pub returns-in-None : goal.returns-in-None
returns-in-None c = let r = words_none _ _ (sym c.from_number.ensures ∙ c.in-None.is) in
    record { value = r.0; out_after = r.1 }
