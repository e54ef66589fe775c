-- `text::goes_on` meets its contract. The letters and digits of ASCII (`goes_same`).
-- Assumes nothing.
use Rattle.text.proofs.Scanning.{goes_same}
use mathlib.Core.Path.{ap, ◌∙◌}
use Rattle.grammar.specs.Pieces.{is_letter_or_digit}
use Rattle.text.proofs.goes_on.Goals as goal

pub returns : goal.returns
returns c = c.is_ascii_alphanumeric.ensures.value ∙ goes_same _ ∙ ap is_letter_or_digit c.byte_at.ensures
