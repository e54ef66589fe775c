-- `host::vingarbu_answer` meets its contract: there is no room for the results, or the answer is given.
-- Assumes nothing.
use mathlib.Core.Path.{refl, ◌∙◌}
use native.Mathlib.Omega.{arith}
use Rattle.host.proofs.Given.{answer_short, answer_done}
use Rattle.host.proofs.vingarbu_answer.Goals as goal

pub returns-then-results-lt4 : goal.returns-then-results-lt4
returns-then-results-lt4 c = let r = answer_short _ _ _ _ _ c.if-results-lt4.true in
    record { value = r.0; space_after = r.1.0; results_after = r.1.1 }

pub returns : goal.returns
returns c = let r = answer_done _ _ _ _ _ (omega (
  arith,
  c.if-results-lt4.false,
)) (c.answer_bytes-a.ensures.value, c.answer_bytes-a.ensures.space_after) (c.from.ensures ∙ c.number.ensures) refl c.from-2.ensures refl in record { value = r.0; space_after = r.1.0; results_after = r.1.1 }
