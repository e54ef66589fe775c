-- `host::vingarbu_sheet` meets its contract: there is no room for the result, or the sheet's number is the result.
-- Assumes nothing.
use mathlib.Core.Path.{ap, ◌∙◌}
use native.Mathlib.Omega.{arith}
use Rattle.refusals.specs.Refusals.{number_of_any}
use Rattle.host.proofs.Given.{sheet_short, sheet_done, check_number}
use Rattle.host.proofs.vingarbu_sheet.Goals as goal

pub returns-then-results-lt1 : goal.returns-then-results-lt1
returns-then-results-lt1 c = let r = sheet_short _ _ _ _ c.if-results-lt1.true in
    record { value = r.0; out_after = r.1.0; results_after = r.1.1 }

pub returns : goal.returns
returns c = let r = sheet_done _ _ _ _ (omega (arith, c.if-results-lt1.false))
    c.sheet.ensures.value c.sheet.ensures.out_after
    (c.from.ensures ∙ c.number.ensures ∙ ap number_of_any c.err-refusal.ensures.value ∙ check_number c.sheet.result) in record { value = r.0; out_after = r.1.0; results_after = r.1.1 }
