-- `records::short_fault` meets its contract: the test is that of the definition. Assumes nothing.
use Rattle.records.specs.Records.{allowed_to}
use Rattle.records.proofs.Checks.{tested}
use Rattle.records.proofs.Refused.{short_yes, short_no}
use Rattle.records.proofs.short_fault.Goals as goal

pub returns-then-is_of : goal.returns-then-is_of
returns-then-is_of c = short_yes (allowed_to c.args.owner) _ (tested c.is_of.ensures c.if-is_of.true)

pub returns-else-is_of : goal.returns-else-is_of
returns-else-is_of c = short_no (allowed_to c.args.owner) _ (tested c.is_of.ensures c.if-is_of.false)
