-- `text::name_number`: the number so far and the letters left give the whole (`Naming`).
-- Assumes nothing.
use Rattle.text.proofs.Scanning.{Naming}
use Rattle.text.proofs.name_number.Given as goal

abbrev pub invariant-loop-b : goal.invariant-loop-b
invariant-loop-b l = Naming l.b-items l.m l.b-index
