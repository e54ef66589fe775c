-- `text::magnitude`: the value so far and the digits left give the whole, up to the bound (`Valuing`).
-- Assumes nothing.
use Rattle.text.proofs.Scanning.{Valuing}
use Rattle.text.proofs.magnitude.Given as goal

abbrev pub invariant-loop-b : goal.invariant-loop-b
invariant-loop-b l = Valuing l.b-items l.m l.b-index
