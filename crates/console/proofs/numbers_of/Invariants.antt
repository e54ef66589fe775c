-- The numbers are within their room, whose length stays.
use Rattle.std.proofs.Common.{◌≡◌, ◌≤◌, length}
use Rattle.console.proofs.numbers_of.Given as goal

abbrev pub invariant-loop-digits : goal.invariant-loop-digits
invariant-loop-digits l = (l.n ≤ length l.out) × (length l.out ≡ length l.initial.out)
