-- The bytes written are no more than there are, and are what the writer took.
use Rattle.std.proofs.Common.{◌≤◌, length, take}
use Rattle.std.specs.Io.KnownBytes.{Appends}
use Rattle.program.proofs.write_all.Given as goal

abbrev pub invariant-loop : goal.invariant-loop
invariant-loop g l = (l.n ≤ length l.buf)
    × Appends (g.W.Write.contents l.initial.writer) (g.W.Write.contents l.writer) (take l.n l.buf)
