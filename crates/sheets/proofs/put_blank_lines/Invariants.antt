-- `sheets::put_blank_lines` meets its contract. The invariant: the lines before the next are written (`Writing`).
-- Assumes nothing.
use Prim.Native.Nat.{◌-◌}
use Rattle.sheets.proofs.Putting.{blank_text}
use Rattle.printout.proofs.Writing.{Writing}
use Rattle.sheets.proofs.put_blank_lines.Given as goal

abbrev pub invariant-loop : goal.invariant-loop
invariant-loop l = Writing l.at (blank_text l.n) l.initial.out l.end (blank_text (l.n - l.counter)) l.out
