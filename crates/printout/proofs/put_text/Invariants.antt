-- `printout::put_text` meets its contract. The invariant: the bytes before this one are written (`Writing`). Assumes nothing.
use lib.ListN.{drop}
use Rattle.printout.proofs.Writing.{Writing}
use Rattle.printout.proofs.put_text.Given as goal

abbrev pub invariant-loop-byte : goal.invariant-loop-byte
invariant-loop-byte l = Writing l.at l.text l.initial.out l.end (drop l.byte-index l.text) l.out
