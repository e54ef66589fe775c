-- `printout::put_byte` meets its contract. One byte set is one byte written (`written_byte`).
-- Assumes nothing.
use borrow.Author.Rules.{rules}
use Rattle.printout.proofs.Writing.{written_byte}
use Rattle.printout.proofs.put_byte.Goals as goal

pub returns-clause-out_after : goal.returns-clause-out_after
returns-clause-out_after c = search (rules, written_byte)
