-- `book::fault` meets its contract: a record of a book has its own fault, one of a query the fault 2. Assumes nothing.
use mathlib.Core.Path.{ap, sym, ◌∙◌}
use Rattle.records.specs.Checks.{first_of}
use Rattle.book.specs.Faults.{checks, fault_of}
use Rattle.book.proofs.fault.Goals as goal

pub returns-in-OfBook : goal.returns-in-OfBook
returns-in-OfBook c = c.book_fault.ensures ∙ ap (fault_of c.args.s) (sym c.in-OfBook.is)

pub returns-in-OfQuery : goal.returns-in-OfQuery
unfolding fault_of checks first_of
returns-in-OfQuery c = ap (fault_of c.args.s) (sym c.in-OfQuery.is)
