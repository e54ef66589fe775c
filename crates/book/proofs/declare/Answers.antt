-- `book::declare` meets its contract: a record of a book adds its own, one of a query nothing. Assumes nothing.
use mathlib.Core.Path.{ap, sym, ◌∙◌}
use Rattle.book.specs.Faults.{fault_of}
use Rattle.book.specs.Declaring.{declare}
use Rattle.book.proofs.declare.Goals as goal

pub declare_record-requires : goal.declare_record-requires
declare_record-requires c = ap (fault_of c.args.s) (sym c.in-OfBook.is) ∙ c.requires

pub returns-in-OfBook : goal.returns-in-OfBook
returns-in-OfBook c = c.declare_record.ensures ∙ ap (declare c.args.s) (sym c.in-OfBook.is)

pub returns-in-OfQuery : goal.returns-in-OfQuery
unfolding declare
returns-in-OfQuery c = ap (declare c.args.s) (sym c.in-OfQuery.is)
