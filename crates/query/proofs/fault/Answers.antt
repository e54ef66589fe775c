-- `query::fault` meets its contract: a record of a query has its own fault, one of a book the fault 2. Assumes nothing.
use mathlib.Core.Path.{ap, sym, ◌∙◌}
use Rattle.records.specs.Checks.{first_of}
use Rattle.query.specs.Faults.{checks, fault_of}
use Rattle.query.proofs.fault.Goals as goal

pub returns-in-OfBook : goal.returns-in-OfBook
unfolding fault_of checks first_of
returns-in-OfBook c = let a = c.args in
    ap (fault_of a.s a.q) (sym c.in-OfBook.is)

pub returns-in-OfQuery : goal.returns-in-OfQuery
returns-in-OfQuery c = let a = c.args in
    c.query_fault.ensures ∙ ap (fault_of a.s a.q) (sym c.in-OfQuery.is)
