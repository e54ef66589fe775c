-- `query::with_record` meets its contract: a record of a query adds its own, one of a book nothing. Assumes nothing.
use mathlib.Core.Path.{ap, sym, ◌∙◌}
use Rattle.query.specs.Asking.{with_record}
use Rattle.query.specs.Faults.{fault_of}
use Rattle.query.proofs.with_record.Goals as goal

pub with_query_record-requires : goal.with_query_record-requires
with_query_record-requires c = let a = c.args in
    ap (fault_of a.s a.q) (sym c.in-OfQuery.is)
    ∙ c.requires

pub returns-in-OfBook : goal.returns-in-OfBook
unfolding with_record
returns-in-OfBook c = ap (with_record c.args.q) (sym c.in-OfBook.is)

pub returns-in-OfQuery : goal.returns-in-OfQuery
returns-in-OfQuery c = c.with_query_record.ensures ∙ ap (with_record c.args.q) (sym c.in-OfQuery.is)
