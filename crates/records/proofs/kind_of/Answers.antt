-- `records::kind_of` meets its contract: each owner's records have their own. Assumes nothing.
use mathlib.Core.Path.{ap, sym, ◌∙◌}
use Rattle.records.specs.Records.{kind_of}
use Rattle.records.proofs.kind_of.Goals as goal

pub returns-in-OfBook : goal.returns-in-OfBook
returns-in-OfBook c = c.kind_of_book.ensures ∙ ap kind_of (sym c.in-OfBook.is)

pub returns-in-OfQuery : goal.returns-in-OfQuery
returns-in-OfQuery c = c.kind_of_query.ensures ∙ ap kind_of (sym c.in-OfQuery.is)
