-- `book::finished` meets its contract: it is the definition, by its two callees. Assumes nothing.
use Rattle.book.proofs.Books.{finished_book}
use Rattle.book.proofs.finished.Goals as goal

pub maximal_objects-m-requires : goal.maximal_objects-m-requires
maximal_objects-m-requires c = tt

pub last_fault-requires : goal.last_fault-requires
last_fault-requires c = tt

pub returns : goal.returns
returns c = finished_book _ _ _ c.maximal_objects-m.ensures c.last_fault.ensures
