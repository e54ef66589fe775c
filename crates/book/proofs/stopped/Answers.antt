-- `book::stopped` meets its contract: field for field it is the definition. Assumes nothing.
use mathlib.Core.Path.{refl, ap}
use Rattle.std.specs.Prelude.{Option, []}
use Rattle.refusals.specs.declared.Refusal.{Refusal}
use Rattle.reduction.specs.Packed.{padded}
use Rattle.records.proofs.Refused.{its_refusal}
use Rattle.scheme.specs.OfScheme.{MAXIMALS}
use Rattle.book.specs.declared.Book.{Book}
use Rattle.book.specs.Reading.{book_with}
use Rattle.book.proofs.stopped.Goals as goal

pub returns : goal.returns
unfolding book_with padded
returns c = let a = c.args in
    ap {B = Book}
    (λ (k : Option Refusal). record { refusal = k; rows = a.rows; scheme = a.scheme; maximal = padded MAXIMALS []; maximals = 0 })
    (its_refusal a.refusal refl)
