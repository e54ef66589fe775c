-- `program::print_all` meets its contract: what is printed fits, and a run that goes on has a good book (`Going`).
-- Assumes nothing.
use mathlib.Core.Path.{sym, ◌∙◌}
use native.Mathlib.Omega.{arith}
use lib.ListN.{replicate}
use lib.Seq.{length-take-le}
use Rattle.answer.proofs.Returning.{all_stored, number_is}
use Rattle.program.proofs.Going.{zeros_long, opening_inside, opened_good}
use Rattle.program.proofs.print_all.Goals as goal

pub slice_bounds-out-end : goal.slice_bounds-out-end
slice_bounds-out-end g c = omega (arith, c.opening-opened.auto.out, zeros_long 98327, opening_inside _ _ c.opening-opened.ensures.value (omega arith))

pub slice_bounds-write_all-end : goal.slice_bounds-write_all-end
slice_bounds-write_all-end g c = sym (length-take-le _ _ (omega (arith, c.opening-opened.auto.out, zeros_long 98327, opening_inside _ _ c.opening-opened.ensures.value (omega arith))))

pub answer_all-requires : goal.answer_all-requires
answer_all-requires g c = record {
  book_value = (
    c.read-book.ensures.value,
    all_stored c.args.bytes.now (replicate 2520 0) _ (zeros_long 2520) c.read-book.ensures.directory_after,
  );
  bytes_value = sym (number_is c.args.bytes.now c.read-book.ensures.value) ∙ sym c.number.ensures ∙ opened_good _ _ c.opening-opened.ensures.value c.if-opened.true;
}
