-- `program::answer_all` meets its contract. The invariant: `Going`. The measure: the bytes of the input that are left.
-- Assumes nothing.
use borrow.Author.Tests.{not-false}
use mathlib.Core.Path.{sym}
use lib.Seq.{length-take-le}
use Prim.Native.Nat.{◌-◌}
use native.Mathlib.Omega.{arith}
use lib.ListN.{length}
use Rattle.choices.proofs.Starting.{memory_whole}
use Rattle.program.proofs.Going.{going_at_first, printed_inside, read_inside, read_some, next_serial}
use borrow.Author.Rules.{rules}
use Rattle.program.proofs.answer_all.Goals as goal

pub loop-at-init : goal.loop-at-init
loop-at-init g c = going_at_first c.args.input.now

pub step-step-requires : goal.step-step-requires
step-step-requires g c = record {
  book_value = c.requires.book_value;
  memory_ready = memory_whole c.loop-at.invariant.levels c.loop-at.invariant.columns c.loop-at.invariant.rows
      (omega (arith, c.loop-at.invariant.sorting));
  bytes_value = (c.requires.bytes_value, c.loop-at.invariant.cells, omega (arith, c.loop-at.invariant.text));
}

pub slice_bounds-out-end : goal.slice_bounds-out-end
slice_bounds-out-end g c = omega (
  arith,
  c.type_inv.out,
  printed_inside c.args.bytes.now c.args.input.now (length c.args.input.now - c.loop-at.at) c.loop-at.at c.loop-at.serial c.loop-at.invariant.serials c.step-step.ensures.value,
)

pub slice_bounds-write_all-end : goal.slice_bounds-write_all-end
slice_bounds-write_all-end g c = sym (length-take-le _ _ (omega (
  arith,
  c.step-step.auto.out,
  c.loop-at.invariant.text,
  printed_inside c.args.bytes.now c.args.input.now (length c.args.input.now - c.loop-at.at) c.loop-at.at c.loop-at.serial c.loop-at.invariant.serials c.step-step.ensures.value,
)))

pub overflow_add-at : goal.overflow_add-at
overflow_add-at g c = omega (
  arith,
  c.well_formed,
  read_inside c.args.bytes.now c.args.input.now (length c.args.input.now - c.loop-at.at) c.loop-at.at c.loop-at.serial c.loop-at.invariant.serials c.step-step.ensures.value c.loop-at.invariant.inside,
)

pub loop-at-smaller : goal.loop-at-smaller
loop-at-smaller g c = omega (
  arith,
  read_inside c.args.bytes.now c.args.input.now (length c.args.input.now
      - c.loop-at.at) c.loop-at.at c.loop-at.serial c.loop-at.invariant.serials c.step-step.ensures.value c.loop-at.invariant.inside,
  read_some
      c.args.bytes.now c.args.input.now (length c.args.input.now - c.loop-at.at) c.loop-at.at
      c.loop-at.serial c.loop-at.invariant.serials c.step-step.ensures.value (not-false c.step-step.result.more c.if-not-step.false),
)

pub loop-at-preserved : goal.loop-at-preserved
loop-at-preserved g c = record {
  inside = read_inside c.args.bytes.now c.args.input.now (length c.args.input.now - c.loop-at.at) c.loop-at.at c.loop-at.serial c.loop-at.invariant.serials c.step-step.ensures.value c.loop-at.invariant.inside;
  cells =
      search rules;
  levels = search rules;
  columns = search rules;
  rows = search rules;
  sorting = search rules;
  text =
      search rules;
  serials = next_serial c.args.bytes.now c.args.input.now (length c.args.input.now - c.loop-at.at) c.loop-at.at c.loop-at.serial c.loop-at.invariant.serials c.step-step.ensures.value;
}
