-- `printout::put_row` meets its contract. The invariant: the line is written before cell i (`Writing`).
-- Assumes nothing.
use Rattle.printout.proofs.Rows.{cell_room, mark_room, mark_written, row_end}
use Rattle.printout.proofs.Writing.{writing_start, writing_length}
use Rattle.printout.proofs.put_row.Goals as goal

pub loop-i-init : goal.loop-i-init
loop-i-init c = writing_start c.args.at _ _ c.requires.row_in_bounds

pub put_cell-end-requires : goal.put_cell-end-requires
put_cell-end-requires c = cell_room c.args.kinds.now c.args.row.now _ c.loop-i-test.true c.requires.kinds_in_bounds
    c.args.at c.args.out.now c.loop-i.invariant

pub put_byte-end-requires : goal.put_byte-end-requires
put_byte-end-requires c = mark_room c.args.kinds.now c.args.row.now _ c.loop-i-test.true c.requires.kinds_in_bounds
    c.args.at c.args.out.now c.loop-i.invariant c.put_cell-end.ensures.value
    c.put_cell-end.ensures.out_after

pub loop-i-preserved : goal.loop-i-preserved
loop-i-preserved c = mark_written c.args.kinds.now c.args.row.now _ c.loop-i-test.true
    c.requires.kinds_in_bounds c.args.at c.args.out.now c.loop-i.invariant
    c.put_cell-end.ensures.value c.put_cell-end.ensures.out_after c.mark.ensures
    c.put_byte-end.ensures.value c.put_byte-end.ensures.out_after

pub shape_of-out : goal.shape_of-out
shape_of-out c = writing_length c.args.at _ c.args.out.now c.loop-i.invariant

pub returns : goal.returns
returns c = let r = row_end c.args.kinds.now c.args.row.now _ c.args.at c.args.out.now
    c.loop-i.invariant c.loop-i-test.false in record { value = r.0; out_after = r.1 }
