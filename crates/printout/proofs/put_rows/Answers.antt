-- `printout::put_rows` meets its contract. The invariant: the lines before that of row i are written (`Writing`).
-- Assumes nothing.
use Rattle.printout.proofs.Rows.{row_room, row_written, rows_written}
use Rattle.printout.proofs.Writing.{writing_start}
use Rattle.printout.proofs.put_rows.Goals as goal

pub loop-i-init : goal.loop-i-init
loop-i-init c = writing_start c.args.at _ _ c.requires.cells_in_bounds

pub put_row-end-requires-clause-row_in_bounds : goal.put_row-end-requires-clause-row_in_bounds
put_row-end-requires-clause-row_in_bounds c = row_room c.args.kinds.now c.args.cells.now c.args.rows c.loop-i.i
    c.loop-i-test.true c.args.at _ c.args.out.now c.loop-i.invariant

pub loop-i-preserved : goal.loop-i-preserved
loop-i-preserved c = row_written c.args.kinds.now c.args.cells.now c.args.rows c.loop-i.i
    c.loop-i-test.true c.args.at _ c.args.out.now c.loop-i.invariant
    c.put_row-end.ensures.value c.put_row-end.ensures.out_after

pub returns : goal.returns
returns c = let r = rows_written c.args.kinds.now c.args.cells.now c.args.rows c.loop-i.i c.loop-i-test.false
    c.args.at _ c.args.out.now c.loop-i.invariant in
    record { value = r.0; out_after = r.1 }
