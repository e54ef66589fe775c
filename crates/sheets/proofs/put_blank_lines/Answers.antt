-- `sheets::put_blank_lines` meets its contract. The invariant: the lines before the next are written (`Writing`).
-- Assumes nothing.
use Rattle.sheets.proofs.Putting.{blank_start, blank_line_room, blank_line_written, blank_lines_written}
use Rattle.sheets.proofs.put_blank_lines.Goals as goal

pub loop-init : goal.loop-init
loop-init c = blank_start _ _ _ c.requires

pub end_line-end-requires-clause-used_in_bounds : goal.end_line-end-requires-clause-used_in_bounds
end_line-end-requires-clause-used_in_bounds c = blank_line_room c.args.at c.args.n c.args.out.now c.loop.counter
    c.loop.invariant c.loop-test.true

pub loop-preserved : goal.loop-preserved
loop-preserved c = blank_line_written c.args.at c.args.n c.args.out.now c.loop.counter c.loop.invariant
    c.loop-test.true c.end_line-end.ensures.value c.end_line-end.ensures.out_after

pub returns : goal.returns
returns c = let r = blank_lines_written c.args.at c.args.n c.args.out.now c.loop.counter c.loop.invariant
    c.loop-test.false in
    record { value = r.0; out_after = r.1 }
