-- `sheets::put_head` meets its contract: two fields and the rest of the line.
-- Assumes nothing.
use native.Mathlib.Omega.{arith}
use Rattle.sheets.proofs.Putting.{serial_room, count_room, head_rest_room, head_written}
use Rattle.sheets.proofs.put_head.Goals as goal

pub put_number-first-requires : goal.put_number-first-requires
put_number-first-requires c = record {
  x_bound = omega (arith, c.index.ensures);
  x_in_bounds = serial_room c.args.serial c.args.rows c.requires.rows_bound c.index.ensures c.args.out.now
      c.requires.rows_in_bounds;
}

pub put_number-end-requires : goal.put_number-end-requires
put_number-end-requires c = record {
  x_bound = c.requires.rows_bound;
  x_in_bounds = count_room c.args.serial c.args.rows c.requires.rows_bound c.index.ensures
      c.args.out.now c.requires.rows_in_bounds c.put_number-first.ensures.value c.put_number-first.ensures.out_after;
}

pub end_line-requires : goal.end_line-requires
end_line-requires c = record {
  used_bound = omega arith;
  used_in_bounds = head_rest_room c.args.serial c.args.rows c.requires.rows_bound c.index.ensures
      c.args.out.now c.requires.rows_in_bounds c.put_number-first.ensures.value c.put_number-first.ensures.out_after
      c.put_number-end.ensures.value c.put_number-end.ensures.out_after;
}

pub returns : goal.returns
returns c = let r = head_written c.args.serial c.args.rows c.requires.rows_bound c.index.ensures c.args.out.now
    c.requires.rows_in_bounds c.put_number-first.ensures.value c.put_number-first.ensures.out_after
    c.put_number-end.ensures.value c.put_number-end.ensures.out_after c.end_line.ensures.value
    c.end_line.ensures.out_after in
    record { value = r.0; out_after = r.1 }
