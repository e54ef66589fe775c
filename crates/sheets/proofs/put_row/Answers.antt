-- `sheets::put_row` meets its contract: the fields and the rest of the line.
-- Assumes nothing.
use native.Mathlib.Omega.{arith}
use Rattle.sheets.proofs.Putting.{row_fields_room, row_rest_room, row_line_written}
use Rattle.sheets.proofs.put_row.Goals as goal

pub put_fields-end-requires : goal.put_fields-end-requires
put_fields-end-requires c = record {
  kinds_in_bounds = c.requires.kinds_len_bound.1;
  row_in_bounds = row_fields_room c.args.kinds.now c.args.row.now c.args.at c.args.out.now c.requires.row_in_bounds;
}

pub end_line-requires : goal.end_line-requires
end_line-requires c = record {
  used_bound = omega (arith, c.requires.kinds_len_bound.0);
  used_in_bounds = row_rest_room c.args.kinds.now c.args.row.now c.args.at c.args.out.now c.requires.row_in_bounds
      c.put_fields-end.ensures.value c.put_fields-end.ensures.out_after c.put_fields-end.ensures.inside;
}

pub returns : goal.returns
returns c = let r = row_line_written c.args.kinds.now c.args.row.now c.args.at c.args.out.now
    c.requires.row_in_bounds c.put_fields-end.ensures.value c.put_fields-end.ensures.out_after
    c.put_fields-end.ensures.inside c.end_line.ensures.value c.end_line.ensures.out_after in
    record { value = r.0; out_after = r.1 }
