-- `sheets::put_foot` meets its contract: a field and the rest of the line.
-- Assumes nothing.
use native.Mathlib.Omega.{arith}
use Rattle.sheets.proofs.Putting.{foot_parts, part_room, rest_behind, line_written}
use Rattle.sheets.specs.Sheets.{field_of, rest_of, foot_line}
use Rattle.printout.specs.Decimal.{decimal}
use Rattle.sheets.proofs.put_foot.Goals as goal

pub put_number-end-requires : goal.put_number-end-requires
put_number-end-requires c = record {
  x_bound = c.requires.number_bound;
  x_in_bounds = part_room (foot_line c.args.number) (field_of (decimal c.args.number)) (rest_of 12)
      (foot_parts c.args.number c.requires.number_bound) c.args.at c.args.out.now c.requires.number_in_bounds;
}

pub end_line-requires : goal.end_line-requires
end_line-requires c = record {
  used_bound = omega arith;
  used_in_bounds = rest_behind (foot_line c.args.number) (field_of (decimal c.args.number)) (rest_of 12)
      (foot_parts c.args.number c.requires.number_bound) c.args.at c.args.out.now c.requires.number_in_bounds
      c.put_number-end.ensures.value c.put_number-end.ensures.out_after;
}

pub returns : goal.returns
returns c = let r = line_written (foot_line c.args.number) (field_of (decimal c.args.number)) (rest_of 12) (foot_parts
    c.args.number c.requires.number_bound) c.args.at c.args.out.now c.requires.number_in_bounds
    c.put_number-end.ensures.value c.put_number-end.ensures.out_after c.end_line.ensures.value
    c.end_line.ensures.out_after in
    record { value = r.0; out_after = r.1 }
