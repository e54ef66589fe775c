-- `sheets::put_sheet` meets its contract: the head line, the rows, the blank lines and the foot line (`Whole`).
-- Assumes nothing.
use mathlib.Core.Path.{ap}
use Prim.Native.Nat.{◌-◌, ◌*◌}
use lib.ListN.{length}
use native.Mathlib.Nat.{mul-le-mul}
use native.Mathlib.Omega.{arith}
use Rattle.sheets.proofs.Whole.{few_shown, cells_behind, head_room, lines_room, blank_room, foot_room, sheet_written}
use Rattle.sheets.proofs.Shape.{part_inside, cells_enough, number_few}
use Rattle.sheets.proofs.Rows.{first_inside}
use Rattle.sheets.proofs.put_sheet.Goals as goal

pub overflow_mul-first : goal.overflow_mul-first
overflow_mul-first c = omega (
  arith,
  first_inside c.args.rows c.args.number c.requires.le_number.0 c.requires.le_number.1,
  c.requires.fit_to_print.few_rows,
)

pub overflow_sub-rows : goal.overflow_sub-rows
overflow_sub-rows c = omega (
  arith,
  first_inside c.args.rows c.args.number c.requires.le_number.0
      c.requires.le_number.1,
)

pub overflow_mul-from : goal.overflow_mul-from
overflow_mul-from c = omega (
  arith,
  part_inside c.args.rows c.args.kinds.now c.args.cells.now c.args.number c.requires.fit_to_print c.requires.le_number.0
      c.requires.le_number.1 _ (few_shown _ c.min-n.ensures),
)

pub slice_bounds-put_rows-count : goal.slice_bounds-put_rows-count
slice_bounds-put_rows-count c = omega (
  arith,
  part_inside c.args.rows c.args.kinds.now c.args.cells.now c.args.number c.requires.fit_to_print c.requires.le_number.0
      c.requires.le_number.1 _ (few_shown _ c.min-n.ensures),
)

pub slice_bounds-put_rows-start : goal.slice_bounds-put_rows-start
slice_bounds-put_rows-start c = omega (
  arith,
  part_inside c.args.rows c.args.kinds.now c.args.cells.now c.args.number c.requires.fit_to_print c.requires.le_number.0
      c.requires.le_number.1 _ (few_shown _ c.min-n.ensures),
)

pub offset_bounds-cells-from : goal.offset_bounds-cells-from
offset_bounds-cells-from c = record {
  fits = omega (
    arith,
    mul-le-mul {n₁ = 38 * (c.args.number - 1)} {m₁ = length c.args.kinds.now} {n₂ = 999_999_999_999} {m₂ = 8} (omega (
      arith,
      first_inside c.args.rows c.args.number c.requires.le_number.0 c.requires.le_number.1,
      c.requires.fit_to_print.few_rows,
    )) c.requires.fit_to_print.few_items,
  );
}

pub put_head-head-requires : goal.put_head-head-requires
put_head-head-requires c = record {
  rows_bound = c.requires.fit_to_print.few_rows;
  rows_in_bounds = head_room c.args.serial c.args.rows c.args.kinds.now c.args.cells.now c.args.number c.args.out.now
      (omega arith) c.requires.fit_to_print
      c.requires.le_number.0 c.requires.le_number.1 c.requires.in_bounds (few_shown _ c.min-n.ensures) (cells_behind c.args.cells.now _);
}

pub put_rows-lines-requires : goal.put_rows-lines-requires
put_rows-lines-requires c = record {
  kinds_len_bound = (
    c.requires.fit_to_print.few_items,
    omega (
      arith,
      ap length (cells_behind c.args.cells.now (38 * (c.args.number - 1) * length c.args.kinds.now)),
      cells_enough c.args.rows c.args.kinds.now c.args.cells.now c.args.number c.requires.fit_to_print
          c.requires.le_number.0 c.requires.le_number.1 _ (few_shown _ c.min-n.ensures),
    ),
  );
  cells_in_bounds = lines_room c.args.serial c.args.rows c.args.kinds.now c.args.cells.now c.args.number c.args.out.now
      (omega arith) c.requires.fit_to_print c.requires.le_number.0 c.requires.le_number.1
      c.requires.in_bounds (few_shown _ c.min-n.ensures) (cells_behind c.args.cells.now _) c.put_head-head.ensures.value c.put_head-head.ensures.out_after;
}

pub put_blank_lines-foot-requires : goal.put_blank_lines-foot-requires
put_blank_lines-foot-requires c = blank_room c.args.serial c.args.rows c.args.kinds.now c.args.cells.now c.args.number
    c.args.out.now (omega arith) c.requires.fit_to_print c.requires.le_number.0 c.requires.le_number.1
    c.requires.in_bounds (few_shown _ c.min-n.ensures) (cells_behind c.args.cells.now _) c.put_head-head.ensures.value c.put_head-head.ensures.out_after
    c.put_rows-lines.ensures.value c.put_rows-lines.ensures.out_after

pub put_foot-requires : goal.put_foot-requires
put_foot-requires c = record {
  number_bound = number_few c.args.rows c.args.kinds.now c.args.cells.now c.args.number c.requires.fit_to_print
      c.requires.le_number.0 c.requires.le_number.1;
  number_in_bounds = foot_room c.args.serial c.args.rows c.args.kinds.now c.args.cells.now c.args.number c.args.out.now
      (omega
      arith) c.requires.fit_to_print c.requires.le_number.0 c.requires.le_number.1 c.requires.in_bounds
      (few_shown _ c.min-n.ensures) (cells_behind c.args.cells.now _)
      c.put_head-head.ensures.value c.put_head-head.ensures.out_after c.put_rows-lines.ensures.value
      c.put_rows-lines.ensures.out_after c.put_blank_lines-foot.ensures.value
      c.put_blank_lines-foot.ensures.out_after;
}

pub returns : goal.returns
returns c = sheet_written c.args.serial c.args.rows c.args.kinds.now c.args.cells.now c.args.number c.args.out.now
    (omega arith) c.requires.fit_to_print c.requires.le_number.0 c.requires.le_number.1
    c.requires.in_bounds (few_shown _ c.min-n.ensures) (cells_behind c.args.cells.now _) c.put_head-head.ensures.value c.put_head-head.ensures.out_after
    c.put_rows-lines.ensures.value c.put_rows-lines.ensures.out_after c.put_blank_lines-foot.ensures.value
    c.put_blank_lines-foot.ensures.out_after c.put_foot.ensures.value c.put_foot.ensures.out_after
