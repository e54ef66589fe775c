-- `sheets::put_field` meets its contract: the blanks and the cell, one behind the other.
-- Assumes nothing.
use native.Mathlib.Omega.{arith}
use Rattle.sheets.proofs.Putting.{blanks_room, text_room, field_written, cell_field}
use Rattle.printout.specs.Decimal.{cell_text}
use Rattle.sheets.proofs.put_field.Goals as goal

pub put_blanks-end-requires : goal.put_blanks-end-requires
put_blanks-end-requires c = blanks_room (cell_text c.args.kind c.args.cell) c.args.out.now c.args.at c.requires
    c.cell_length-n.ensures.value

pub put_cell-requires : goal.put_cell-requires
put_cell-requires c = text_room (cell_text c.args.kind c.args.cell) c.args.out.now c.args.at c.requires
    c.cell_length-n.ensures.value c.put_blanks-end.ensures.value c.put_blanks-end.ensures.out_after

pub returns : goal.returns
returns c = let (p, w) = field_written (cell_text c.args.kind c.args.cell) c.args.out.now c.args.at c.requires
    c.cell_length-n.ensures.value c.put_blanks-end.ensures.value c.put_blanks-end.ensures.out_after
    c.put_cell.ensures.value c.put_cell.ensures.out_after in
    record {
      value = p;
      out_after = w;
      inside = omega
          (arith, p, cell_field c.args.kind c.args.cell (omega arith));
    }
