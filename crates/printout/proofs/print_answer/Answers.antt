-- `printout::print_answer` meets its contract: the answer is not fit, there is no room, or both parts are written.
-- Assumes nothing.
use native.Mathlib.Omega.{arith}
use Rattle.printout.proofs.Texts.{answer_not_fit, answer_fit, answer_none, lines_room, answer_written}
use Rattle.printout.proofs.print_answer.Goals as goal

pub returns-then-not-is_fit : goal.returns-then-not-is_fit
returns-then-not-is_fit c = let r = answer_not_fit c.args.serial _ _ _ c.args.out.now c.is_fit.ensures
    c.if-not-is_fit.true in
    record { value = r.0; out_after = r.1 }

pub rows_length-requires : goal.rows_length-requires
rows_length-requires c = let v = answer_fit c.args.serial _ _ _ c.args.out.now c.is_fit.ensures c.if-not-is_fit.false in
    record {
      kinds_len_bound = (v.few_items, v.few_rows);
      kinds_in_bounds = v.enough_cells;
    }

pub returns-then-out-size : goal.returns-then-out-size
returns-then-out-size c = let r = answer_none c.args.serial _ _ _ c.args.out.now c.is_fit.ensures c.if-not-is_fit.false
    c.head_length.ensures.value c.rows_length.ensures.value (omega (arith, c.if-out-size.true)) in
    record { value = r.0; out_after = r.1 }

pub put_rows-requires : goal.put_rows-requires
put_rows-requires c = record {
  kinds_in_bounds = (answer_fit c.args.serial _ _ _ c.args.out.now
      c.is_fit.ensures c.if-not-is_fit.false).enough_cells;
  cells_in_bounds = lines_room c.args.serial _ _ _ c.args.out.now
      c.is_fit.ensures c.if-not-is_fit.false c.head_length.ensures.value
      c.rows_length.ensures.value (omega (arith, c.if-out-size.false))
      c.put_head-at.ensures.value
      c.put_head-at.ensures.out_after;
}

pub returns : goal.returns
returns c = let r = answer_written c.args.serial _ _ _ c.args.out.now c.is_fit.ensures c.if-not-is_fit.false
    c.head_length.ensures.value c.rows_length.ensures.value
    (omega (arith, c.if-out-size.false)) c.put_head-at.ensures.value c.put_head-at.ensures.out_after
    c.put_rows.ensures.value c.put_rows.ensures.out_after in record { value = r.0; out_after = r.1 }
