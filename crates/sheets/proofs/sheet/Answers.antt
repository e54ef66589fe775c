-- `sheets::sheet` meets its contract, test by test in the order of `sheet_number`.
-- Assumes nothing.
use native.Mathlib.Omega.{arith}
use Rattle.sheets.proofs.Giving.{few_given, unfit_given, given_fit, zero_given, past_given, number_some}
use Rattle.sheets.proofs.Giving.{number_last, whole_given}
use Rattle.sheets.proofs.sheet.Goals as goal

pub returns-then-out-lt-SHEET : goal.returns-then-out-lt-SHEET
returns-then-out-lt-SHEET c = let r = few_given c.args.serial c.args.rows c.args.kinds.now c.args.cells.now
    c.args.number c.args.out.now (omega (arith, c.if-out-lt-SHEET.true)) in
    record { value = r.0; out_after = r.1 }

pub returns-then-not-is_fit : goal.returns-then-not-is_fit
returns-then-not-is_fit c = let r = unfit_given c.args.serial c.args.rows c.args.kinds.now c.args.cells.now
    c.args.number c.args.out.now c.is_fit.ensures c.if-not-is_fit.true in
    record { value = r.0; out_after = r.1 }

pub returns-then-number-eq0 : goal.returns-then-number-eq0
returns-then-number-eq0 c = let r = zero_given c.args.serial c.args.rows c.args.kinds.now c.args.cells.now c.args.number
    c.args.out.now c.is_fit.ensures c.if-not-is_fit.false (omega
    (arith, c.if-out-lt-SHEET.false)) c.if-number-eq0.true in
    record { value = r.0; out_after = r.1 }

pub returns-then-sheets-number : goal.returns-then-sheets-number
returns-then-sheets-number c = let r = past_given c.args.serial c.args.rows c.args.kinds.now c.args.cells.now
    c.args.number c.args.out.now c.is_fit.ensures c.if-not-is_fit.false (omega
    (arith, c.if-out-lt-SHEET.false)) c.if-number-eq0.false c.sheets.ensures c.if-sheets-number.true in
    record { value = r.0; out_after = r.1 }

pub put_sheet-requires : goal.put_sheet-requires
put_sheet-requires c = record {
  fit_to_print = given_fit c.args.serial c.args.rows c.args.kinds.now c.args.cells.now c.args.number c.args.out.now
      c.is_fit.ensures c.if-not-is_fit.false (omega
      (arith, c.if-out-lt-SHEET.false));
  le_number = (
    number_some c.args.serial c.args.rows c.args.kinds.now
        c.args.cells.now c.args.number c.args.out.now c.is_fit.ensures c.if-not-is_fit.false (omega (
          arith,
          c.if-out-lt-SHEET.false,
        )) c.if-number-eq0.false c.sheets.ensures (omega
        (arith, c.if-sheets-number.false)),
    number_last c.args.serial c.args.rows c.args.kinds.now
        c.args.cells.now c.args.number c.args.out.now c.is_fit.ensures c.if-not-is_fit.false (omega (
          arith,
          c.if-out-lt-SHEET.false,
        )) c.if-number-eq0.false c.sheets.ensures (omega
        (arith, c.if-sheets-number.false)),
  );
  in_bounds = omega (arith, c.if-out-lt-SHEET.false);
}

pub returns : goal.returns
returns c = let r = whole_given c.args.serial c.args.rows c.args.kinds.now c.args.cells.now c.args.number c.args.out.now
    c.is_fit.ensures c.if-not-is_fit.false (omega
    (arith, c.if-out-lt-SHEET.false)) c.if-number-eq0.false c.sheets.ensures (omega (arith, c.if-sheets-number.false))
    (omega arith) c.put_sheet.ensures in record { value = r.0; out_after = r.1 }
