-- `printout::is_fit` meets its contract, test by test in the order of `fits`.
-- Assumes nothing.
use native.Mathlib.Omega.{arith}
use Rattle.printout.proofs.Fit.{cells_fit, no_items, many_items, unknown_kind, many_rows, few_cells}
use Rattle.printout.proofs.Fit.{all_tested}
use Rattle.printout.proofs.is_fit.Goals as goal

pub returns-then-w-lt1 : goal.returns-then-w-lt1
returns-then-w-lt1 c = no_items _ _ _ (omega (arith, c.if-w-lt1.true))

pub returns-then-w-gt8 : goal.returns-then-w-gt8
returns-then-w-gt8 c = many_items _ _ _ (omega (arith, c.if-w-lt1.false)) (omega (arith, c.if-w-gt8.true))

pub returns-then-not-all_known : goal.returns-then-not-all_known
returns-then-not-all_known c = unknown_kind _ _ _ (omega (arith, c.if-w-lt1.false)) (omega (arith, c.if-w-gt8.false))
    c.all_known.ensures c.if-not-all_known.true

pub returns-then-rows-gt999999999999 : goal.returns-then-rows-gt999999999999
returns-then-rows-gt999999999999 c = many_rows _ _ _ (omega (arith, c.if-w-lt1.false)) (omega (arith, c.if-w-gt8.false))
    c.all_known.ensures c.if-not-all_known.false (omega (arith, c.if-rows-gt999999999999.true))

pub overflow_mul-rows : goal.overflow_mul-rows
overflow_mul-rows c = cells_fit (omega (arith, c.if-rows-gt999999999999.false)) (omega (arith, c.if-w-gt8.false))

pub returns-then-cells-rows : goal.returns-then-cells-rows
returns-then-cells-rows c = few_cells _ _ _ (omega (arith, c.if-w-lt1.false)) (omega (arith, c.if-w-gt8.false))
    c.all_known.ensures c.if-not-all_known.false (omega (arith, c.if-rows-gt999999999999.false)) (omega (
      arith,
      c.if-cells-rows.true,
    ))

pub rows_fit-requires : goal.rows_fit-requires
rows_fit-requires c = c.if-cells-rows.false

pub returns : goal.returns
returns c = all_tested _ _ _ (omega (arith, c.if-w-lt1.false)) (omega (arith, c.if-w-gt8.false))
    c.all_known.ensures c.if-not-all_known.false (omega (arith, c.if-rows-gt999999999999.false)) (omega (
      arith,
      c.if-cells-rows.false,
    )) c.rows_fit.ensures
