-- `sheets::put_blanks` meets its contract: the part lent is filled (`blanks_written`).
-- Assumes nothing.
use native.Mathlib.Omega.{arith}
use Rattle.sheets.proofs.Fields.{blanks_length}
use Rattle.sheets.proofs.Putting.{blanks_written}
use Rattle.sheets.proofs.put_blanks.Goals as goal

pub returns-clause-out_after : goal.returns-clause-out_after
returns-clause-out_after c = blanks_written c.args.at c.args.n c.args.out.now (omega (arith, c.requires, blanks_length c.args.n)) (c.fill.ensures.after (λ y e. e))
