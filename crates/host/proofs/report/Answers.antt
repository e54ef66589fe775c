-- `host::report` meets its contract, by what printing came to.
-- Assumes nothing.
use mathlib.Core.Path.{refl}
use Rattle.host.proofs.Given.{bytes_here, told_nothing}
use Rattle.host.proofs.report.Goals as goal

pub returns-in-Ok : goal.returns-in-Ok
returns-in-Ok c = let r = bytes_here _ c.in-Ok.is c.requires refl in
    record { value = r.0; results_after = r.1 }

pub returns-in-Err : goal.returns-in-Err
returns-in-Err c = let r = told_nothing _ c.in-Err.is c.status_of.ensures in
    record { value = r.0; results_after = r.1 }
