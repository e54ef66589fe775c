-- `text::name_number` meets its contract. The number so far and the letters left give the whole (`Naming`).
-- Assumes nothing.
use Rattle.text.proofs.Scanning.{naming_start, naming_times, naming_fits, naming_next, naming_ends}
use native.Mathlib.Omega.{arith}
use borrow.Author.Rules.{rules}
use Rattle.text.proofs.name_number.Goals as goal

pub loop-b-init : goal.loop-b-init
loop-b-init c = naming_start _

pub overflow_mul-m : goal.overflow_mul-m
overflow_mul-m c = naming_times _ _ _ c.loop-b.invariant (omega arith) (omega arith)

pub overflow_add-m : goal.overflow_add-m
overflow_add-m c = naming_fits _ _ _ c.loop-b.invariant (omega arith) (omega arith) _ (omega arith)

pub loop-b-preserved : goal.loop-b-preserved
loop-b-preserved c = naming_next _ _ _ c.loop-b.invariant (omega arith) (omega arith) _ (search rules) (omega arith)

pub returns : goal.returns
returns c = naming_ends _ _ _ c.loop-b.invariant (omega arith)
