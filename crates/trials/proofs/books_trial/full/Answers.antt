-- The array is as long after `fill` as it was.
use Rattle.std.proofs.Common.{ℕ, rules, arith}
use lib.ListN.{length-replicate, length-take}
use Rattle.trials.proofs.books_trial.full.Goals as goal

pub slice_bounds-show-end-2 : goal.slice_bounds-show-end-2
slice_bounds-show-end-2 g c = omega (arith, c.fill.auto.out, length-replicate {A = ℕ} 65537 0, length-take 65536 c.fill.new.out)
