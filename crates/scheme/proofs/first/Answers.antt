-- `scheme::first` meets its contract: the part is the first n where there are more, and the whole list where there are
-- not.
-- Assumes nothing.
use mathlib.Core.Path.{sym}
use native.Mathlib.Nat.{le_of_lt}
use lib.Seq.{length-take-le, take_all}
use Rattle.scheme.proofs.first.Goals as goal

pub slice_bounds-result-end : goal.slice_bounds-result-end
slice_bounds-result-end g c = sym (length-take-le c.before.args.n c.before.args.list.now (le_of_lt c.if-n-list.true))

pub returns-else-n-list : goal.returns-else-n-list
returns-else-n-list g c = sym (take_all c.args.n c.args.list.now c.if-n-list.false)
