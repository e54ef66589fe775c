-- The place is within the text or one behind it, the book within its room. The measure: the bytes left.
use Rattle.std.proofs.Common.{◌≡◌, ◌≤◌, ◌+◌, ◌-◌, length}
use Rattle.answer_trials.proofs.asking.lines.Given as goal

abbrev pub invariant-loop-from : goal.invariant-loop-from
invariant-loop-from g l = (l.from ≤ length l.s + 1) × (l.held ≤ 2048) × (length l.book ≡ 2048)

abbrev pub decreases-loop-from : goal.decreases-loop-from
decreases-loop-from g l = length l.s - l.from
