-- The proof of the cycle of calls {or_at, and_at, not_at, primary_at}: "or, and, not and primary parsers call each other,
-- remaining depth and bytes falling". The measure: four for each byte left, and 4, 3, 2, 1 for the parser. The loops
-- keep that the chain goes on with what is parsed so far (`OrKeeps`, `AndKeeps`), whatever the words were before its
-- first part was written; their measure is what is left of the text (`left`).
-- Assumes nothing.
use Prim.Native.Nat.{◌+◌, ◌-◌, ◌*◌}
use lib.ListN.{length}
use Rattle.text.proofs.Parsers.{OrKeeps, AndKeeps}
use Rattle.text.proofs.+and_at_not_at_or_at_primary_at.Given as goal

abbrev pub decreases-or_at : goal.decreases-or_at
decreases-or_at l = 4 * (length l.s.now - l.at) + 4

abbrev pub decreases-and_at : goal.decreases-and_at
decreases-and_at l = 4 * (length l.s.now - l.at) + 3

abbrev pub decreases-not_at : goal.decreases-not_at
decreases-not_at l = 4 * (length l.s.now - l.at) + 2

abbrev pub decreases-primary_at : goal.decreases-primary_at
decreases-primary_at l = 4 * (length l.s.now - l.at) + 1

abbrev pub invariant-or_at-loop-next : goal.invariant-or_at-loop-next
invariant-or_at-loop-next l = OrKeeps l.s l.at l.to l.initial.out l.initial.c l.out l.c

abbrev pub decreases-or_at-loop-next : goal.decreases-or_at-loop-next
decreases-or_at-loop-next l = length l.s - l.c.next

abbrev pub invariant-and_at-loop-next : goal.invariant-and_at-loop-next
invariant-and_at-loop-next l = AndKeeps l.s l.at l.to l.initial.out l.initial.c l.out l.c

abbrev pub decreases-and_at-loop-next : goal.decreases-and_at-loop-next
decreases-and_at-loop-next l = length l.s - l.c.next
