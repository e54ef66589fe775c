-- `text::items_at`: some items are done and the rest stands from `here` on (`Going`). The measure: the bytes left.
-- Assumes nothing.
use Rattle.text.proofs.Listing.{Going}
use Prim.Native.Nat.{◌-◌}
use lib.ListN.{length}
use Rattle.text.proofs.items_at.Given as goal

abbrev pub invariant-loop-letter : goal.invariant-loop-letter
invariant-loop-letter l = Going l.s l.at l.initial.out l.n l.here l.out

abbrev pub decreases-loop-letter : goal.decreases-loop-letter
decreases-loop-letter l = length l.s - l.here
