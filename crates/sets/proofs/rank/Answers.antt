-- `sets::rank` meets its contract: the mask 2 ^ k - 1 leaves the digits below k, whose ones are the members below k.
-- Assumes nothing.
use mathlib.Core.Path.{ap, subst, sym, ◌∙◌}
use Prim.Native.Nat.{ℕ, ◌-◌, ◌≤◌}
use lib.Count.{ones}
use Rattle.sets.specs.Sets.{◌∩◌}
use Rattle.sets.proofs.Sets.{single_pos}
use Rattle.sets.proofs.Ranks.{ones_masked}
use Rattle.sets.proofs.rank.Goals as goal

pub overflow_sub-below : goal.overflow_sub-below
overflow_sub-below c = subst (λ (x : ℕ). 1 ≤ x) (sym c.single-below.ensures) (single_pos c.args.k)

pub returns : goal.returns
unfolding ◌∩◌
returns c = ap (λ (x : ℕ). ones (c.args.s ∩ (x - 1))) c.single-below.ensures
    ∙ ones_masked c.args.s c.args.k
