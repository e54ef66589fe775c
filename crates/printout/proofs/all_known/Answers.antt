-- `printout::all_known` meets its contract: each kind is known (`known_decided`).
-- Assumes nothing.
use mathlib.Core.Path.{◌≡◌}
use mathlib.Core.Bool.{true}
use mathlib.Core.Logic.{◌↔◌}
use Prim.Native.Nat.{ℕ, ◌<◌}
use lib.ListN.{length, get_or}
use borrow.Author.Rules.{rules}
use Rattle.printout.proofs.Fit.{known_decided}
use Rattle.printout.proofs.all_known.Goals as goal

pub returns : goal.returns
returns c =
    let h : (c.all.result ≡ true) ↔ ((j : ℕ) → j < length c.args.kinds.now → get_or c.args.kinds.now j 0 < 4) = search rules in
    known_decided c.args.kinds.now h
