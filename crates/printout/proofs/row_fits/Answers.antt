-- `printout::row_fits` meets its contract: each cell is in its kind's range (`row_decided`).
-- Assumes nothing.
use mathlib.Core.Path.{◌≡◌}
use mathlib.Core.Bool.{true}
use mathlib.Core.Logic.{◌↔◌}
use Prim.Native.Nat.{ℕ, ◌<◌}
use lib.ListN.{length, get_or}
use borrow.Author.Rules.{rules}
use Rattle.values.specs.Values.{in_range}
use Rattle.printout.proofs.Fit.{row_decided}
use Rattle.printout.proofs.row_fits.Goals as goal

pub returns : goal.returns
returns c =
    let h : (c.all.result ≡ true) ↔ ((j : ℕ) → j < length c.args.kinds.now
    → in_range (get_or c.args.kinds.now j 0) (get_or c.args.row.now j 0) ≡ true) = search rules in
    row_decided c.args.kinds.now c.args.row.now c.requires h
