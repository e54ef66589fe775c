-- What the code's count of an object's attributes says of the check of it. Assumes nothing.
use mathlib.Core.Path.{◌≡◌}
use mathlib.Core.Bool.{true, false}
use Prim.Native.Nat.{ℕ, ◌≤◌, ◌<◌}
use native.Mathlib.Omega.{arith}
use borrow.Author.Tests.{lt-ltb, le-ltb}
use lib.Dec.{ltb}

-- a count of which the code has the result n
pub over_counted : {n m : ℕ} → n ≡ m → 6 < n → ltb 6 m ≡ true
over_counted {n} {m} e h = lt-ltb 6 m (omega arith)

pub under_counted : {n m : ℕ} → n ≡ m → n ≤ 6 → ltb 6 m ≡ false
under_counted {n} {m} e h = le-ltb 6 m (omega arith)
