-- Laws of the rows of accepted records. Those of accepted records by any rules are in `records`.
-- In order: one record more, the count of rows.
-- Assumes nothing.
use mathlib.Core.Path.{◌≡◌, ap}
use mathlib.Core.Bool.{Bool, true, false}
use mathlib.Core.Logic.{⊎_elim}
use mathlib.Core.List.{List, [], ◌∷◌, ◌++◌}
use Prim.Native.Nat.{ℕ, ◌+◌, ◌≤◌}
use native.Mathlib.Omega.{arith}
use lib.ListN.{length, length-append}
use Rattle.sets.proofs.Tests.{yes_or_no}
use Rattle.records.specs.Walking.{none, one}
use Rattle.records.specs.declared.Record.{Record}
use Rattle.records.proofs.Reader.{found_after}
use Rattle.book.specs.Reading.{Held, is_row, with_row}
use Rattle.book.specs.Accepting.{AcceptedAs}

-- ---- one record more

pub with_row_yes : (rows : List ℕ) (r : Record) (at : ℕ) → is_row r ≡ true → with_row rows r at ≡ rows ++ at ∷ []
unfolding with_row
with_row_yes rows r at e = ap (λ (t : Bool). elim t [ true ↦ rows ++ at ∷ [] | false ↦ rows ]) e

pub with_row_no : (rows : List ℕ) (r : Record) (at : ℕ) → is_row r ≡ false → with_row rows r at ≡ rows
unfolding with_row
with_row_no rows r at e = ap (λ (t : Bool). elim t [ true ↦ rows ++ at ∷ [] | false ↦ rows ]) e

length_with_row : (rows : List ℕ) (r : Record) (at : ℕ) → length (with_row rows r at) ≤ length rows + 1
length_with_row rows r at =
    ⊎_elim (λ y. omega (arith, ap length (with_row_yes rows r at y), length-append rows (at ∷ [])))
    (λ n. omega (arith, ap length (with_row_no rows r at n))) (yes_or_no (is_row r))

-- ---- the count of rows: each takes a byte or more

pub accepted_rows : {b : List ℕ} {rs : List Record} {h : Held} {at : ℕ} → AcceptedAs b rs h at → length h.rows ≤ at
accepted_rows none = omega arith
accepted_rows {b} (one {s = h} {at = at} {r = r} a e f l) =
    omega (arith, accepted_rows a, length_with_row h.rows r at, found_after b at e)
