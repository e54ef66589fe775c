-- Rows in a book's bytes: where the cell of an attribute stands.
-- Assumes nothing.
use mathlib.Core.Path.{◌≡◌, ap, ◌∙◌}
use mathlib.Core.List.{List}
use Prim.Native.Nat.{ℕ, zero, suc, ◌+◌, ◌*◌, ◌^◌, ◌≤◌, ◌<◌}
use native.Mathlib.Nat.{lt_of_lt_of_le}
use native.Mathlib.Omega.{arith}
use lib.ListN.{length, get_or}
use Rattle.sets.specs.Sets.{◌∈◌, rank, ATTRIBUTES}
use Rattle.sets.proofs.Ranks.{rank_lt_count}
use Rattle.records.specs.Fields.{field}
use Rattle.relation.specs.Tables.{cell_of}
use Rattle.relation.specs.BookRows.{row_of, RowThere}

-- ---- the place of a cell

pub rank_below_six : {b : List ℕ} {at s a : ℕ} → RowThere b at s → s < 2 ^ ATTRIBUTES → a ∈ s → rank s a < 6
rank_below_six t h i = lt_of_lt_of_le (rank_lt_count ATTRIBUTES h i) t.six

-- the cell at place p of the six
cell_at : (b : List ℕ) (at p : ℕ) → p < 6 → field 4 b (at + 2 + 4 * p) ≡ get_or (row_of b at) p 0
unfolding row_of
cell_at b at zero h = ap (field 4 b) (omega arith)
cell_at b at (suc zero) h = ap (field 4 b) (omega arith)
cell_at b at (suc (suc zero)) h = ap (field 4 b) (omega arith)
cell_at b at (suc (suc (suc zero))) h = ap (field 4 b) (omega arith)
cell_at b at (suc (suc (suc (suc zero)))) h = ap (field 4 b) (omega arith)
cell_at b at (suc (suc (suc (suc (suc zero))))) h = ap (field 4 b) (omega arith)
cell_at b at (suc (suc (suc (suc (suc (suc p)))))) h = absurd (omega arith)

-- a word read at the place of an attribute's rank is its cell
pub cell_read : {b : List ℕ} {at s a : ℕ} (p r : ℕ) → RowThere b at s → s < 2 ^ ATTRIBUTES → a ∈ s → p ≡ rank s a
    → r ≡ field 4 b (at + 2 + 4 * p) → r ≡ cell_of s (row_of b at) a
unfolding cell_of
cell_read {b} {at} {s} {a} p r t h i e q =
    q ∙ ap (λ (k : ℕ). field 4 b (at + 2 + 4 * k)) e ∙ cell_at b at (rank s a) (rank_below_six t h i)

pub cell_within : {b : List ℕ} {at s a : ℕ} (p : ℕ) → RowThere b at s → s < 2 ^ ATTRIBUTES → a ∈ s → p ≡ rank s a
    → at + 2 + 4 * p + 4 ≤ length b
cell_within p t h i e = omega (arith, rank_below_six t h i, t.whole)
