-- What the loops over a row's cells keep, and how a turn carries it on.
-- In order: cells that are not zero, cells outside their range.
-- Assumes nothing.
use mathlib.Core.Path.{◌≡◌, refl, sym, ap, ap₂, ◌∙◌}
use mathlib.Core.Bool.{Bool, true, false, not, ◌&&◌, ◌||◌}
use mathlib.Core.List.{List, ◌∷◌}
use Prim.Native.Nat.{ℕ, suc, ◌+◌, ◌≤◌, ◌<◌}
use native.Mathlib.Decide.{le_ind}
use native.Mathlib.Numerals.{add-one, add-one-le}
use native.Mathlib.Omega.{arith}
use borrow.Author.Tests.{eq-eqb, ne_eqb}
use lib.Dec.{eqb}
use lib.ListN.{length, get_or, drop, drop_of_length-le}
use lib.Seq.{drop-cons}
use Rattle.sets.specs.Sets.{has, rank, count, ATTRIBUTES}
use Rattle.sets.proofs.Tests.{and_yes, or_left, or_right, or_no}
use Rattle.sets.proofs.Sets.{yes_has}
use Rattle.sets.proofs.Ranks.{rank_lt}
use Rattle.values.specs.Values.{in_range}
use Rattle.relation.specs.Tables.{cell_of}
use Rattle.book.specs.Faults.{some_non_zero, some_outside, wrong_cells}

-- ---- cells that are not zero

-- those from a place on up to i are zero
pub record ZeroSoFar (cells : List ℕ) (from i : ℕ) : Type 0 where
  pub sized : length cells ≡ 6
  pub rest : some_non_zero (drop i cells) ≡ some_non_zero (drop from cells)

pub zero_start : (cells : List ℕ) (from : ℕ) → length cells ≡ 6 → ZeroSoFar cells from from
zero_start cells from e = record { sized = e; rest = refl }

module _ {cells : List ℕ} {from i : ℕ} (v : ZeroSoFar cells from i) (h : i < 6) where
  zero_front : (b : Bool) → eqb (get_or cells i 0) 0 ≡ b
      → (not b || some_non_zero (drop (i + 1) cells)) ≡ some_non_zero (drop from cells)
  unfolding some_non_zero
  zero_front b e =
      ap (λ (t : Bool). not t || some_non_zero (drop (i + 1) cells)) (sym e)
      ∙ ap (λ (k : ℕ). some_non_zero (get_or cells i 0 ∷ drop k cells)) (add-one i)
      ∙ ap some_non_zero (sym (drop-cons cells i 0 (omega (arith, v.sized)))) ∙ v.rest

  pub zero_not_here : (get_or cells i 0 ≡ 0 → ⊥) → true ≡ some_non_zero (drop from cells)
  zero_not_here d = zero_front false (ne_eqb (get_or cells i 0) 0 d)

  pub zero_next : get_or cells i 0 ≡ 0 → ZeroSoFar cells from (i + 1)
  zero_next e = record { sized = v.sized; rest = zero_front true (eq-eqb (get_or cells i 0) 0 e) }

pub zero_end : {cells : List ℕ} {from i : ℕ} → ZeroSoFar cells from i → 6 ≤ i → false ≡ some_non_zero (drop from cells)
unfolding some_non_zero
zero_end {cells} {i = i} v h =
    let past : length cells ≤ i = omega (arith, v.sized) in
    ap some_non_zero (sym (drop_of_length-le cells past)) ∙ v.rest

-- ---- cells outside their range

-- no attribute of the set below a has one
pub record InsideSoFar (kinds : List ℕ) (set : ℕ) (cells : List ℕ) (a : ℕ) : Type 0 where
  pub inside : a ≤ ATTRIBUTES
  pub none : some_outside kinds set cells a ≡ false

pub inside_start : (kinds : List ℕ) (set : ℕ) (cells : List ℕ) → InsideSoFar kinds set cells 0
unfolding some_outside
inside_start kinds set cells = record { inside = omega arith; none = refl }

-- a member of a set of six at most has one of six places
pub place_in_row : (set a : ℕ) {place : ℕ} → count ATTRIBUTES set ≤ 6 → a < ATTRIBUTES → has set a ≡ true
    → place ≡ rank set a
    → place < 6
place_in_row set a few h y e = omega (arith, rank_lt (yes_has set a y) h, e)

module _ {kinds : List ℕ} {set : ℕ} {cells : List ℕ} {a : ℕ} (v : InsideSoFar kinds set cells a)
    (h : a < ATTRIBUTES) where
  -- once one is outside, one is
  outside_on : some_outside kinds set cells (suc a) ≡ true → true ≡ some_outside kinds set cells ATTRIBUTES
  unfolding some_outside
  outside_on y =
      sym (le_ind (λ (m : ℕ). some_outside kinds set cells m ≡ true) y
      (λ m l e. or_left (has set m && not (in_range (get_or kinds m 0) (cell_of set cells m))) e) ATTRIBUTES h)

  -- the cell of a is the one at its place
  cell_here : {place : ℕ} {r : Bool} → place ≡ rank set a → r ≡ in_range (get_or kinds a 0) (get_or cells place 0)
      → in_range (get_or kinds a 0) (cell_of set cells a) ≡ r
  unfolding cell_of
  cell_here p e = ap (λ (k : ℕ). in_range (get_or kinds a 0) (get_or cells k 0)) (sym p) ∙ sym e

  pub outside_here : {place : ℕ} {r : Bool} → has set a ≡ true → place ≡ rank set a
      → r ≡ in_range (get_or kinds a 0) (get_or cells place 0) → not r ≡ true → true ≡ some_outside kinds set cells ATTRIBUTES
  unfolding some_outside
  outside_here y p e n =
      outside_on (or_right (some_outside kinds set cells a) (and_yes y (ap not (cell_here p e) ∙ n)))

  pub inside_with : {place : ℕ} {r : Bool} → has set a ≡ true → place ≡ rank set a
      → r ≡ in_range (get_or kinds a 0) (get_or cells place 0) → not r ≡ false → InsideSoFar kinds set cells (a + 1)
  unfolding some_outside
  inside_with y p e n = record {
    inside = add-one-le h;
    none =
        ap (some_outside kinds set cells) (add-one a)
        ∙ or_no v.none (ap₂ (λ (b c : Bool). b && c) y (ap not (cell_here p e) ∙ n));
  }

  pub inside_past : has set a ≡ false → InsideSoFar kinds set cells (a + 1)
  unfolding some_outside
  inside_past n = record {
    inside = add-one-le h;
    none =
        ap (some_outside kinds set cells) (add-one a)
        ∙ or_no v.none (ap (λ (b : Bool). b && not (in_range (get_or kinds a 0) (cell_of set cells a))) n);
  }

pub inside_end : {kinds : List ℕ} {set : ℕ} {cells : List ℕ} {a : ℕ} → InsideSoFar kinds set cells a → ATTRIBUTES ≤ a
    → false ≡ some_outside kinds set cells ATTRIBUTES
inside_end {kinds} {set} {cells} {a} v h =
    let e : a ≡ ATTRIBUTES = omega arith in
    sym v.none ∙ ap (some_outside kinds set cells) e

-- ---- both

module _ (kinds : List ℕ) (set : ℕ) (cells : List ℕ) {n : ℕ} {r : Bool} (e : n ≡ count ATTRIBUTES set)
    (q : r ≡ some_non_zero (drop n cells)) where
  pub cells_wrong : r ≡ true → true ≡ wrong_cells kinds set cells
  unfolding wrong_cells
  cells_wrong y =
      sym (or_left (some_outside kinds set cells ATTRIBUTES) (ap (λ (k : ℕ). some_non_zero (drop k cells)) (sym e)
      ∙ sym q ∙ y))

  pub cells_left : {o : Bool} → r ≡ false → o ≡ some_outside kinds set cells ATTRIBUTES → o ≡ wrong_cells kinds set cells
  unfolding wrong_cells
  cells_left n p =
      p
      ∙ ap (λ (b : Bool). b || some_outside kinds set cells ATTRIBUTES)
      (sym n ∙ q ∙ ap (λ (k : ℕ). some_non_zero (drop k cells)) e)
