-- What the tests of an answer that is fit to print say.
-- In order: the whole, fit to print as the paper has it and as the tests have it.
-- Not here: the rows (`Rows`).
-- Assumes nothing.
use mathlib.Core.Path.{◌≡◌, refl, sym, ap, subst, ◌∙◌}
use mathlib.Core.Bool.{Bool, true, false}
use mathlib.Core.List.{List, [], ◌∷◌}
use mathlib.Core.Logic.{◌↔◌}
use Prim.Native.Nat.{ℕ, zero, suc, ◌+◌, ◌*◌, ◌≤◌, ◌<◌}
use native.Mathlib.Nat.{le_of_eq, lt_of_le_of_lt, mul-le-mul}
use native.Mathlib.Omega.{arith}
use borrow.Author.Tests as Tests
use mir.Syntax.{w64}
use mir.Val.{Fits}
use lib.Dec.{ltb, leb}
use lib.ListN.{length, get_or, drop, replicate, length-drop, length-replicate, get_or-replicate}
use lib.Seq.{get_or-take, get_or-drop, length-take-le}
use Rattle.sets.proofs.Tests.{and_yes, yes_and, not_yes, yes_no}
use Rattle.values.specs.Values.{missing, in_range}
use Rattle.sorted.specs.Rows.{Row, rows_in}
use Rattle.sorted.proofs.Halving.{row_of_law, row_inside, length_rows}
use Rattle.printout.specs.Lines.{FitToPrint, all_known, row_fits, rows_fit, fits}

-- ---- the whole, test by test as the code makes them

pub cells_fit : {rows w : ℕ} → rows ≤ 999_999_999_999 → w ≤ 8 → Fits w64 (rows * w)
cells_fit {rows} {w} h k = record { fits = omega (arith, mul-le-mul h k) }

module _ (rows : ℕ) (kinds cells : List ℕ) where
  pub no_items : length kinds < 1 → false ≡ fits rows kinds cells
  unfolding fits
  no_items h = rw (Tests.lt-leb 1 (length kinds) h)

  module _ (h : 1 ≤ length kinds) where
    pub many_items : 8 < length kinds → false ≡ fits rows kinds cells
    unfolding fits
    many_items k = rw (Tests.le-leb 1 (length kinds) h, Tests.lt-leb (length kinds) 8 k)

    module _ (k : length kinds ≤ 8) {t : Bool} (e : t ≡ all_known kinds) where
      pub unknown_kind : t ≡ false → false ≡ fits rows kinds cells
      unfolding fits
      unknown_kind n = rw (Tests.le-leb 1 (length kinds) h, Tests.le-leb (length kinds) 8 k, sym e ∙ n)

      module _ (y : t ≡ true) where
        pub many_rows : 999_999_999_999 < rows → false ≡ fits rows kinds cells
        unfolding fits
        many_rows l =
            rw (
              Tests.le-leb 1 (length kinds) h,
              Tests.le-leb (length kinds) 8 k,
              sym e ∙ y,
              Tests.lt-leb rows 999_999_999_999 l,
            )

        module _ (l : rows ≤ 999_999_999_999) where
          pub few_cells : length cells < rows * length kinds → false ≡ fits rows kinds cells
          unfolding fits
          few_cells m =
              rw (
                Tests.le-leb 1 (length kinds) h,
                Tests.le-leb (length kinds) 8 k,
                sym e ∙ y,
                Tests.le-leb rows 999_999_999_999 l,
                Tests.lt-leb (rows * length kinds) (length cells) m,
              )

          pub all_tested : {s : Bool} → rows * length kinds ≤ length cells
              → s ≡ rows_fit kinds (rows_in (length kinds) rows cells) → s ≡ fits rows kinds cells
          unfolding fits
          all_tested m f =
              rw (
                Tests.le-leb 1 (length kinds) h,
                Tests.le-leb (length kinds) 8 k,
                sym e ∙ y,
                Tests.le-leb rows 999_999_999_999 l,
                Tests.le-leb (rows * length kinds) (length cells) m,
              ) f

-- ---- fit to print, as the paper has it and as the tests have it

known_each : (kinds : List ℕ) → all_known kinds ≡ true → (j : ℕ) → j < length kinds → get_or kinds j 0 < 4
unfolding all_known
known_each [] y j h = absurd (omega (arith, h))
known_each (k ∷ kinds) y zero h = Tests.ltb-true k 4 (yes_and (ltb k 4) (all_known kinds) y).0
known_each (k ∷ kinds) y (suc j) h = known_each kinds (yes_and (ltb k 4) (all_known kinds) y).1 j (omega (arith, h))

each_known : (kinds : List ℕ) → ((j : ℕ) → j < length kinds → get_or kinds j 0 < 4) → all_known kinds ≡ true
unfolding all_known
each_known [] f = refl
each_known (k ∷ kinds) f =
    and_yes (Tests.lt-ltb k 4 (f 0 (omega arith))) (each_known kinds (λ j h. f (suc j) (omega (arith, h))))

row_each : (kinds : List ℕ) (row : Row) → row_fits kinds row ≡ true → length kinds ≤ length row → (j : ℕ)
    → j < length kinds → in_range (get_or kinds j 0) (get_or row j 0) ≡ true
unfolding row_fits
row_each [] row y w j h = absurd (omega (arith, h))
row_each (k ∷ kinds) [] y w j h = absurd (omega (arith, w))
row_each (k ∷ kinds) (a ∷ row) y w zero h = (yes_and (in_range k a) (row_fits kinds row) y).0
row_each (k ∷ kinds) (a ∷ row) y w (suc j) h =
    row_each kinds row (yes_and (in_range k a) (row_fits kinds row) y).1 (omega (arith, w)) j (omega (arith, h))

each_row : (kinds : List ℕ) (row : Row)
    → ((j : ℕ) → j < length kinds → in_range (get_or kinds j 0) (get_or row j 0) ≡ true) → row_fits kinds row ≡ true
unfolding row_fits
each_row [] row f = refl
each_row (k ∷ kinds) [] f = refl
each_row (k ∷ kinds) (a ∷ row) f =
    and_yes (f 0 (omega arith)) (each_row kinds row (λ j h. f (suc j) (omega (arith, h))))

rows_each : (kinds : List ℕ) (l : List Row) → rows_fit kinds l ≡ true → (i : ℕ) → i < length l
    → row_fits kinds (get_or l i []) ≡ true
unfolding rows_fit
rows_each kinds [] y i h = absurd (omega (arith, h))
rows_each kinds (r ∷ l) y zero h = (yes_and (row_fits kinds r) (rows_fit kinds l) y).0
rows_each kinds (r ∷ l) y (suc i) h =
    rows_each kinds l (yes_and (row_fits kinds r) (rows_fit kinds l) y).1 i (omega (arith, h))

each_rows : (kinds : List ℕ) (l : List Row) → ((i : ℕ) → i < length l → row_fits kinds (get_or l i []) ≡ true)
    → rows_fit kinds l ≡ true
unfolding rows_fit
each_rows kinds [] f = refl
each_rows kinds (r ∷ l) f =
    and_yes (f 0 (omega arith)) (each_rows kinds l (λ i h. f (suc i) (omega (arith, h))))

-- as the code tests them
same_truth : {s t : Bool} → (s ≡ true → t ≡ true) → (t ≡ true → s ≡ true) → s ≡ t
same_truth {s = true} f g = sym (f refl)
same_truth {s = false} f g = sym (not_yes (λ y. yes_no (g y) refl))

pub known_decided : (kinds : List ℕ) {t : Bool} → (t ≡ true) ↔ ((j : ℕ) → j < length kinds → get_or kinds j 0 < 4)
    → t ≡ all_known kinds
known_decided kinds h = same_truth (λ y. each_known kinds (h.0 y)) (λ y. h.1 (known_each kinds y))

pub row_decided : (kinds : List ℕ) (row : Row) {t : Bool} → length kinds ≤ length row
    → (t ≡ true) ↔ ((j : ℕ) → j < length kinds → in_range (get_or kinds j 0) (get_or row j 0) ≡ true)
    → t ≡ row_fits kinds row
row_decided kinds row w h =
    same_truth (λ y. each_row kinds row (h.0 y)) (λ y. h.1 (row_each kinds row y w))

module _ (rows : ℕ) (kinds cells : List ℕ) where
  -- the cell of row i under item j
  pub cell_at : (i j : ℕ) → i < rows → j < length kinds
      → get_or (get_or (rows_in (length kinds) rows cells) i []) j 0 ≡ get_or cells (i * length kinds + j) 0
  cell_at i j h k =
      ap (λ (r : Row). get_or r j 0) (row_of_law (length kinds) rows cells i h)
      ∙ get_or-take (length kinds) (drop (i * length kinds) cells) j 0 k
      ∙ get_or-drop (i * length kinds) cells j 0

  row_wide : (i : ℕ) → i < rows → rows * length kinds ≤ length cells
      → length kinds ≤ length (get_or (rows_in (length kinds) rows cells) i [])
  row_wide i h f =
      le_of_eq (sym (ap length (row_of_law (length kinds) rows cells i h)
      ∙ length-take-le (length kinds) (drop (i * length kinds) cells)
      (omega (arith, length-drop (i * length kinds) cells, row_inside i rows (length kinds) h f))))

  pub fits_fit : fits rows kinds cells ≡ true → FitToPrint rows kinds cells
  unfolding fits
  fits_fit y =
      let (some, y1) = yes_and (leb 1 (length kinds)) _ y in
      let (few, y2) = yes_and (leb (length kinds) 8) _ y1 in
      let (known, y3) = yes_and (all_known kinds) _ y2 in
      let (fewer, y4) = yes_and (leb rows 999_999_999_999) _ y3 in
      let (enough, all) = yes_and (leb (rows * length kinds) (length cells)) _ y4 in
      let f = Tests.leb-true (rows * length kinds) (length cells) enough in
      record {
        some_items = Tests.leb-true 1 (length kinds) some;
        few_items = Tests.leb-true (length kinds) 8 few;
        known_kinds = known_each kinds known;
        few_rows = Tests.leb-true rows 999_999_999_999 fewer;
        enough_cells = f;
        in_ranges = λ i j h k.
            subst (λ (c : ℕ). in_range (get_or kinds j 0) c ≡ true) (cell_at i j h k)
            (row_each kinds (get_or (rows_in (length kinds) rows cells) i [])
            (rows_each kinds (rows_in (length kinds) rows cells) all i
            (omega (arith, h, length_rows (length kinds) rows cells)))
            (row_wide i h f) j k);
      }

  pub fit_fits : FitToPrint rows kinds cells → fits rows kinds cells ≡ true
  unfolding fits
  fit_fits v =
      and_yes (Tests.le-leb 1 (length kinds) v.some_items)
      (and_yes (Tests.le-leb (length kinds) 8 v.few_items)
      (and_yes (each_known kinds v.known_kinds)
      (and_yes (Tests.le-leb rows 999_999_999_999 v.few_rows)
      (and_yes (Tests.le-leb (rows * length kinds) (length cells) v.enough_cells)
      (each_rows kinds (rows_in (length kinds) rows cells)
      (λ i h.
      let g : i < rows = omega (arith, h, length_rows (length kinds) rows cells) in
      each_row kinds (get_or (rows_in (length kinds) rows cells) i [])
      (λ j k. subst (λ (c : ℕ). in_range (get_or kinds j 0) c ≡ true) (sym (cell_at i j g k)) (v.in_ranges i j g k))))))))

-- rows of one name, each 0
abbrev names : ℕ → List ℕ
names rows = replicate rows 0

pub names_fit : (rows : ℕ) → rows ≤ 999_999_999_999 → FitToPrint rows (0 ∷ []) (replicate rows 0)
unfolding in_range missing
names_fit rows few = record {
  some_items = omega arith;
  few_items = omega arith;
  known_kinds = λ j h.
      let z : j ≡ 0 = omega (arith, h) in
      lt_of_le_of_lt (le_of_eq (ap (λ (n : ℕ). get_or (0 ∷ []) n 0) z)) (omega arith);
  few_rows = few;
  enough_cells = omega (arith, length-replicate {A = ℕ} rows 0);
  in_ranges = λ i j h k.
      let z : j ≡ 0 = omega (arith, k) in
      let e : i * 1 + j ≡ i = omega (arith, z) in
      ap (λ (n : ℕ). in_range (get_or (0 ∷ []) n 0) (get_or (names rows) (i * 1 + j) 0)) z
      ∙ ap (in_range 0) (ap (λ (n : ℕ). get_or (names rows) n 0) e ∙ get_or-replicate {A = ℕ} rows i 0 0 h);
}
