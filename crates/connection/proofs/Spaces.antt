-- A space with rows of w cells each in front: they can be read back, and the cells behind them are as they were.
-- In order: the cells of rows, the space with them.
-- Assumes nothing.
use mathlib.Core.Path.{◌≡◌, refl, sym, ap, ap₂, ◌∙◌}
use mathlib.Core.List.{List, [], ◌∷◌, ◌++◌, append_assoc, Memᴰ}
use Prim.Native.Nat.{ℕ, ◌+◌, ◌*◌, ◌≤◌}
use native.Mathlib.Nat.{add_comm, zero-mul, suc-mul}
use native.Mathlib.Omega.{arith}
use lib.ListN.{length, take, drop, length-append, length-drop}
use lib.Seq.{take_at, drop_at}
use Rattle.sorted.specs.Rows.{Row, rows_in, cells_of, with_rows}
use Rattle.sorted.proofs.Placed.{with_fits}

module _ (w : ℕ) where
  abbrev pub AllWide : List Row → Type 0
  AllWide l = (r : Row) → Memᴰ r l → length r ≡ w

  -- ---- the cells of rows

  cells_long : (l : List Row) → AllWide l → length (cells_of l) ≡ length l * w
  unfolding cells_of
  cells_long [] h = sym (zero-mul w)
  cells_long (r ∷ l) h =
      length-append r (cells_of l)
      ∙ ap₂ ◌+◌ (h r (Memᴰ.head refl)) (cells_long l (λ q m. h q (Memᴰ.tail m)))
      ∙ add_comm w (length l * w) ∙ sym (suc-mul (length l) w)

  rows_of_cells : (l : List Row) (rest : List ℕ) → AllWide l → rows_in w (length l) (cells_of l ++ rest) ≡ l
  unfolding rows_in cells_of
  rows_of_cells [] rest h = refl
  rows_of_cells (r ∷ l) rest h =
      let e : length r ≡ w = h r (Memᴰ.head refl) in
      ap (λ (cells : List ℕ). take w cells ∷ rows_in w (length l) (drop w cells)) (append_assoc r (cells_of l) rest)
      ∙ ap₂ {A = Row} {B = List ℕ} (λ front behind. front ∷ rows_in w (length l) behind)
      (take_at r (cells_of l ++ rest) w e) (drop_at r (cells_of l ++ rest) w e)
      ∙ ap (λ (rows : List Row). r ∷ rows) (rows_of_cells l rest (λ q m. h q (Memᴰ.tail m)))

  -- ---- the space with them

  module _ (l : List Row) (space : List ℕ) (wide : AllWide l) (fit : length l * w ≤ length space) where
    pub rows_back : rows_in w (length l) (with_rows w l space) ≡ l
    rows_back =
        ap (rows_in w (length l)) (with_fits w l space fit) ∙ rows_of_cells l (drop (length l * w) space) wide

    pub behind_kept : drop (length l * w) (with_rows w l space) ≡ drop (length l * w) space
    behind_kept =
        ap (drop (length l * w)) (with_fits w l space fit)
        ∙ drop_at (cells_of l) (drop (length l * w) space) (length l * w) (cells_long l wide)

    pub as_long : length (with_rows w l space) ≡ length space
    as_long =
        ap length (with_fits w l space fit) ∙ length-append (cells_of l) (drop (length l * w) space)
        ∙ ap₂ ◌+◌ (cells_long l wide) (length-drop (length l * w) space) ∙ omega (arith, fit)
