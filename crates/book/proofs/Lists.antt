-- Lists with one place changed, lists of zeros, and cells that are stored from the front.
-- Assumes nothing.
use mathlib.Core.Path.{◌≡◌, refl, sym, ap, ap₂, ◌∙◌}
use mathlib.Core.List.{List, [], ◌∷◌, ◌++◌}
use Prim.Native.Nat.{ℕ, zero, suc, ◌+◌, ◌-◌, ◌≤◌, ◌<◌, min}
use native.Mathlib.Numerals.{add-one}
use native.Mathlib.Omega.{arith}
use lib.ListN.{length, get_or, take, drop, set, replicate, length-append, length-take, length-drop, drop_of_length-le}
use lib.Seq.{take_all, drop-cons, set_at, append_snoc}
use Rattle.book.specs.Reading.{stored}

-- what holds of the new value and of every old one holds of every one
pub changed : (P : ℕ → Type 0) (l : List ℕ) (i a k : ℕ) → P a → P (get_or l k 0) → P (get_or (set l i a) k 0)
changed P [] i a k p q = q
changed P (x ∷ l) zero a zero p q = p
changed P (x ∷ l) zero a (suc k) p q = q
changed P (x ∷ l) (suc i) a zero p q = q
changed P (x ∷ l) (suc i) a (suc k) p q = changed P l i a k p q

pub get_d_zeros : (n k : ℕ) → ◌≡◌ {A = ℕ} (get_or (replicate n 0) k 0) 0
get_d_zeros zero k = refl
get_d_zeros (suc n) zero = refl
get_d_zeros (suc n) (suc k) = get_d_zeros n k

-- ---- cells that are stored from the front

pub stored_none : (cells : List ℕ) → stored [] cells ≡ cells
unfolding stored
stored_none [] = refl
stored_none (x ∷ cells) = refl

pub length_stored : (rows cells : List ℕ) → length (stored rows cells) ≡ length cells
unfolding stored
length_stored rows cells =
    length-append (take (length cells) rows) (drop (length rows) cells)
    ∙ whole (length-take (length cells) rows) (length-drop (length rows) cells)
  where
    whole : length (take (length cells) rows) ≡ min (length cells) (length rows)
        → length (drop (length rows) cells) ≡ length cells - length rows
        → length (take (length cells) rows) + length (drop (length rows) cells) ≡ length cells
    whole p q = omega arith

-- one more, where there is a cell for it
pub stored_one : (rows cells : List ℕ) (at : ℕ) → length rows < length cells
    → set (stored rows cells) (length rows) at ≡ stored (rows ++ at ∷ []) cells
unfolding stored
stored_one rows cells at h =
    let long : length (rows ++ at ∷ []) ≡ suc (length rows) = length-append rows (at ∷ []) ∙ add-one (length rows) in
    let fits : length (rows ++ at ∷ []) ≤ length cells = omega arith in
    ap₂ (λ (f g : List ℕ). set (f ++ g) (length rows) at) (take_all (length cells) rows (omega arith)) (drop-cons
    cells (length rows) 0 h)
    ∙ set_at rows (get_or cells (length rows) 0) (drop (suc (length rows)) cells) at (length rows) refl
    ∙ sym (append_snoc rows at (drop (suc (length rows)) cells))
    ∙ ap₂ (λ (f : List ℕ) (k : ℕ). f ++ drop k cells) (sym (take_all (length cells) (rows ++ at ∷ []) fits)) (sym long)

-- and where there is none, nothing changes
take_past : (n : ℕ) (rows : List ℕ) (at : ℕ) → n ≤ length rows → take n (rows ++ at ∷ []) ≡ take n rows
take_past zero rows at h = refl
take_past (suc n) [] at h = absurd (omega arith)
take_past (suc n) (x ∷ rows) at h = ap (λ (l : List ℕ). x ∷ l) (take_past n rows at (omega arith))

pub stored_full : (rows cells : List ℕ) (at : ℕ) → length cells ≤ length rows
    → stored rows cells ≡ stored (rows ++ at ∷ []) cells
unfolding stored
stored_full rows cells at h =
    let past : length cells ≤ length (rows ++ at ∷ []) = omega (arith, length-append rows (at ∷ [])) in
    ap₂ (λ (f g : List ℕ). f ++ g) (sym (take_past (length cells) rows at h))
    (drop_of_length-le cells h ∙ sym (drop_of_length-le cells past))
