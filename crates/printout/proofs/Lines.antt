-- What a text says: the words of a line, the cells of a row, the serial, the row count and the cells of an answer.
-- In order: words without spaces, lines, cells of a row, small cells, rows, the head line, answers, refusals.
-- Assumes nothing.
use mathlib.Core.Path.{◌≡◌, refl, sym, ap, ap₂, subst, ◌∙◌}
use mathlib.Core.Logic.{⊎_elim}
use mathlib.Core.List.{List, [], ◌∷◌, ◌++◌, Memᴰ, append_assoc, append-nil}
use Prim.Native.Nat.{ℕ, zero, suc, ◌+◌, ◌*◌, ◌/◌, ◌%◌, ◌^◌, ◌≤◌, ◌<◌}
use native.Mathlib.Nat.{zero-mul, suc-mul, add_comm, mod-lt, div-add-mod', div-lt_iff_lt-mul}
use native.Mathlib.Omega.{arith}
use lib.Dec.{lit<}
use lib.ListN.{length, get_or, take, drop, length-take, length-drop, get_or-eq_default}
use lib.Seq.{take-add, get_or-take, get_or-drop, length-take-le}
use Rattle.sets.proofs.Numbers.{lt_or_le}
use Rattle.values.proofs.Values.{in_range_lt}
use Rattle.sorted.specs.Rows.{Row, OfKinds, rows_in}
use Rattle.printout.specs.Decimal.{decimal, number_of, cell_text}
use Rattle.printout.specs.Lines.{behind, line, cell_texts, row_line, row_lines, head_line, answer_text, refused}
use Rattle.printout.specs.Lines.{book_refused, query_refused, FitToPrint}
use Rattle.printout.proofs.Decimal.{decimal_numeral, number_decimal, cell_byte, cell_same}

-- ---- words without spaces

-- each byte is over that of a space, so neither a space nor a line feed
data Plain : List ℕ → Type 0 where
  none : Plain []
  more : {b : ℕ} {w : List ℕ} → 32 < b → Plain w → Plain (b ∷ w)

plain_of : (w : List ℕ) → ((b : ℕ) → Memᴰ b w → 32 < b) → Plain w
plain_of [] f = none
plain_of (b ∷ w) f = more (f b (Memᴰ.head refl)) (plain_of w (λ c m. f c (Memᴰ.tail m)))

plain_decimal : (n : ℕ) → Plain (decimal n)
plain_decimal n = plain_of (decimal n) (λ b m. omega (arith, (decimal_numeral n).each b m))

-- a word ends at the first byte that is none of its own
word_same : (w v x y : List ℕ) (s t : ℕ) → Plain w → Plain v → s ≤ 32 → t ≤ 32 → w ++ s ∷ x ≡ v ++ t ∷ y
    → (w ≡ v) × ((s ≡ t) × (x ≡ y))
word_same [] [] x y s t p q h k e = (refl, (cc, cc))
word_same [] (b ∷ v) x y s t p (more g q) h k e = let f : s ≡ b = cc in absurd (omega arith)
word_same (a ∷ w) [] x y s t (more g p) q h k e = let f : a ≡ t = cc in absurd (omega arith)
word_same (a ∷ w) (b ∷ v) x y s t (more g p) (more i q) h k e =
    let (f, l) = word_same w v x y s t p q h k cc in
    let d : a ≡ b = cc in
    (ap₂ (λ (c : ℕ) (u : List ℕ). c ∷ u) d f, l)

-- ---- lines

data Plains : List (List ℕ) → Type 0 where
  none : Plains []
  more : {w : List ℕ} {ws : List (List ℕ)} → Plain w → Plains ws → Plains (w ∷ ws)

behind_small : (words : List (List ℕ)) → behind words ≤ 32
unfolding behind
behind_small [] = omega arith
behind_small (w ∷ words) = omega arith

-- the first word of a line, and what stands behind it
line_first : (w v : List ℕ) (ws vs : List (List ℕ)) (x y : List ℕ) → Plain w → Plain v
    → line (w ∷ ws) ++ x ≡ line (v ∷ vs) ++ y → (w ≡ v) × ((behind ws ≡ behind vs) × (line ws ++ x ≡ line vs ++ y))
unfolding line
line_first w v ws vs x y p q e =
    word_same w v (line ws ++ x) (line vs ++ y) (behind ws) (behind vs) p q (behind_small ws) (behind_small vs)
    (sym (append_assoc w (behind ws ∷ line ws) x) ∙ e ∙ append_assoc v (behind vs ∷ line vs) y)

-- all words of a line, and what stands behind it
line_same : (ws vs : List (List ℕ)) (x y : List ℕ) → Plains ws → Plains vs → 1 ≤ length ws → 1 ≤ length vs
    → line ws ++ x ≡ line vs ++ y → (ws ≡ vs) × (x ≡ y)
unfolding line behind
line_same [] vs x y p q h k e = absurd (omega (arith, h))
line_same (w ∷ ws) [] x y p q h k e = absurd (omega (arith, k))
line_same (w ∷ []) (v ∷ []) x y (more a p) (more b q) h k e =
    let (f, (g, i)) = line_first w v [] [] x y a b e in (ap (λ (u : List ℕ). u ∷ []) f, i)
line_same (w ∷ []) (v ∷ t ∷ vs) x y (more a p) (more b q) h k e =
    let (f, (g, i)) = line_first w v [] (t ∷ vs) x y a b e in absurd (omega (arith, g))
line_same (w ∷ u ∷ ws) (v ∷ []) x y (more a p) (more b q) h k e =
    let (f, (g, i)) = line_first w v (u ∷ ws) [] x y a b e in absurd (omega (arith, g))
line_same (w ∷ u ∷ ws) (v ∷ t ∷ vs) x y (more a p) (more b q) h k e =
    let (f, (g, i)) = line_first w v (u ∷ ws) (t ∷ vs) x y a b e in
    let (r, l) = line_same (u ∷ ws) (t ∷ vs) x y p q (omega arith) (omega arith) i in
    (ap₂ (λ (c : List ℕ) (d : List (List ℕ)). c ∷ d) f r, l)

-- ---- cells of a row

cells_plain : (kinds : List ℕ) (row : Row) → Plains (cell_texts kinds row)
unfolding cell_texts
cells_plain [] row = none
cells_plain (k ∷ kinds) [] = none
cells_plain (k ∷ kinds) (a ∷ row) =
    more (plain_of (cell_text k a) (λ b m. cell_byte k a b m)) (cells_plain kinds row)

cells_some : (kinds : List ℕ) (row : Row) → 1 ≤ length kinds → length row ≡ length kinds
    → 1 ≤ length (cell_texts kinds row)
unfolding cell_texts
cells_some [] row h w = absurd (omega (arith, h))
cells_some (k ∷ kinds) [] h w = absurd (omega (arith, w))
cells_some (k ∷ kinds) (a ∷ row) h w = omega arith

-- the row without its first cell
row_tail : {k a : ℕ} {kinds : List ℕ} {row : Row} → OfKinds (k ∷ kinds) (a ∷ row) → OfKinds kinds row
row_tail v = record { wide = omega (arith, v.wide); cells = λ i. v.cells (suc i) }

cells_same : (kinds : List ℕ) (r q : Row) → OfKinds kinds r → OfKinds kinds q → cell_texts kinds r ≡ cell_texts kinds q
    → r ≡ q
unfolding cell_texts
cells_same [] [] [] v u e = refl
cells_same [] (a ∷ r) q v u e = absurd (omega (arith, v.wide))
cells_same [] [] (b ∷ q) v u e = absurd (omega (arith, u.wide))
cells_same (k ∷ kinds) [] q v u e = absurd (omega (arith, v.wide))
cells_same (k ∷ kinds) (a ∷ r) [] v u e = absurd (omega (arith, u.wide))
cells_same (k ∷ kinds) (a ∷ r) (b ∷ q) v u e =
    let first : cell_text k a ≡ cell_text k b = cc in
    ap₂ (λ (c : ℕ) (l : Row). c ∷ l) (cell_same k (v.cells 0) (u.cells 0) first)
    (cells_same kinds r q (row_tail v) (row_tail u) cc)

row_same_front : (kinds : List ℕ) (r q : Row) (x y : List ℕ) → 1 ≤ length kinds → OfKinds kinds r → OfKinds kinds q
    → row_line kinds r ++ x ≡ row_line kinds q ++ y → (r ≡ q) × (x ≡ y)
row_same_front kinds r q x y h v u e =
    let (f, g) = line_same (cell_texts kinds r) (cell_texts kinds q) x y (cells_plain kinds r) (cells_plain kinds q)
    (cells_some kinds r h v.wide) (cells_some kinds q h u.wide) e in
    (cells_same kinds r q v u f, g)

pub row_same : (kinds : List ℕ) (r q : Row) → OfKinds kinds r → OfKinds kinds q → row_line kinds r ≡ row_line kinds q
    → r ≡ q
row_same [] r q v u e = no_cells r v.wide ∙ sym (no_cells q u.wide)
  where
    no_cells : (l : Row) → length l ≡ 0 → l ≡ []
    no_cells [] w = refl
    no_cells (a ∷ l) w = absurd (omega (arith, w))
row_same (k ∷ kinds) r q v u e =
    (row_same_front (k ∷ kinds) r q [] [] (omega arith) v u
    (append-nil (row_line (k ∷ kinds) r) ∙ e ∙ sym (append-nil (row_line (k ∷ kinds) q)))).0

-- ---- small cells

-- the first n cells are below 2 ^ 32
abbrev pub SmallCells : ℕ → List ℕ → Type 0
SmallCells n cells = (i : ℕ) → i < n → get_or cells i 0 < 2 ^ 32

pub fit_small : (rows : ℕ) (kinds cells : List ℕ) → FitToPrint rows kinds cells
    → SmallCells (rows * length kinds) cells
fit_small rows kinds cells v i h =
    subst (λ (n : ℕ). get_or cells n 0 < 2 ^ 32) (div-add-mod' i (length kinds))
    (in_range_lt (get_or kinds (i % length kinds) 0) _
    (v.in_ranges (i / length kinds) (i % length kinds) ((div-lt_iff_lt-mul v.some_items).1 h)
    (mod-lt i v.some_items)))

-- the first of several rows, and the others
module _ (w n : ℕ) (cells : List ℕ) where
  pub first_small : SmallCells (suc n * w) cells → (i : ℕ) → get_or (take w cells) i 0 < 2 ^ 32
  first_small s i =
      ⊎_elim
      (λ (l : i < w). subst (λ (c : ℕ). c < 2 ^ 32) (sym (get_or-take w cells i 0 l)) (s i (omega (arith, suc-mul n w))))
      (λ (l : w ≤ i). subst (λ (c : ℕ). c < 2 ^ 32)
      (sym (get_or-eq_default (take w cells) 0 (omega (arith, length-take w cells)))) (lit< tt))
      (lt_or_le i w)

  pub rest_small : SmallCells (suc n * w) cells → SmallCells (n * w) (drop w cells)
  rest_small s i l =
      subst (λ (c : ℕ). c < 2 ^ 32) (sym (get_or-drop w cells i 0)) (s (w + i) (omega (arith, suc-mul n w)))

-- ---- rows

pub first_of_kinds : (kinds : List ℕ) (n : ℕ) (cells : List ℕ) → suc n * length kinds ≤ length cells
    → SmallCells (suc n * length kinds) cells → OfKinds kinds (take (length kinds) cells)
first_of_kinds kinds n cells f s = record {
  wide = length-take-le (length kinds) cells (omega (arith, f, suc-mul n (length kinds)));
  cells = first_small (length kinds) n cells s;
}

rows_same : (kinds : List ℕ) → 1 ≤ length kinds → (n : ℕ) (c d : List ℕ) → n * length kinds ≤ length c
    → n * length kinds ≤ length d → SmallCells (n * length kinds) c → SmallCells (n * length kinds) d
    → row_lines kinds (rows_in (length kinds) n c) ≡ row_lines kinds (rows_in (length kinds) n d)
    → take (n * length kinds) c ≡ take (n * length kinds) d
unfolding row_lines rows_in
rows_same kinds h zero c d f g s t e =
    ap (λ (m : ℕ). take m c) (zero-mul (length kinds)) ∙ sym (ap (λ (m : ℕ). take m d) (zero-mul (length kinds)))
rows_same kinds h (suc n) c d f g s t e =
    let (r, l) = row_same_front kinds (take (length kinds) c) (take (length kinds) d)
    (row_lines kinds (rows_in (length kinds) n (drop (length kinds) c)))
    (row_lines kinds (rows_in (length kinds) n (drop (length kinds) d))) h
    (first_of_kinds kinds n c f s) (first_of_kinds kinds n d g t) e in
    let rest = rows_same kinds h n (drop (length kinds) c) (drop (length kinds) d)
    (omega (arith, f, suc-mul n (length kinds), length-drop (length kinds) c))
    (omega (arith, g, suc-mul n (length kinds), length-drop (length kinds) d))
    (rest_small (length kinds) n c s) (rest_small (length kinds) n d t) l in
    parts c ∙ ap₂ (λ (x y : List ℕ). x ++ y) r rest ∙ sym (parts d)
  where
    parts : (x : List ℕ)
        → take (suc n * length kinds) x ≡ take (length kinds) x ++ take (n * length kinds) (drop (length kinds) x)
    parts x =
        ap (λ (m : ℕ). take m x) (suc-mul n (length kinds) ∙ add_comm (n * length kinds) (length kinds))
        ∙ take-add (length kinds) (n * length kinds) x

-- ---- the head line

number_same : (m n : ℕ) → decimal m ≡ decimal n → m ≡ n
number_same m n e = sym (number_decimal m) ∙ ap number_of e ∙ number_decimal n

head_same : (serial rows serial' rows' : ℕ) (x y : List ℕ)
    → head_line serial rows ++ x ≡ head_line serial' rows' ++ y → (serial ≡ serial') × ((rows ≡ rows') × (x ≡ y))
unfolding head_line
head_same serial rows serial' rows' x y e =
    let (f, g) = line_same (words serial rows) (words serial' rows') x y (plains serial rows) (plains serial' rows')
    (omega arith) (omega arith) e in
    (number_same serial serial' cc, (number_same rows rows' cc, g))
  where
    words : ℕ → ℕ → List (List ℕ)
    words s r = (81 ∷ []) ∷ decimal s ∷ (114 ∷ 111 ∷ 119 ∷ 115 ∷ []) ∷ decimal r ∷ []

    plains : (s r : ℕ) → Plains ((81 ∷ []) ∷ decimal s ∷ (114 ∷ 111 ∷ 119 ∷ 115 ∷ []) ∷ decimal r ∷ [])
    plains s r =
        more (more (lit< tt) none) (more (plain_decimal s)
        (more (more (lit< tt) (more (lit< tt) (more (lit< tt) (more (lit< tt) none)))) (more (plain_decimal r) none)))

-- ---- answers

pub answer_same : (kinds cells cells' : List ℕ) (serial rows serial' rows' : ℕ) → FitToPrint rows kinds cells
    → FitToPrint rows' kinds cells' → answer_text serial rows kinds cells ≡ answer_text serial' rows' kinds cells'
    → (serial ≡ serial')
    × ((rows ≡ rows') × (take (rows * length kinds) cells ≡ take (rows * length kinds) cells'))
unfolding answer_text
answer_same kinds cells cells' serial rows serial' rows' v u e =
    let (f, (g, l)) = head_same serial rows serial' rows' (row_lines kinds (rows_in (length kinds) rows cells))
    (row_lines kinds (rows_in (length kinds) rows' cells')) e in
    let u' = subst (λ (n : ℕ). FitToPrint n kinds cells') (sym g) u in (
      f,
      (
        g,
        rows_same kinds v.some_items rows cells cells' v.enough_cells u'.enough_cells
            (fit_small rows kinds cells v) (fit_small rows kinds cells' u')
            (l ∙ ap (λ (n : ℕ). row_lines kinds (rows_in (length kinds) n cells')) (sym g)),
      ),
    )

-- ---- refusals

refused_same : (word : List ℕ) (m n : ℕ) → Plain word
    → line (word ∷ refused ∷ decimal m ∷ []) ≡ line (word ∷ refused ∷ decimal n ∷ []) → m ≡ n
refused_same word m n p e =
    let (f, g) = line_same (word ∷ refused ∷ decimal m ∷ []) (word ∷ refused ∷ decimal n ∷ []) [] []
    (plains m) (plains n) (omega arith) (omega arith) (append-nil _ ∙ e ∙ sym (append-nil _)) in
    number_same m n cc
  where
    plains : (k : ℕ) → Plains (word ∷ refused ∷ decimal k ∷ [])
    plains k =
        more p (more (more (lit< tt) (more (lit< tt) (more (lit< tt) (more (lit< tt) (more (lit< tt) (more (lit< tt)
        (more (lit< tt) none))))))) (more (plain_decimal k) none))

pub book_same : (m n : ℕ) → book_refused m ≡ book_refused n → m ≡ n
unfolding book_refused
book_same m n e =
    refused_same (98 ∷ 111 ∷ 111 ∷ 107 ∷ []) m n
    (more (lit< tt) (more (lit< tt) (more (lit< tt) (more (lit< tt) none)))) e

pub query_same : (m n : ℕ) → query_refused m ≡ query_refused n → m ≡ n
unfolding query_refused
query_same m n e =
    refused_same (113 ∷ 117 ∷ 101 ∷ 114 ∷ 121 ∷ []) m n
    (more (lit< tt) (more (lit< tt) (more (lit< tt) (more (lit< tt) (more (lit< tt) none))))) e

-- the first bytes of the three sorts of text
pub answer_first : (serial rows : ℕ) (kinds cells : List ℕ) → get_or (answer_text serial rows kinds cells) 0 0 ≡ 81
unfolding answer_text head_line line
answer_first serial rows kinds cells = refl

pub book_first : (n : ℕ) → get_or (book_refused n) 0 0 ≡ 98
unfolding book_refused line
book_first n = refl

pub query_first : (n : ℕ) → get_or (query_refused n) 0 0 ≡ 113
unfolding query_refused line
query_first n = refl
