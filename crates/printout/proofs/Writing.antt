-- Bytes written in their place, one text behind the other.
-- In order: texts written, a text of which a part is written, bytes of a text, numbers, digits counted, cells.
-- Assumes nothing.
use mathlib.Core.Path.{◌≡◌, refl, sym, ap, ap₂, ◌∙◌}
use mathlib.Core.Bool.{Bool, true, false}
use mathlib.Core.List.{List, [], ◌∷◌, ◌++◌, append_assoc, append-nil}
use Prim.Native.Nat.{ℕ, ◌+◌, ◌-◌, ◌/◌, ◌%◌, ◌^◌, ◌≤◌, ◌<◌}
use native.Mathlib.Nat.{add-zero}
use native.Mathlib.Numerals.{add-one}
use native.Mathlib.Omega.{arith}
use lib.ListN.{length, take, drop, set, length-append, length-drop, take-append-drop, get_or}
use lib.Seq.{take_at, drop_at, length-take-le, drop-drop, set_split, drop-cons}
use Rattle.values.specs.Values.{missing}
use Rattle.printout.specs.Decimal.{decimal, value_text, cell_text}
use Rattle.printout.specs.Printing.{written}
use Rattle.printout.proofs.Decimal.{decimal_small, decimal_large, decimal_short, minus}
use Rattle.printout.proofs.Decimal.{value_minus, value_no_minus, cell_missing, cell_stated}

-- ---- texts written

written_none : (at : ℕ) (bytes : List ℕ) → written at [] bytes ≡ bytes
unfolding written
written_none at bytes =
    ap (λ (n : ℕ). take at bytes ++ drop n bytes) (add-zero at) ∙ take-append-drop at bytes

pub written_byte : (at b : ℕ) (bytes : List ℕ) → at < length bytes → set bytes at b ≡ written at (b ∷ []) bytes
unfolding written
written_byte at b bytes h =
    set_split bytes at b h ∙ ap (λ (n : ℕ). take at bytes ++ b ∷ drop n bytes) (sym (add-one at))

-- a text written over a part lent
pub written_part : (at end : ℕ) (text bytes : List ℕ) {part : List ℕ} → end ≡ at + length text → part ≡ text
    → take at bytes ++ (part ++ drop (end - at) (drop at bytes)) ≡ written at text bytes
unfolding written
written_part at end text bytes p q =
    ap₂ (λ (l m : List ℕ). take at bytes ++ (l ++ m)) q
    (drop-drop (end - at) at bytes ∙ ap (λ (n : ℕ). drop n bytes) {x = at + (end - at)} {y = at + length text} (omega arith))

written_length : (at : ℕ) (text bytes : List ℕ) → at + length text ≤ length bytes
    → length (written at text bytes) ≡ length bytes
unfolding written
written_length at text bytes h =
    length-append (take at bytes) (text ++ drop (at + length text) bytes)
    ∙ omega (
      arith,
      length-take-le at bytes (omega arith),
      length-append text (drop (at + length text) bytes),
      length-drop (at + length text) bytes,
    )

module _ (at : ℕ) (s t bytes : List ℕ) (h : at + length s ≤ length bytes) where
  abbrev left : List ℕ
  left = drop (at + length s) bytes

  long : length (take at bytes ++ s) ≡ at + length s
  long = length-append (take at bytes) s ∙ ap (λ (n : ℕ). n + length s) (length-take-le at bytes (omega arith))

  front : take (at + length s) (take at bytes ++ (s ++ left)) ≡ take at bytes ++ s
  front =
      ap (take (at + length s)) (sym (append_assoc (take at bytes) s left))
      ∙ take_at (take at bytes ++ s) left (at + length s) long

  back : drop (at + length s + length t) (take at bytes ++ (s ++ left)) ≡ drop (at + length (s ++ t)) bytes
  back =
      sym (drop-drop (length t) (at + length s) (take at bytes ++ (s ++ left)))
      ∙ ap (drop (length t)) (ap (drop (at + length s)) (sym (append_assoc (take at bytes) s left))
      ∙ drop_at (take at bytes ++ s) left (at + length s) long)
      ∙ drop-drop (length t) (at + length s) bytes
      ∙ ap (λ (n : ℕ). drop n bytes) sum
    where
      sum : at + length s + length t ≡ at + length (s ++ t)
      sum = omega (arith, length-append s t)

  -- a text and another behind it are the two as one
  written_both : written (at + length s) t (written at s bytes) ≡ written at (s ++ t) bytes
  unfolding written
  written_both =
      ap₂ (λ (x y : List ℕ). x ++ (t ++ y)) front back
      ∙ append_assoc (take at bytes) s (t ++ drop (at + length (s ++ t)) bytes)
      ∙ ap (λ (x : List ℕ). take at bytes ++ x) (sym (append_assoc s t (drop (at + length (s ++ t)) bytes)))

-- ---- a text of which a part is written

-- of the text, which goes to the place `from` of the bytes e, what stands before `rest` is written; `at` is behind it
pub record Writing (from : ℕ) (text e : List ℕ) (at : ℕ) (rest bytes : List ℕ) : Type 0 where
  pub done : List ℕ
  pub whole : done ++ rest ≡ text
  pub here : at ≡ from + length done
  pub room : from + length text ≤ length e
  pub so_far : bytes ≡ written from done e

module _ (from : ℕ) (text e : List ℕ) where
  pub writing_start : from + length text ≤ length e → Writing from text e from text e
  writing_start h = record {
    done = [];
    whole = refl;
    here = sym (add-zero from);
    room = h;
    so_far = sym (written_none from e);
  }

  module _ {at : ℕ} {bytes : List ℕ} where
    pub writing_length : {rest : List ℕ} → Writing from text e at rest bytes → length bytes ≡ length e
    writing_length {rest = rest} v =
        ap length v.so_far
        ∙ written_length from v.done e (omega (arith, ap length v.whole, length-append v.done rest, v.room))

    -- the rest fits behind what is written
    pub writing_room : {rest : List ℕ} → Writing from text e at rest bytes → at + length rest ≤ length bytes
    writing_room {rest = rest} v =
        omega (arith, ap length v.whole, length-append v.done rest, writing_length v, v.room)

    -- a piece more
    pub writing_next : {rest : List ℕ} → Writing from text e at rest bytes
        → (piece left : List ℕ) {to : ℕ} {out : List ℕ} → rest ≡ piece ++ left → to ≡ at + length piece
        → out ≡ written at piece bytes → Writing from text e to left out
    writing_next {rest = rest} v piece left {to = to} {out = out} r p w = record {
      done = v.done ++ piece;
      whole = append_assoc v.done piece left ∙ ap (λ (l : List ℕ). v.done ++ l) (sym r) ∙ v.whole;
      here = omega (arith, length-append v.done piece);
      room = v.room;
      so_far =
          w
          ∙ ap₂ (λ (n : ℕ) (l : List ℕ). written n piece l) v.here v.so_far
          ∙ written_both from v.done piece e (omega (
            arith,
            ap length v.whole,
            length-append v.done rest,
            ap length r,
            length-append piece left,
          ));
    }

    pub writing_end : Writing from text e at [] bytes → (at ≡ from + length text) × (bytes ≡ written from text e)
    writing_end v =
        let all = sym (append-nil v.done) ∙ v.whole in
        (v.here ∙ ap (λ (l : List ℕ). from + length l) all, v.so_far ∙ ap (λ (l : List ℕ). written from l e) all)

-- ---- bytes of a text

-- a byte more
pub text_next : (from : ℕ) (text e : List ℕ) {i at : ℕ} {bytes : List ℕ} → Writing from text e at (drop i text) bytes
    → {to b : ℕ} {out : List ℕ} → i < length text → b ≡ get_or text i 0 → to ≡ at + 1
    → out ≡ written at (b ∷ []) bytes → Writing from text e to (drop (i + 1) text) out
text_next from text e {i = i} v {b = b} h s p w =
    writing_next from text e v (b ∷ []) (drop (i + 1) text)
    (drop-cons text i 0 h ∙ ap₂ (λ (x n : ℕ). x ∷ drop n text) (sym s) (sym (add-one i))) p w

-- ---- numbers written

module _ (x at : ℕ) (e : List ℕ) where
  pub small_room : at + length (decimal x) ≤ length e → x < 10 → at < length e
  small_room room h = omega (arith, ap length (decimal_small h))

  pub small_written : {to d : ℕ} {out : List ℕ} → x < 10 → d ≡ 48 + x → to ≡ at + 1 → out ≡ written at (d ∷ []) e
      → (to ≡ at + length (decimal x)) × (out ≡ written at (decimal x) e)
  small_written h p q w =
      let one = ap (λ (d : ℕ). d ∷ []) p ∙ sym (decimal_small h) in
      (q ∙ ap (λ (l : List ℕ). at + length l) one, w ∙ ap (λ (l : List ℕ). written at l e) one)

  module _ (h : 10 ≤ x) (room : at + length (decimal x) ≤ length e) where
    tenth_length : length (decimal x) ≡ length (decimal (x / 10)) + 1
    tenth_length = ap length (decimal_large h) ∙ length-append (decimal (x / 10)) ((48 + x % 10) ∷ [])

    pub tenth_room : at + length (decimal (x / 10)) ≤ length e
    tenth_room = omega (arith, tenth_length)

    module _ {end : ℕ} {mid : List ℕ} (p : end ≡ at + length (decimal (x / 10)))
        (w : mid ≡ written at (decimal (x / 10)) e) where
      pub last_room : end < length mid
      last_room = omega (arith, tenth_length, ap length w, written_length at (decimal (x / 10)) e tenth_room)

      pub large_written : {to d : ℕ} {out : List ℕ} → d ≡ 48 + x % 10 → to ≡ end + 1 → out ≡ written end (d ∷ []) mid
          → (to ≡ at + length (decimal x)) × (out ≡ written at (decimal x) e)
      large_written f q v =
          writing_end at (decimal x) e (writing_next at (decimal x) e
          (writing_next at (decimal x) e (writing_start at (decimal x) e room) (decimal (x / 10))
          ((48 + x % 10) ∷ []) (decimal_large h) p w)
          ((48 + x % 10) ∷ []) [] refl q (v ∙ ap (λ (b : ℕ). written end (b ∷ []) mid) f))

-- ---- digits counted

-- n counts the last digits of x and one more; `left` has the others
pub record DigitsCounted (x left n : ℕ) : Type 0 where
  pub sum : n + length (decimal left) ≡ length (decimal x) + 1
  pub inside : n + left ≤ x + 1

pub digits_start : (x : ℕ) → DigitsCounted x x 1
digits_start x = record { sum = omega arith; inside = omega arith }

module _ {x left n : ℕ} (v : DigitsCounted x left n) where
  pub digits_next : 10 ≤ left → DigitsCounted x (left / 10) (n + 1)
  digits_next h = record {
    sum = omega (
      arith,
      v.sum,
      ap length (decimal_large h),
      length-append (decimal (left / 10)) ((48 + left % 10) ∷ []),
    );
    inside = omega (arith, v.inside);
  }

  pub digits_end : left < 10 → n ≡ length (decimal x)
  digits_end h = omega (arith, v.sum, ap length (decimal_small h))

  pub digits_few : left < 10 → x < 2 ^ 64 → n ≤ 20
  digits_few h f = omega (arith, digits_end h, decimal_short 19 x (omega arith))

-- ---- cells

-- the cell as the code has it, the number w
module _ (kind cell at : ℕ) (e : List ℕ) (room : at + length (value_text kind cell) ≤ length e)
    {t : Bool} (m : t ≡ minus kind cell) {w : ℕ} (s : (w ≡ cell) × (w < 2 ^ 32)) where
  module _ (y : t ≡ true) {next : ℕ} {mid : List ℕ} (p : next ≡ at + 1) (v : mid ≡ written at (45 ∷ []) e) where
    -- the minus is written, the digits are left
    minus_written : Writing at (value_text kind cell) e next (decimal (2 ^ 32 - w)) mid
    minus_written =
        writing_next at (value_text kind cell) e (writing_start at (value_text kind cell) e room) (45 ∷ [])
        (decimal (2 ^ 32 - w)) (value_minus kind cell m s y) p v

    pub digits_room : next + length (decimal (2 ^ 32 - w)) ≤ length mid
    digits_room = writing_room at (value_text kind cell) e minus_written

    pub digits_written : {to : ℕ} {out : List ℕ} → to ≡ next + length (decimal (2 ^ 32 - w))
        → out ≡ written next (decimal (2 ^ 32 - w)) mid
        → (to ≡ at + length (value_text kind cell)) × (out ≡ written at (value_text kind cell) e)
    digits_written q u =
        writing_end at (value_text kind cell) e (writing_next at (value_text kind cell) e minus_written
        (decimal (2 ^ 32 - w)) [] (sym (append-nil (decimal (2 ^ 32 - w)))) q u)

  module _ (y : t ≡ false) where
    pub plain_room : at + length (decimal w) ≤ length e
    plain_room = omega (arith, ap length (value_no_minus kind cell m s y))

    pub plain_written : {to : ℕ} {out : List ℕ} → to ≡ at + length (decimal w) → out ≡ written at (decimal w) e
        → (to ≡ at + length (value_text kind cell)) × (out ≡ written at (value_text kind cell) e)
    plain_written q u =
        let same = sym (value_no_minus kind cell m s y) in
        (q ∙ ap (λ (l : List ℕ). at + length l) same, u ∙ ap (λ (l : List ℕ). written at l e) same)

-- there is room for the minus
pub minus_room : (kind cell at : ℕ) (e : List ℕ) → at + length (value_text kind cell) ≤ length e
    → {t : Bool} → t ≡ minus kind cell → t ≡ true → cell < 2 ^ 32 → at < length e
minus_room kind cell at e room m y h = omega (arith, ap length (value_minus kind cell m (refl, h) y))

-- a missing cell, and one that is there
module _ (kind cell at : ℕ) (e : List ℕ) (room : at + length (cell_text kind cell) ≤ length e) {t : Bool}
    (g : t ≡ missing kind cell) where
  pub missing_room : t ≡ true → at < length e
  missing_room y = omega (arith, ap length (cell_missing kind cell (sym g ∙ y)))

  pub missing_written : t ≡ true → {to : ℕ} {out : List ℕ} → to ≡ at + 1 → out ≡ written at (45 ∷ []) e
      → (to ≡ at + length (cell_text kind cell)) × (out ≡ written at (cell_text kind cell) e)
  missing_written y q u =
      let same = sym (cell_missing kind cell (sym g ∙ y)) in
      (q ∙ ap (λ (l : List ℕ). at + length l) same, u ∙ ap (λ (l : List ℕ). written at l e) same)

  pub value_room : t ≡ false → at + length (value_text kind cell) ≤ length e
  value_room y = omega (arith, ap length (cell_stated kind cell (sym g ∙ y)))

  pub value_written : t ≡ false → {to : ℕ} {out : List ℕ} → to ≡ at + length (value_text kind cell)
      → out ≡ written at (value_text kind cell) e
      → (to ≡ at + length (cell_text kind cell)) × (out ≡ written at (cell_text kind cell) e)
  value_written y q u =
      let same = sym (cell_stated kind cell (sym g ∙ y)) in
      (q ∙ ap (λ (l : List ℕ). at + length l) same, u ∙ ap (λ (l : List ℕ). written at l e) same)
