-- What the loops and searches over bytes find: what is left gives what the whole gives.
-- In order: tests of a byte; runs; a text that stands; names; values.
-- Assumes nothing.
use mathlib.Core.Path.{◌≡◌, refl, sym, ap, ◌∙◌}
use mathlib.Core.Bool.{Bool, true, false, ◌&&◌, ◌||◌, cond}
use mathlib.Core.List.{List, [], ◌∷◌}
use Prim.Native.Nat.{ℕ, suc, ◌+◌, ◌-◌, ◌*◌, ◌^◌, ◌≤◌, ◌<◌, min}
use native.Mathlib.Nat.{pow-le-pow_right, pow-suc}
use native.Mathlib.Numerals.{add-one}
use native.Mathlib.Omega.{arith}
use borrow.Author.Tests.{lt-leb, le-leb}
use lib.Dec.{leb, eqb}
use lib.ListN.{length, get_or, take, drop, length-drop, drop_of_length-le}
use lib.Pointwise.{pointwise}
use lib.Seq.{drop-cons, take-length}
use mir.Val.{Fits}
use mir.Syntax.{w64}
use Rattle.std.specs.Char.{is_ascii_alphanumeric}
use Rattle.std.specs.List.{prefix_len, starts_with}
use Rattle.grammar.specs.Pieces.{between, is_capital, is_small, is_digit, is_letter_or_digit}
use Rattle.grammar.specs.Parser.{run, begins}
use Rattle.text.specs.Tokens.{name_from, name_number, value_from, magnitude}

-- ---- tests of a byte

pub between_below : (first last b : ℕ) → b < first → leb first b ≡ between first last b
unfolding between
between_below first last b h = rw (lt-leb first b h)

pub between_there : (first last b : ℕ) → first ≤ b → leb b last ≡ between first last b
unfolding between
between_there first last b h = rw (le-leb first b h)

in_turn : (x y z : Bool) → ((x || y) || z) ≡ (y || (z || x))
in_turn true true z = refl
in_turn true false true = refl
in_turn true false false = refl
in_turn false true z = refl
in_turn false false true = refl
in_turn false false false = refl

pub goes_same : (b : ℕ) → is_ascii_alphanumeric b ≡ is_letter_or_digit b
unfolding is_letter_or_digit is_capital is_small is_digit between
goes_same b = in_turn (leb 48 b && leb b 57) (leb 65 b && leb b 90) (leb 97 b && leb b 122)

-- ---- runs

pub drop_inside : (s : List ℕ) (i : ℕ) → i < length s → drop i s ≡ get_or s i 0 ∷ drop (i + 1) s
drop_inside s i h = rw (drop-cons s i 0, ← add-one i)

-- what stands from a position on
pub rest_whole : (s : List ℕ) (at : ℕ) → take (length s - at) (drop at s) ≡ drop at s
rest_whole s at = rw (← length-drop at s) (take-length (drop at s))

-- as many bytes as pass before the first that does not
module _ (test : ℕ → Bool) where
  run_step : (t : Bool) (n m : ℕ) → n ≡ m → elim t [ true ↦ suc n | false ↦ 0 ] ≡ cond t (1 + m) 0
  run_step true n m e = omega arith
  run_step false n m e = refl

  run_prefix : (l : List ℕ) → run test l ≡ prefix_len test l
  unfolding run
  run_prefix [] = refl
  run_prefix (b ∷ l) = run_step (test b) (run test l) _ (run_prefix l)

module _ (first last : ℕ) (s : List ℕ) (at : ℕ) where
  pub run_counts : {n : ℕ} → n ≡ prefix_len (between first last) (take (length s - at) (drop at s))
      → n ≡ run (between first last) (drop at s)
  run_counts e =
      e ∙ ap (prefix_len (between first last)) (rest_whole s at) ∙ sym (run_prefix (between first last) (drop at s))

-- ---- a text that stands

begins_pointwise : (bs l : List ℕ) → pointwise eqb bs (take (length bs) l) ≡ begins bs l
unfolding begins
begins_pointwise [] l = refl
begins_pointwise (b ∷ bs) [] = refl
begins_pointwise (b ∷ bs) (c ∷ l) = ap (λ (t : Bool). eqb b c && t) (begins_pointwise bs l)

pub begins_is : (s text : List ℕ) (at : ℕ) (t : Bool) → t ≡ starts_with eqb (take (length s - at) (drop at s)) text
    → t ≡ begins text (drop at s)
begins_is s text at t e =
    e ∙ ap (λ (l : List ℕ). pointwise eqb text (take (length text) l)) (rest_whole s at)
    ∙ begins_pointwise text (drop at s)

-- ---- names

-- the number so far and the letters left give the whole
pub record Naming (l : List ℕ) (m i : ℕ) : Type 0 where
  pub small : m + 16 ≤ 16 * 27 ^ i
  pub same : name_number l ≡ name_from m (drop i l)

-- twelve letters
letters_room : (m k : ℕ) → k < 12 → m + 16 ≤ 16 * 27 ^ k → m + 16 ≤ 16 * 27 ^ 11
letters_room m k h e = omega (arith, e, pow-le-pow_right {n = 27} (omega arith) {i = k} {j = 11} (omega arith))

module _ (l : List ℕ) where
  pub naming_start : Naming l 0 0
  unfolding name_number
  naming_start = record { small = omega arith; same = refl }

  module _ (m i : ℕ) (n : Naming l m i) (h : i < length l) (few : length l ≤ 12) where
    room : m + 16 ≤ 16 * 27 ^ 11
    room = letters_room m i (omega arith) n.small

    pub naming_times : Fits w64 (m * 27)
    naming_times = omega (arith, room)

    pub naming_fits : (d : ℕ) → d < 256 → Fits w64 (m * 27 + d)
    naming_fits d k = omega (arith, room)

    pub naming_next : (d : ℕ) → d ≡ get_or l i 0 - 64 → d < 256 → Naming l (m * 27 + d) (i + 1)
    unfolding name_from
    naming_next d e k = record {
      small = rw (ap (λ (j : ℕ). 27 ^ j) (add-one i), pow-suc) (omega (arith, n.small));
      same = n.same ∙ ap (name_from m) (drop_inside l i h)
          ∙ ap (λ (x : ℕ). name_from (m * 27 + x) (drop (i + 1) l)) (sym e);
    }

  pub naming_ends : (m i : ℕ) → Naming l m i → length l ≤ i → m ≡ name_number l
  unfolding name_from
  naming_ends m i n h = sym (n.same ∙ ap (name_from m) (drop_of_length-le l h))

-- ---- values

-- a value beyond the bound is known only to be so
capped_on : (x : ℕ) (ds : List ℕ) → min (value_from x ds) (2 ^ 32) ≡ min (value_from (min x (2 ^ 32)) ds) (2 ^ 32)
unfolding value_from
capped_on x [] = omega arith
capped_on x (d ∷ ds) =
    capped_on (x * 10 + (d - 48)) ds
    ∙ ap (λ (y : ℕ). min (value_from y ds) (2 ^ 32)) same
    ∙ sym (capped_on (min x (2 ^ 32) * 10 + (d - 48)) ds)
  where
    same : min (x * 10 + (d - 48)) (2 ^ 32) ≡ min (min x (2 ^ 32) * 10 + (d - 48)) (2 ^ 32)
    same = omega arith

-- the value so far and the digits left give the whole, up to the bound
pub record Valuing (l : List ℕ) (m i : ℕ) : Type 0 where
  pub small : m ≤ 2 ^ 32
  pub same : magnitude l ≡ min (value_from m (drop i l)) (2 ^ 32)

module _ (l : List ℕ) where
  pub valuing_start : Valuing l 0 0
  unfolding magnitude
  valuing_start = record { small = omega arith; same = refl }

  module _ (m i : ℕ) (v : Valuing l m i) where
    pub valuing_times : Fits w64 (m * 10)
    valuing_times = omega (arith, v.small)

    pub valuing_fits : (d : ℕ) → d < 256 → Fits w64 (m * 10 + d)
    valuing_fits d k = omega (arith, v.small)

    pub valuing_next : i < length l → (d r : ℕ) → d ≡ get_or l i 0 - 48 → r ≡ min (m * 10 + d) (2 ^ 32)
        → Valuing l r (i + 1)
    unfolding value_from
    valuing_next h d r e f = record {
      small = omega arith;
      same = v.same
          ∙ ap (λ (x : List ℕ). min (value_from m x) (2 ^ 32)) (drop_inside l i h)
          ∙ capped_on (m * 10 + (get_or l i 0 - 48)) (drop (i + 1) l)
          ∙ ap (λ (y : ℕ). min (value_from y (drop (i + 1) l)) (2 ^ 32))
          (ap (λ (x : ℕ). min (m * 10 + x) (2 ^ 32)) (sym e) ∙ sym f);
    }

    pub valuing_ends : length l ≤ i → m ≡ magnitude l
    unfolding value_from
    valuing_ends h =
        let done : min (value_from m (drop i l)) (2 ^ 32) ≡ min m (2 ^ 32) =
        ap (λ (x : List ℕ). min (value_from m x) (2 ^ 32)) (drop_of_length-le l h) in
        omega (arith, v.same, done, v.small)
