-- Tokens: what the code finds at a position is the token of the piece there.
-- In order: words; runs; items; constants; operators and words by their first byte; the token at a position.
-- Assumes nothing.
use mathlib.Core.Path.{◌≡◌, refl, sym, ap, ◌∙◌, subst}
use mathlib.Core.Bool.{Bool, true, false, not, ◌&&◌, cond}
use mathlib.Core.List.{List, [], ◌∷◌, ◌++◌, append_assoc}
use mathlib.Core.Option.{some}
use Prim.Native.Nat.{ℕ, zero, suc, ◌+◌, ◌≤◌}
use native.Mathlib.Omega.{arith}
use borrow.Author.Tests.{leb-true, not-true, not-false}
use lib.Dec.{leb}
use lib.ListN.{length, get_or, take, drop, length-append, take-append-drop}
use lib.Seq.{get_or-drop, length-take-le, drop-append_seam}
use Rattle.sets.proofs.Tests.{and_yes}
use Rattle.grammar.specs.Pieces.{is_capital, is_digit, is_letter_or_digit, every, last_of}
use Rattle.grammar.specs.Pieces.{Variable, blank, letter, number, Piece, item, constant, bytes_of}
use Rattle.grammar.specs.Pieces.{variable_bytes, constant_bytes, is_name, are_digits, is_variable, is_constant, is_piece, apart}
use Rattle.grammar.specs.Parser.{run, begins, item_from, constant_from, stands, found, wrong, checked}
use Rattle.text.specs.Tokens.{code_letter, name_number, magnitude, constant_token, token_of, shown, word_token}
use Rattle.text.specs.Tokens.{item_token, number_token}
use Rattle.text.specs.declared.Word.{Word as CodeWord}
use Rattle.text.specs.declared.Token.TheVariants.{NoPiece, WordAt, ItemAt, NumberAt}
use Rattle.grammar.proofs.Bytes.{run_yes, run_no, capital_counts, digit_counts, every_last, begins_append}

-- ---- words

module _ (s : List ℕ) (at : ℕ) (w : CodeWord) (text : List ℕ) (t : Bool) (e : t ≡ begins text (drop at s)) where
  pub word_not : not t ≡ true → NoPiece ≡ word_token w text (drop at s) at
  unfolding word_token
  word_not h = rw (← e, not-true t h)

  module _ (h : not t ≡ false) (u : Bool) (f : u ≡ is_letter_or_digit (get_or s (at + length text) 0)) where
    pub word_goes : u ≡ true → NoPiece ≡ word_token w text (drop at s) at
    unfolding word_token
    word_goes k = rw (← e, not-false t h, get_or-drop, ← f, k)

    pub word_is : u ≡ false → WordAt w (at + length text) ≡ word_token w text (drop at s) at
    unfolding word_token
    word_is k = rw (← e, not-false t h, get_or-drop, ← f, k)

-- ---- runs

run_le_step : (test : ℕ → Bool) (b : ℕ) (l : List ℕ) → run test l ≤ length l → (t : Bool) → test b ≡ t
    → run test (b ∷ l) ≤ length (b ∷ l)
run_le_step test b l h true e = rw (run_yes test b l e) (omega arith)
run_le_step test b l h false e = rw (run_no test b l e) (omega arith)

pub run_le : (test : ℕ → Bool) (l : List ℕ) → run test l ≤ length l
unfolding run
run_le test [] = omega arith
run_le test (b ∷ l) = run_le_step test b l (run_le test l) (test b) refl

run_every_step : (test : ℕ → Bool) (b : ℕ) (l : List ℕ) → every test (take (run test l) l) ≡ true → (t : Bool)
    → test b ≡ t → every test (take (run test (b ∷ l)) (b ∷ l)) ≡ true
unfolding every
run_every_step test b l h true e = rw (run_yes test b l e) (and_yes e h)
run_every_step test b l h false e = rw (run_no test b l e)

run_every : (test : ℕ → Bool) (l : List ℕ) → every test (take (run test l) l) ≡ true
unfolding every
run_every test [] = go (run test [])
  where
    go : (n : ℕ) → every test (take n []) ≡ true
    go zero = refl
    go (suc n) = refl
run_every test (b ∷ l) = run_every_step test b l (run_every test l) (test b) refl

-- what stands behind the run l begins with, in bytes that begin with others
module _ (test : ℕ → Bool) (vb l : List ℕ) where
  abbrev ran : List ℕ
  ran = take (run test l) l

  abbrev left : List ℕ
  left = drop (run test l) l

  pub ran_length : length ran ≡ run test l
  ran_length = length-take-le (run test l) l (run_le test l)

  ran_split : (vb ++ ran) ++ left ≡ vb ++ l
  ran_split = append_assoc vb ran left ∙ ap (λ (x : List ℕ). vb ++ x) (take-append-drop (run test l) l)

  pub ran_begins : begins (vb ++ ran) (vb ++ l) ≡ true
  ran_begins = subst (λ (x : List ℕ). begins (vb ++ ran) x ≡ true) ran_split (begins_append (vb ++ ran) left)

  pub ran_left : drop (length (vb ++ ran)) (vb ++ l) ≡ left
  ran_left = ap (drop (length (vb ++ ran))) (sym ran_split) ∙ drop-append_seam (vb ++ ran) left

  -- the byte behind the run
  pub ran_next : get_or left 0 0 ≡ get_or l (run test l) 0
  ran_next = get_or-drop (run test l) l 0 0 ∙ ap (λ (n : ℕ). get_or l n 0) (omega_zero (run test l))
    where
      omega_zero : (n : ℕ) → n + 0 ≡ n
      omega_zero n = omega arith

-- ---- items

regroup : (a b x : Bool) → ((a && (b && true)) && x) ≡ (a && (b && x))
regroup true true x = refl
regroup true false x = refl
regroup false b x = refl

-- the last byte of a name is one of its letters, whatever stands before it
last_behind : (v : Variable) (c : ℕ) (cs : List ℕ) → last_of (variable_bytes v ++ c ∷ cs) ≡ last_of (c ∷ cs)
unfolding last_of variable_bytes
last_behind blank c cs = refl
last_behind (letter b) c cs = refl

last_capital : (v : Variable) (name : List ℕ) → 1 ≤ length name → every is_capital name ≡ true
    → is_letter_or_digit (last_of (variable_bytes v ++ name)) ≡ true
last_capital v [] h e = absurd (omega arith)
last_capital v (c ∷ cs) h e =
    ap is_letter_or_digit (last_behind v c cs) ∙ capital_counts (last_of (c ∷ cs)) (every_last is_capital c cs e)

module _ (v : Variable) (l : List ℕ) (hv : is_variable v ≡ true) where
  abbrev the_item : Piece
  the_item = item (record { variable = v; name = take (run is_capital l) l })

  item_apart : 1 ≤ run is_capital l
      → apart the_item (drop (run is_capital l) l) ≡ not (is_letter_or_digit (get_or l (run is_capital l) 0))
  unfolding apart bytes_of
  item_apart h =
      rw (
        last_capital v (take (run is_capital l) l) (rw (ran_length is_capital [] l) h) (run_every is_capital l),
        ran_next is_capital [] l,
      )

  item_rest : (a b : Bool) → leb 1 (run is_capital l) ≡ a
      → (a && (b && apart the_item (drop (run is_capital l) l)))
      ≡ (a && (b && not (is_letter_or_digit (get_or l (run is_capital l) 0))))
  item_rest true b e = ap (λ (x : Bool). b && x) (item_apart (leb-true 1 (run is_capital l) e))
  item_rest false b e = refl

  item_stands : stands the_item (variable_bytes v ++ l)
      ≡ (leb 1 (run is_capital l) && (leb (run is_capital l) 12 && not (is_letter_or_digit (get_or l (run is_capital l) 0))))
  unfolding stands is_piece is_name bytes_of
  item_stands =
      rw (
        hv,
        ran_left is_capital (variable_bytes v) l,
        ran_begins is_capital (variable_bytes v) l,
        ran_length is_capital [] l,
        run_every is_capital l,
      )
      (regroup (leb 1 (run is_capital l)) (leb (run is_capital l) 12) (apart the_item (drop (run is_capital l) l))
      ∙ item_rest (leb 1 (run is_capital l)) (leb (run is_capital l) 12) refl)

  item_place : (a : ℕ) → a + length (variable_bytes v ++ take (run is_capital l) l)
      ≡ a + length (variable_bytes v) + run is_capital l
  item_place a =
      omega (arith, length-append (variable_bytes v) (take (run is_capital l) l), ran_length is_capital [] l)

  item_shown : (a : ℕ) (t : Bool)
      → shown (cond t (found the_item (a + length (bytes_of the_item))) wrong)
      ≡ cond t (ItemAt (code_letter v) (name_number (take (run is_capital l) l))
      (a + length (variable_bytes v) + run is_capital l)) NoPiece
  unfolding shown token_of bytes_of
  item_shown a true =
      ap (ItemAt (code_letter v) (name_number (take (run is_capital l) l))) (item_place a)
  item_shown a false = refl

  -- the candidate that begins with a letter, as the code finds it
  pub item_token_fact : (a : ℕ)
      → shown (checked a (variable_bytes v ++ l) (some (item_from v l)))
      ≡ item_token (code_letter v) l (a + length (variable_bytes v))
  unfolding checked item_from item_token
  item_token_fact a =
      item_shown a (stands the_item (variable_bytes v ++ l))
      ∙ ap
      (λ (t : Bool). cond t (ItemAt (code_letter v) (name_number (take (run is_capital l) l))
      (a + length (variable_bytes v) + run is_capital l)) NoPiece)
      item_stands

-- ---- constants

abbrev minus_bytes : Bool → List ℕ
minus_bytes true = 45 ∷ []
minus_bytes false = []

module _ (m : Bool) (l : List ℕ) where
  abbrev digits : List ℕ
  digits = take (run is_digit l) l

  abbrev the_constant : Piece
  the_constant = constant (number m digits)

  constant_bytes_fact : (ds : List ℕ) → constant_bytes (number m ds) ≡ minus_bytes m ++ ds
  unfolding constant_bytes
  constant_bytes_fact ds = go m
    where
      go : (b : Bool) → constant_bytes (number b ds) ≡ minus_bytes b ++ ds
      go true = refl
      go false = refl

  last_digit : (ds : List ℕ) → 1 ≤ length ds → every is_digit ds ≡ true
      → is_letter_or_digit (last_of (minus_bytes m ++ ds)) ≡ true
  unfolding last_of
  last_digit [] h e = absurd (omega arith)
  last_digit (d ∷ ds) h e = go m
    where
      go : (b : Bool) → is_letter_or_digit (last_of (minus_bytes b ++ d ∷ ds)) ≡ true
      go true = digit_counts (last_of (d ∷ ds)) (every_last is_digit d ds e)
      go false = digit_counts (last_of (d ∷ ds)) (every_last is_digit d ds e)

  constant_apart : 1 ≤ run is_digit l
      → apart the_constant (drop (run is_digit l) l) ≡ not (is_letter_or_digit (get_or l (run is_digit l) 0))
  unfolding apart bytes_of
  constant_apart h =
      rw (
        constant_bytes_fact digits,
        last_digit digits (rw (ran_length is_digit [] l) h) (run_every is_digit l),
        ran_next is_digit [] l,
      )

  constant_rest : (a : Bool) → leb 1 (run is_digit l) ≡ a
      → ((a && true) && apart the_constant (drop (run is_digit l) l))
      ≡ (a && not (is_letter_or_digit (get_or l (run is_digit l) 0)))
  constant_rest true e = constant_apart (leb-true 1 (run is_digit l) e)
  constant_rest false e = refl

  constant_stands : stands the_constant (minus_bytes m ++ l)
      ≡ (leb 1 (run is_digit l) && not (is_letter_or_digit (get_or l (run is_digit l) 0)))
  unfolding stands is_piece is_constant are_digits bytes_of
  constant_stands =
      rw (
        constant_bytes_fact digits,
        ran_left is_digit (minus_bytes m) l,
        ran_begins is_digit (minus_bytes m) l,
        ran_length is_digit [] l,
        run_every is_digit l,
      )
      (constant_rest (leb 1 (run is_digit l)) refl)

  constant_place : (a : ℕ) → a + length (constant_bytes (number m digits)) ≡ a + length (minus_bytes m) + run is_digit l
  constant_place a =
      ap (λ (x : List ℕ). a + length x) (constant_bytes_fact digits)
      ∙ omega (arith, length-append (minus_bytes m) digits, ran_length is_digit [] l)

  constant_shown : (a : ℕ) (t : Bool)
      → shown (cond t (found the_constant (a + length (bytes_of the_constant))) wrong)
      ≡ cond t (NumberAt m (magnitude digits) (a + length (minus_bytes m) + run is_digit l)) NoPiece
  unfolding shown token_of bytes_of constant_token
  constant_shown a true = ap (NumberAt m (magnitude digits)) (constant_place a)
  constant_shown a false = refl

  -- the candidate that begins with a digit or a minus, as the code finds it
  pub constant_token_fact : (a : ℕ)
      → shown (checked a (minus_bytes m ++ l) (some (constant_from m l))) ≡ number_token m l (a + length (minus_bytes m))
  unfolding checked constant_from number_token
  constant_token_fact a =
      constant_shown a (stands the_constant (minus_bytes m ++ l))
      ∙ ap (λ (t : Bool). cond t (NumberAt m (magnitude digits) (a + length (minus_bytes m) + run is_digit l)) NoPiece)
      constant_stands
