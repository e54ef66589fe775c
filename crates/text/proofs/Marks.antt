-- Words, marks and operators by their first byte; what the functions that find a piece give at each return.
-- In order: a word; the words and marks; the operators; no piece; items and constants at their returns.
-- Assumes nothing.
use mathlib.Core.Path.{◌≡◌, refl, sym, ap, ap₂, ◌∙◌, subst}
use mathlib.Core.Bool.{Bool, true, false, not, ◌&&◌, cond}
use mathlib.Core.List.{List, [], ◌∷◌}
use mathlib.Core.Option.{Option, none, some}
use Prim.Native.Nat.{ℕ, ◌+◌, ◌-◌, ◌≤◌, ◌<◌}
use native.Mathlib.Omega.{arith}
use borrow.Author.Tests.{lt-leb, le-leb, eq-eqb, ne_eqb}
use lib.Dec.{eqb}
use Rattle.std.proofs.Common.{Option as CodeOption}
use lib.ListN.{length, get_or, take, drop, get_or-eq_default}
use lib.Seq.{get_or-drop}
use mathlib.Core.Logic.{⊎_elim}
use Rattle.sets.proofs.Numbers.{eq_or_ne}
use Rattle.grammar.specs.Pieces.{between, is_capital, is_small, is_digit, is_letter_or_digit, last_of, Word, Retrieve, Where}
use Rattle.grammar.specs.Pieces.{Not, And, Or, Piece, word, word_bytes, operator_bytes, bytes_of}
use Rattle.grammar.specs.Pieces.{is_piece, apart, operator, Less, Greater}
use Rattle.grammar.specs.Parser.{run, begins, fixed, first_of, stands, found, wrong, checked}
use Rattle.text.specs.Tokens.{code_word, code_operator, name_number, magnitude, token_of, shown, word_token, item_token}
use Rattle.text.specs.Tokens.{number_token, fixed_token}
use Rattle.text.specs.declared.Operator.{Operator as CodeOperator}
use Rattle.text.specs.declared.Operator.TheVariants as Sign
use Rattle.text.specs.declared.Word.{Word as CodeWord}
use Rattle.text.specs.declared.Word.TheVariants as Code
use Rattle.text.specs.declared.Token.{Token}
use Rattle.text.specs.declared.Token.TheVariants.{NoPiece, WordAt, OperatorAt, ItemAt, NumberAt}
use Rattle.text.proofs.Scanning.{drop_inside}

-- ---- a word that ends in a letter

module _ (w : Word) (l : List ℕ) (h : is_letter_or_digit (last_of (word_bytes w)) ≡ true) where
  word_apart : apart (word w) (drop (length (word_bytes w)) l) ≡ not (is_letter_or_digit (get_or l (length (word_bytes w)) 0))
  unfolding apart bytes_of
  word_apart = rw (h, get_or-drop) (ap (λ (n : ℕ). not (is_letter_or_digit (get_or l n 0))) there)
    where
      there : length (word_bytes w) + 0 ≡ length (word_bytes w)
      there = omega arith

  word_shown : (a : ℕ) (t : Bool) → shown (cond t (found (word w) (a + length (word_bytes w))) wrong)
      ≡ cond t (WordAt (code_word w) (a + length (word_bytes w))) NoPiece
  unfolding shown token_of
  word_shown a true = refl
  word_shown a false = refl

  word_case : (a : ℕ) (t : Bool) → begins (word_bytes w) l ≡ t
      → shown (checked a l (elim t [ true ↦ some (word w) | false ↦ none ]))
      ≡ word_token (code_word w) (word_bytes w) l a
  unfolding checked stands is_piece bytes_of word_token shown
  word_case a true e =
      word_shown a (begins (word_bytes w) l && apart (word w) (drop (length (word_bytes w)) l))
      ∙ ap (λ (t : Bool). cond (begins (word_bytes w) l && t) (WordAt (code_word w) (a + length (word_bytes w))) NoPiece)
      word_apart
  word_case a false e = rw e

  word_token_fact : (a : ℕ)
      → shown (checked a l (elim (begins (word_bytes w) l) [ true ↦ some (word w) | false ↦ none ]))
      ≡ word_token (code_word w) (word_bytes w) l a
  word_token_fact a = word_case a (begins (word_bytes w) l) refl

-- ---- the words and marks

-- bytes from a position on, whose first byte is known
front : (s : List ℕ) (at b : ℕ) → at < length s → get_or s at 0 ≡ b → drop at s ≡ b ∷ drop (at + 1) s
front s at b h e = drop_inside s at h ∙ ap (λ (c : ℕ). c ∷ drop (at + 1) s) e

module _ (l : List ℕ) (at : ℕ) where
  retrieve_front : word_token Code.Retrieve (114 ∷ 101 ∷ 116 ∷ 114 ∷ 105 ∷ 101 ∷ 118 ∷ 101 ∷ []) (114 ∷ l) at ≡ fixed_token (114 ∷ l) at
  unfolding fixed_token first_of fixed begins bytes_of word_bytes operator_bytes code_word
  retrieve_front = sym (word_token_fact Retrieve (114 ∷ l) (unfold is_letter_or_digit last_of is_capital is_small is_digit in refl) at)

  where_front : word_token Code.Where (119 ∷ 104 ∷ 101 ∷ 114 ∷ 101 ∷ []) (119 ∷ l) at ≡ fixed_token (119 ∷ l) at
  unfolding fixed_token first_of fixed begins bytes_of word_bytes operator_bytes code_word
  where_front = sym (word_token_fact Where (119 ∷ l) (unfold is_letter_or_digit last_of is_capital is_small is_digit in refl) at)

  not_front : word_token Code.Not (110 ∷ 111 ∷ 116 ∷ []) (110 ∷ l) at ≡ fixed_token (110 ∷ l) at
  unfolding fixed_token first_of fixed begins bytes_of word_bytes operator_bytes code_word
  not_front = sym (word_token_fact Not (110 ∷ l) (unfold is_letter_or_digit last_of is_capital is_small is_digit in refl) at)

  and_front : word_token Code.And (97 ∷ 110 ∷ 100 ∷ []) (97 ∷ l) at ≡ fixed_token (97 ∷ l) at
  unfolding fixed_token first_of fixed begins bytes_of word_bytes operator_bytes code_word
  and_front = sym (word_token_fact And (97 ∷ l) (unfold is_letter_or_digit last_of is_capital is_small is_digit in refl) at)

  or_front : word_token Code.Or (111 ∷ 114 ∷ []) (111 ∷ l) at ≡ fixed_token (111 ∷ l) at
  unfolding fixed_token first_of fixed begins bytes_of word_bytes operator_bytes code_word
  or_front = sym (word_token_fact Or (111 ∷ l) (unfold is_letter_or_digit last_of is_capital is_small is_digit in refl) at)

  opening_front : WordAt Code.Open (at + 1) ≡ fixed_token (40 ∷ l) at
  unfolding fixed_token first_of fixed begins bytes_of word_bytes operator_bytes code_word checked stands is_piece apart shown
      token_of is_letter_or_digit last_of is_capital is_small is_digit
  opening_front = refl

  closing_front : WordAt Code.Close (at + 1) ≡ fixed_token (41 ∷ l) at
  unfolding fixed_token first_of fixed begins bytes_of word_bytes operator_bytes code_word checked stands is_piece apart shown
      token_of is_letter_or_digit last_of is_capital is_small is_digit
  closing_front = refl

  comma_front : WordAt Code.Comma (at + 1) ≡ fixed_token (44 ∷ l) at
  unfolding fixed_token first_of fixed begins bytes_of word_bytes operator_bytes code_word checked stands is_piece apart shown
      token_of is_letter_or_digit last_of is_capital is_small is_digit
  comma_front = refl

  equal_front : OperatorAt Sign.Equal (at + 1) ≡ fixed_token (61 ∷ l) at
  unfolding fixed_token first_of fixed begins bytes_of word_bytes operator_bytes checked stands is_piece apart shown token_of
      code_operator is_letter_or_digit last_of is_capital is_small is_digit
  equal_front = refl

-- ---- the operators that begin with `<` and `>`

pub headed : (l : List ℕ) (b : ℕ) → (b ≡ 0 → ⊥) → get_or l 0 0 ≡ b → l ≡ b ∷ drop 1 l
headed [] b n e = absurd (n (sym e))
headed (c ∷ l) b n e = λ i. e i ∷ l

module _ (c : ℕ) (l : List ℕ) where
  first_greater : eqb 61 c ≡ false → first_of fixed (62 ∷ c ∷ l) ≡ some (operator Greater)
  unfolding first_of fixed begins bytes_of word_bytes operator_bytes
  first_greater e = rw (e, first_of)

  first_less : eqb 62 c ≡ false → eqb 61 c ≡ false → first_of fixed (60 ∷ c ∷ l) ≡ some (operator Less)
  unfolding first_of fixed begins bytes_of word_bytes operator_bytes
  first_less e f = rw (e, f, first_of)

module _ (at : ℕ) where
  greater_equal : (l : List ℕ) → OperatorAt Sign.AtLeast (at + 2) ≡ fixed_token (62 ∷ 61 ∷ l) at
  unfolding fixed_token first_of fixed begins bytes_of word_bytes operator_bytes checked stands is_piece apart shown token_of
      code_operator is_letter_or_digit last_of is_capital is_small is_digit
  greater_equal l = refl

  less_greater : (l : List ℕ) → OperatorAt Sign.Unequal (at + 2) ≡ fixed_token (60 ∷ 62 ∷ l) at
  unfolding fixed_token first_of fixed begins bytes_of word_bytes operator_bytes checked stands is_piece apart shown token_of
      code_operator is_letter_or_digit last_of is_capital is_small is_digit
  less_greater l = refl

  less_equal : (l : List ℕ) → OperatorAt Sign.AtMost (at + 2) ≡ fixed_token (60 ∷ 61 ∷ l) at
  unfolding fixed_token first_of fixed begins bytes_of word_bytes operator_bytes checked stands is_piece apart shown token_of
      code_operator is_letter_or_digit last_of is_capital is_small is_digit
  less_equal l = refl

  greater_alone : (l : List ℕ) → (get_or l 0 0 ≡ 61 → ⊥) → OperatorAt Sign.Greater (at + 1) ≡ fixed_token (62 ∷ l) at
  unfolding fixed_token first_of fixed begins bytes_of word_bytes operator_bytes checked stands is_piece apart shown token_of
      code_operator is_letter_or_digit last_of is_capital is_small is_digit
  greater_alone [] h = refl
  greater_alone (c ∷ l) h =
      sym (ap (λ (x : Option Piece). shown (checked at (62 ∷ c ∷ l) x))
      (first_greater c l (ne_eqb 61 c (λ e. h (sym e)))))

  less_alone : (l : List ℕ) → (get_or l 0 0 ≡ 62 → ⊥) → (get_or l 0 0 ≡ 61 → ⊥)
      → OperatorAt Sign.Less (at + 1) ≡ fixed_token (60 ∷ l) at
  unfolding fixed_token first_of fixed begins bytes_of word_bytes operator_bytes checked stands is_piece apart shown token_of
      code_operator is_letter_or_digit last_of is_capital is_small is_digit
  less_alone [] h k = refl
  less_alone (c ∷ l) h k =
      sym (ap (λ (x : Option Piece). shown (checked at (60 ∷ c ∷ l) x))
      (first_less c l (ne_eqb 62 c (λ e. h (sym e))) (ne_eqb 61 c (λ e. k (sym e)))))

  greater_front : (l : List ℕ)
      → cond (eqb (get_or l 0 0) 61) (OperatorAt Sign.AtLeast (at + 2)) (OperatorAt Sign.Greater (at + 1)) ≡ fixed_token (62 ∷ l) at
  greater_front l = ⊎_elim
      (λ (e : get_or l 0 0 ≡ 61). rw (eq-eqb (get_or l 0 0) 61 e)
      (greater_equal (drop 1 l)
      ∙ ap (λ (x : List ℕ). fixed_token (62 ∷ x) at) (sym (headed l 61 (λ z. absurd (omega arith)) e))))
      (λ (n : get_or l 0 0 ≡ 61 → ⊥). rw (ne_eqb (get_or l 0 0) 61 n) (greater_alone l n))
      (eq_or_ne (get_or l 0 0) 61)

  less_front : (l : List ℕ) → (get_or l 0 0 ≡ 62 → ⊥)
      → cond (eqb (get_or l 0 0) 61) (OperatorAt Sign.AtMost (at + 2)) (OperatorAt Sign.Less (at + 1)) ≡ fixed_token (60 ∷ l) at
  less_front l h = ⊎_elim
      (λ (e : get_or l 0 0 ≡ 61). rw (eq-eqb (get_or l 0 0) 61 e)
      (less_equal (drop 1 l)
      ∙ ap (λ (x : List ℕ). fixed_token (60 ∷ x) at) (sym (headed l 61 (λ z. absurd (omega arith)) e))))
      (λ (n : get_or l 0 0 ≡ 61 → ⊥). rw (ne_eqb (get_or l 0 0) 61 n) (less_alone l h n))
      (eq_or_ne (get_or l 0 0) 61)

  two_front : (l : List ℕ) → get_or l 0 0 ≡ 62 → OperatorAt Sign.Unequal (at + 2) ≡ fixed_token (60 ∷ l) at
  two_front l e = less_greater (drop 1 l)
      ∙ ap (λ (x : List ℕ). fixed_token (60 ∷ x) at) (sym (headed l 62 (λ z. absurd (omega arith)) e))

-- ---- no piece

first_none : (b : ℕ) (l : List ℕ) → eqb 114 b ≡ false → eqb 119 b ≡ false → eqb 110 b ≡ false → eqb 97 b ≡ false
    → eqb 111 b ≡ false → eqb 40 b ≡ false → eqb 41 b ≡ false → eqb 44 b ≡ false → eqb 60 b ≡ false
    → eqb 62 b ≡ false → eqb 61 b ≡ false → first_of fixed (b ∷ l) ≡ none
unfolding first_of fixed begins bytes_of word_bytes operator_bytes
first_none b l n1 n2 n3 n4 n5 n6 n7 n8 n9 n10 n11 =
    rw (n1, first_of) (rw n2 (rw n3 (rw n4 (rw n5 (rw n6 (rw n7 (rw n8 (rw n9 (rw n9 (rw n10 (rw n9 (rw n10
    (rw n11)))))))))))))

other_front : (b : ℕ) (l : List ℕ) (at : ℕ) → (b ≡ 114 → ⊥) → (b ≡ 119 → ⊥) → (b ≡ 110 → ⊥) → (b ≡ 97 → ⊥)
    → (b ≡ 111 → ⊥) → (b ≡ 40 → ⊥) → (b ≡ 41 → ⊥) → (b ≡ 44 → ⊥) → (b ≡ 60 → ⊥) → (b ≡ 62 → ⊥) → (b ≡ 61 → ⊥)
    → NoPiece ≡ fixed_token (b ∷ l) at
unfolding fixed_token checked shown
other_front b l at n1 n2 n3 n4 n5 n6 n7 n8 n9 n10 n11 =
    sym (ap (λ (x : Option Piece). shown (checked at (b ∷ l) x)) nothing)
  where
    no : (k : ℕ) → (b ≡ k → ⊥) → eqb k b ≡ false
    no k n = ne_eqb k b (λ e. n (sym e))

    nothing : first_of fixed (b ∷ l) ≡ none
    nothing = first_none b l (no 114 n1) (no 119 n2) (no 110 n3) (no 97 n4) (no 111 n5) (no 40 n6) (no 41 n7) (no 44 n8)
        (no 60 n9) (no 62 n10) (no 61 n11)

-- ---- at a position of the text

pub next_byte : (s : List ℕ) (at : ℕ) → get_or (drop (at + 1) s) 0 0 ≡ get_or s (at + 1) 0
next_byte s at = get_or-drop (at + 1) s 0 0 ∙ ap (λ (n : ℕ). get_or s n 0) there
  where
    there : at + 1 + 0 ≡ at + 1
    there = omega arith

module _ (s : List ℕ) (at : ℕ) (h : at < length s) where
  -- what is so of the bytes that begin with b is so at a position where b stands
  at_front : (b : ℕ) (P : List ℕ → Type 0) → get_or s at 0 ≡ b → P (b ∷ drop (at + 1) s) → P (drop at s)
  at_front b P e p = subst P (sym (front s at b h e)) p

  at_word : (w : CodeWord) (b : ℕ) (text : List ℕ) (r : Token)
      → ((l : List ℕ) → word_token w text (b ∷ l) at ≡ fixed_token (b ∷ l) at) → get_or s at 0 ≡ b
      → r ≡ word_token w text (drop at s) at → r ≡ fixed_token (drop at s) at
  at_word w b text r k e f =
      f ∙ at_front b (λ l. word_token w text l at ≡ fixed_token l at) e (k (drop (at + 1) s))

  pub fixed_retrieve : (r : Token) → get_or s at 0 ≡ 114
      → r ≡ word_token Code.Retrieve (114 ∷ 101 ∷ 116 ∷ 114 ∷ 105 ∷ 101 ∷ 118 ∷ 101 ∷ []) (drop at s) at → r ≡ fixed_token (drop at s) at
  fixed_retrieve r e f = at_word Code.Retrieve 114 (114 ∷ 101 ∷ 116 ∷ 114 ∷ 105 ∷ 101 ∷ 118 ∷ 101 ∷ []) r (λ l. retrieve_front l at) e f

  pub fixed_where : (r : Token) → get_or s at 0 ≡ 119
      → r ≡ word_token Code.Where (119 ∷ 104 ∷ 101 ∷ 114 ∷ 101 ∷ []) (drop at s) at → r ≡ fixed_token (drop at s) at
  fixed_where r e f = at_word Code.Where 119 (119 ∷ 104 ∷ 101 ∷ 114 ∷ 101 ∷ []) r (λ l. where_front l at) e f

  pub fixed_not : (r : Token) → get_or s at 0 ≡ 110
      → r ≡ word_token Code.Not (110 ∷ 111 ∷ 116 ∷ []) (drop at s) at → r ≡ fixed_token (drop at s) at
  fixed_not r e f = at_word Code.Not 110 (110 ∷ 111 ∷ 116 ∷ []) r (λ l. not_front l at) e f

  pub fixed_and : (r : Token) → get_or s at 0 ≡ 97
      → r ≡ word_token Code.And (97 ∷ 110 ∷ 100 ∷ []) (drop at s) at → r ≡ fixed_token (drop at s) at
  fixed_and r e f = at_word Code.And 97 (97 ∷ 110 ∷ 100 ∷ []) r (λ l. and_front l at) e f

  pub fixed_or : (r : Token) → get_or s at 0 ≡ 111
      → r ≡ word_token Code.Or (111 ∷ 114 ∷ []) (drop at s) at → r ≡ fixed_token (drop at s) at
  fixed_or r e f = at_word Code.Or 111 (111 ∷ 114 ∷ []) r (λ l. or_front l at) e f

  pub fixed_opening : get_or s at 0 ≡ 40 → WordAt Code.Open (at + 1) ≡ fixed_token (drop at s) at
  fixed_opening e = at_front 40 (λ l. WordAt Code.Open (at + 1) ≡ fixed_token l at) e (opening_front _ at)

  pub fixed_closing : get_or s at 0 ≡ 41 → WordAt Code.Close (at + 1) ≡ fixed_token (drop at s) at
  fixed_closing e = at_front 41 (λ l. WordAt Code.Close (at + 1) ≡ fixed_token l at) e (closing_front _ at)

  pub fixed_comma : get_or s at 0 ≡ 44 → WordAt Code.Comma (at + 1) ≡ fixed_token (drop at s) at
  fixed_comma e = at_front 44 (λ l. WordAt Code.Comma (at + 1) ≡ fixed_token l at) e (comma_front _ at)

  pub fixed_equal : get_or s at 0 ≡ 61 → OperatorAt Sign.Equal (at + 1) ≡ fixed_token (drop at s) at
  fixed_equal e = at_front 61 (λ l. OperatorAt Sign.Equal (at + 1) ≡ fixed_token l at) e (equal_front _ at)

  pub fixed_greater : (r : Token) → get_or s at 0 ≡ 62
      → r ≡ cond (eqb (get_or s (at + 1) 0) 61) (OperatorAt Sign.AtLeast (at + 2)) (OperatorAt Sign.Greater (at + 1))
      → r ≡ fixed_token (drop at s) at
  fixed_greater r e f =
      f ∙ ap (λ (b : ℕ). cond (eqb b 61) (OperatorAt Sign.AtLeast (at + 2)) (OperatorAt Sign.Greater (at + 1))) (sym (next_byte s at))
      ∙ greater_front at (drop (at + 1) s) ∙ ap (λ (l : List ℕ). fixed_token l at) (sym (front s at 62 h e))

  module _ (e : get_or s at 0 ≡ 60) (b : ℕ) (g : b ≡ get_or s (at + 1) 0) where
    pub fixed_two : b ≡ 62 → OperatorAt Sign.Unequal (at + 2) ≡ fixed_token (drop at s) at
    fixed_two k =
        two_front at (drop (at + 1) s) (next_byte s at ∙ sym g ∙ k)
        ∙ ap (λ (l : List ℕ). fixed_token l at) (sym (front s at 60 h e))

    pub fixed_less : (r : Token) → (b ≡ 62 → ⊥)
        → r ≡ cond (eqb (get_or s (at + 1) 0) 61) (OperatorAt Sign.AtMost (at + 2)) (OperatorAt Sign.Less (at + 1))
        → r ≡ fixed_token (drop at s) at
    fixed_less r n f =
        f ∙ ap (λ (c : ℕ). cond (eqb c 61) (OperatorAt Sign.AtMost (at + 2)) (OperatorAt Sign.Less (at + 1))) (sym (next_byte s at))
        ∙ less_front at (drop (at + 1) s) (λ k. n (g ∙ sym (next_byte s at) ∙ k))
        ∙ ap (λ (l : List ℕ). fixed_token l at) (sym (front s at 60 h e))

  pub fixed_other : (b : ℕ) → b ≡ get_or s at 0 → (b ≡ 114 → ⊥) → (b ≡ 119 → ⊥) → (b ≡ 110 → ⊥) → (b ≡ 97 → ⊥)
      → (b ≡ 111 → ⊥) → (b ≡ 40 → ⊥) → (b ≡ 41 → ⊥) → (b ≡ 44 → ⊥) → (b ≡ 60 → ⊥) → (b ≡ 62 → ⊥) → (b ≡ 61 → ⊥)
      → NoPiece ≡ fixed_token (drop at s) at
  fixed_other b e n1 n2 n3 n4 n5 n6 n7 n8 n9 n10 n11 =
      at_front b (λ l. NoPiece ≡ fixed_token l at) (sym e)
      (other_front b (drop (at + 1) s) at n1 n2 n3 n4 n5 n6 n7 n8 n9 n10 n11)

-- ---- items and constants at their returns

module _ (s : List ℕ) (from end : ℕ) (e : end ≡ from + run (between 65 90) (drop from s)) where
  letters : run is_capital (drop from s) ≡ end - from
  unfolding is_capital
  letters = omega arith

  pub item_none : (v : CodeOption ℕ) → end ≡ from → NoPiece ≡ item_token v (drop from s) from
  unfolding item_token
  item_none v h = let z : run is_capital (drop from s) ≡ 0 = omega (arith, letters) in rw z

  pub item_long : (v : CodeOption ℕ) → 12 < end - from → NoPiece ≡ item_token v (drop from s) from
  unfolding item_token
  item_long v h = rw (
    letters,
    le-leb 1 (end - from) (omega arith),
    lt-leb (end - from) 12 h,
  )

  module _ (n : end ≡ from → ⊥) (h : end - from ≤ 12) (u : Bool) (f : u ≡ is_letter_or_digit (get_or s end 0)) where
    behind_run : get_or (drop from s) (end - from) 0 ≡ get_or s end 0
    behind_run = get_or-drop from s (end - from) 0 ∙ ap (λ (k : ℕ). get_or s k 0) there
      where
        there : from + (end - from) ≡ end
        there = omega arith

    pub item_goes : (v : CodeOption ℕ) → u ≡ true → NoPiece ≡ item_token v (drop from s) from
    unfolding item_token
    item_goes v k = rw (
      letters,
      le-leb 1 (end - from) (omega arith),
      le-leb (end - from) 12 h,
      behind_run,
      ← f,
      k,
    )

    pub item_is : (v : CodeOption ℕ) (m : ℕ) → u ≡ false → m ≡ name_number (take (end - from) (drop from s))
        → ItemAt v m end ≡ item_token v (drop from s) from
    unfolding item_token
    item_is v m k g =
        let there : end ≡ from + (end - from) = omega arith in
        rw (letters, le-leb 1 (end - from) (omega arith), le-leb (end - from) 12 h, behind_run, ← f, k)
        (ap₂ (ItemAt v) g there)

module _ (s : List ℕ) (from end : ℕ) (e : end ≡ from + run (between 48 57) (drop from s)) where
  digits : run is_digit (drop from s) ≡ end - from
  unfolding is_digit
  digits = omega arith

  pub constant_none : (minus : Bool) → end ≡ from → NoPiece ≡ number_token minus (drop from s) from
  unfolding number_token
  constant_none minus h = let z : run is_digit (drop from s) ≡ 0 = omega (arith, digits) in rw z

  module _ (n : end ≡ from → ⊥) (u : Bool) (f : u ≡ is_letter_or_digit (get_or s end 0)) where
    behind_digits : get_or (drop from s) (end - from) 0 ≡ get_or s end 0
    behind_digits = get_or-drop from s (end - from) 0 ∙ ap (λ (k : ℕ). get_or s k 0) there
      where
        there : from + (end - from) ≡ end
        there = omega arith

    pub constant_goes : (minus : Bool) → u ≡ true → NoPiece ≡ number_token minus (drop from s) from
    unfolding number_token
    constant_goes minus k = rw (digits, le-leb 1 (end - from) (omega arith), behind_digits, ← f, k)

    pub constant_is : (minus : Bool) (m : ℕ) → u ≡ false → m ≡ magnitude (take (end - from) (drop from s))
        → NumberAt minus m end ≡ number_token minus (drop from s) from
    unfolding number_token
    constant_is minus m k g =
        let there : end ≡ from + (end - from) = omega arith in
        rw (digits, le-leb 1 (end - from) (omega arith), behind_digits, ← f, k) (ap₂ (NumberAt minus) g there)

pub outside : (s : List ℕ) (at : ℕ) → length s ≤ at → 0 ≡ get_or s at 0
outside s at h = sym (get_or-eq_default s 0 h)

module _ (s : List ℕ) (at : ℕ) (alone equal : CodeOperator) (b : ℕ) (e : b ≡ get_or s (at + 1) 0) where
  pub equal_behind : b ≡ 61 → OperatorAt equal (at + 2)
      ≡ cond (eqb (get_or s (at + 1) 0) 61) (OperatorAt equal (at + 2)) (OperatorAt alone (at + 1))
  equal_behind h = rw (← e, eq-eqb b 61 h)

  pub no_equal_behind : (b ≡ 61 → ⊥) → OperatorAt alone (at + 1)
      ≡ cond (eqb (get_or s (at + 1) 0) 61) (OperatorAt equal (at + 2)) (OperatorAt alone (at + 1))
  no_equal_behind n = rw (← e, ne_eqb b 61 n)
