-- The token at a position, by the bytes that stand there behind spaces.
-- In order: behind the spaces; each way to begin.
-- Assumes nothing.
use mathlib.Core.Path.{◌≡◌, refl, sym, ap, ◌∙◌}
use mathlib.Core.Bool.{Bool, true, false, ◌&&◌}
use mathlib.Core.List.{List, ◌∷◌}
use mathlib.Core.Option.{Option, some}
use Prim.Native.Nat.{ℕ, ◌+◌, ◌≤◌, ◌<◌}
use native.Mathlib.Omega.{arith}
use native.Mathlib.Decide.{dec_lt}
use borrow.Author.Tests.{eq-eqb, ne_eqb, leb-true, le-leb, lt-leb}
use lib.Dec.{leb}
use Rattle.std.proofs.Common.{Some, None}
use Rattle.sets.proofs.Tests.{yes_and}
use lib.ListN.{length, get_or, drop, drop_of_length-le}
use lib.Seq.{drop-drop}
use Rattle.grammar.specs.Pieces.{between, is_capital, is_small, is_digit, is_space, blank, letter, variable_bytes, is_variable}
use Rattle.grammar.specs.Pieces.{Piece}
use Rattle.grammar.specs.Parser.{run, item_from, constant_from, fixed, first_of, candidate, checked, next_front, next_at}
use Rattle.text.specs.Tokens.{code_letter, shown, token_at, item_token, number_token, fixed_token}
use Rattle.text.specs.declared.Token.{Token}
use Rattle.text.specs.declared.Token.TheVariants.{AtEnd}
use Rattle.text.proofs.Scanning.{drop_inside}
use Rattle.text.proofs.Marks.{headed, next_byte, outside}
use Rattle.text.proofs.Tokens.{item_token_fact, constant_token_fact}

-- ---- the candidate by the first byte

module _ (b : ℕ) (l : List ℕ) (n : between 65 90 b ≡ false) where
  candidate_dotted : (l' : List ℕ) → between 97 122 b ≡ true → l ≡ 46 ∷ l'
      → candidate (b ∷ l) ≡ some (item_from (letter b) l')
  unfolding candidate is_capital is_small
  candidate_dotted l' y e = rw (e, n, y)

  candidate_small : between 97 122 b ≡ true → (get_or l 0 0 ≡ 46 → ⊥) → candidate (b ∷ l) ≡ first_of fixed (b ∷ l)
  unfolding candidate is_capital is_small is_digit between
  candidate_small y k =
      let above : 97 ≤ b = leb-true 97 b (yes_and (leb 97 b) (leb b 122) y).0 in
      rw (
        n,
        y,
        ne_eqb (get_or l 0 0) 46 k,
        le-leb 48 b (omega arith),
        lt-leb b 57 (omega arith),
        ne_eqb b 45 (λ z. absurd (omega arith)),
      )

  module _ (m : between 97 122 b ≡ false) where
    candidate_digit : between 48 57 b ≡ true → candidate (b ∷ l) ≡ some (constant_from false (b ∷ l))
    unfolding candidate is_capital is_small is_digit
    candidate_digit y = rw (n, m, y)

    candidate_minus : between 48 57 b ≡ false → b ≡ 45 → candidate (b ∷ l) ≡ some (constant_from true l)
    unfolding candidate is_capital is_small is_digit
    candidate_minus w k = rw (n, m, w, eq-eqb b 45 k)

    candidate_fixed : between 48 57 b ≡ false → (b ≡ 45 → ⊥) → candidate (b ∷ l) ≡ first_of fixed (b ∷ l)
    unfolding candidate is_capital is_small is_digit
    candidate_fixed w k = rw (n, m, w, ne_eqb b 45 k)

-- ---- behind the spaces

module _ (s : List ℕ) (at start : ℕ) (e : start ≡ at + run (between 32 32) (drop at s)) where
  token_front : token_at s at ≡ shown (next_front start (drop start s))
  unfolding token_at next_at is_space
  token_front =
      rw (drop-drop (run (between 32 32) (drop at s)) at s)
      (ap (λ (n : ℕ). shown (next_front n (drop n s))) (sym e))

  pub token_end : length s ≤ start → AtEnd ≡ token_at s at
  unfolding next_front shown
  token_end h = sym (token_front ∙ ap (λ (l : List ℕ). shown (next_front start l)) (drop_of_length-le s h))

  module _ (h : start < length s) (b : ℕ) (eb : b ≡ get_or s start 0) where
    abbrev rest : List ℕ
    rest = drop (start + 1) s

    here : drop start s ≡ b ∷ rest
    here = drop_inside s start h ∙ ap (λ (c : ℕ). c ∷ rest) (sym eb)

    token_begun : token_at s at ≡ shown (checked start (b ∷ rest) (candidate (b ∷ rest)))
    unfolding next_front
    token_begun = token_front ∙ ap (λ (l : List ℕ). shown (next_front start l)) here

    -- ---- each way to begin

    token_case : (x : Option Piece) → candidate (b ∷ rest) ≡ x → token_at s at ≡ shown (checked start (b ∷ rest) x)
    token_case x f = token_begun ∙ ap (λ (y : Option Piece). shown (checked start (b ∷ rest) y)) f

    module _ (t : Bool) (et : t ≡ between 65 90 b) where
      pub token_capital : (r : Token) → t ≡ true → r ≡ item_token None (drop start s) start → r ≡ token_at s at
      unfolding candidate is_capital is_variable variable_bytes code_letter
      token_capital r y f =
          f ∙ ap (λ (l : List ℕ). item_token None l start) here
          ∙ ap (item_token None (b ∷ rest)) zero_more
          ∙ sym (token_case (some (item_from blank (b ∷ rest))) (rw (sym et ∙ y)) ∙ item_token_fact blank (b ∷ rest) refl start)
        where
          zero_more : start ≡ start + 0
          zero_more = omega arith

      module _ (n : t ≡ false) (u : Bool) (eu : u ≡ between 97 122 b) where
        pub token_dotted : (r : Token) (c : ℕ) → u ≡ true → c ≡ get_or s (start + 1) 0 → c ≡ 46
            → r ≡ item_token (Some b) (drop (start + 2) s) (start + 2) → r ≡ token_at s at
        unfolding variable_bytes code_letter is_variable is_small
        token_dotted r c y ec k f =
            f ∙ sym (token_case (some (item_from (letter b) (drop (start + 2) s)))
            (candidate_dotted b rest (sym et ∙ n) (drop (start + 2) s) (sym eu ∙ y) split)
            ∙ ap (λ (l : List ℕ). shown (checked start (b ∷ l) (some (item_from (letter b) (drop (start + 2) s))))) split
            ∙ item_token_fact (letter b) (drop (start + 2) s) (sym eu ∙ y) start)
          where
            two : start + 1 + 1 ≡ start + 2
            two = omega arith

            split : rest ≡ 46 ∷ drop (start + 2) s
            split =
                headed rest 46 (λ z. absurd (omega arith)) (next_byte s start ∙ sym ec ∙ k)
                ∙ ap (λ (l : List ℕ). 46 ∷ l) (drop-drop 1 (start + 1) s ∙ ap (λ (i : ℕ). drop i s) two)

        pub token_small : (r : Token) (c : ℕ) → u ≡ true → c ≡ get_or s (start + 1) 0 → (c ≡ 46 → ⊥)
            → r ≡ fixed_token (drop start s) start → r ≡ token_at s at
        unfolding fixed_token
        token_small r c y ec k f =
            f ∙ ap (λ (l : List ℕ). fixed_token l start) here
            ∙ sym (token_case (first_of fixed (b ∷ rest))
            (candidate_small b rest (sym et ∙ n) (sym eu ∙ y) (λ q. k (ec ∙ sym (next_byte s start) ∙ q))))

        module _ (m : u ≡ false) (v : Bool) (ev : v ≡ between 48 57 b) where
          pub token_digit : (r : Token) → v ≡ true → r ≡ number_token false (drop start s) start → r ≡ token_at s at
          token_digit r y f =
              f ∙ ap (λ (l : List ℕ). number_token false l start) here
              ∙ ap (number_token false (b ∷ rest)) zero_more
              ∙ sym (token_case (some (constant_from false (b ∷ rest)))
              (candidate_digit b rest (sym et ∙ n) (sym eu ∙ m) (sym ev ∙ y)) ∙ constant_token_fact false (b ∷ rest) start)
            where
              zero_more : start ≡ start + 0
              zero_more = omega arith

          pub token_minus : (r : Token) → v ≡ false → b ≡ 45 → r ≡ number_token true (drop (start + 1) s) (start + 1)
              → r ≡ token_at s at
          token_minus r w k f =
              f ∙ sym (token_case (some (constant_from true rest))
              (candidate_minus b rest (sym et ∙ n) (sym eu ∙ m) (sym ev ∙ w) k)
              ∙ ap (λ (d : ℕ). shown (checked start (d ∷ rest) (some (constant_from true rest)))) k
              ∙ constant_token_fact true rest start)

          pub token_other : (r : Token) → v ≡ false → (b ≡ 45 → ⊥) → r ≡ fixed_token (drop start s) start
              → r ≡ token_at s at
          unfolding fixed_token
          token_other r w k f =
              f ∙ ap (λ (l : List ℕ). fixed_token l start) here
              ∙ sym (token_case (first_of fixed (b ∷ rest))
              (candidate_fixed b rest (sym et ∙ n) (sym eu ∙ m) (sym ev ∙ w) k))

    -- the byte that the code looks at, by its place among the others
    in_range : (first last : ℕ) → first ≤ b → b ≤ last → between first last b ≡ true
    unfolding between
    in_range first last p q = rw (le-leb first b p, le-leb b last q)

    out_of_range : (first last : ℕ) → (first ≤ b → b ≤ last → ⊥) → between first last b ≡ false
    unfolding between
    out_of_range first last n = go (leb first b) (leb b last) refl refl
      where
        go : (t u : Bool) → leb first b ≡ t → leb b last ≡ u → (t && u) ≡ false
        go true true e f = absurd (n (leb-true first b e) (leb-true b last f))
        go true false e f = refl
        go false u e f = refl

    within : (first last : ℕ) → between first last b ≡ true → (first ≤ b) × (b ≤ last)
    unfolding between
    within first last e =
        let p = yes_and (leb first b) (leb b last) e in (leb-true first b p.0, leb-true b last p.1)

    pub at_capital : (r : Token) → 65 ≤ b → b ≤ 90 → r ≡ item_token None (drop start s) start → r ≡ token_at s at
    at_capital r p q f = token_capital (between 65 90 b) refl r (in_range 65 90 p q) f

    pub at_dotted : (r : Token) (c : ℕ) → 97 ≤ b → b ≤ 122 → c ≡ get_or s (start + 1) 0 → c ≡ 46
        → r ≡ item_token (Some b) (drop (start + 2) s) (start + 2) → r ≡ token_at s at
    at_dotted r c p q ec k f =
        token_dotted (between 65 90 b) refl (out_of_range 65 90 (λ x y. absurd (omega arith))) (between 97 122 b) refl r c
        (in_range 97 122 p q) ec k f

    pub at_digit : (r : Token) → 48 ≤ b → b ≤ 57 → r ≡ number_token false (drop start s) start → r ≡ token_at s at
    at_digit r p q f =
        token_digit (between 65 90 b) refl (out_of_range 65 90 (λ x y. absurd (omega arith))) (between 97 122 b) refl
        (out_of_range 97 122 (λ x y. absurd (omega arith))) (between 48 57 b) refl r (in_range 48 57 p q) f

    pub at_minus : (r : Token) → b ≡ 45 → r ≡ number_token true (drop (start + 1) s) (start + 1) → r ≡ token_at s at
    at_minus r k f =
        token_minus (between 65 90 b) refl (out_of_range 65 90 (λ x y. absurd (omega arith))) (between 97 122 b) refl
        (out_of_range 97 122 (λ x y. absurd (omega arith))) (between 48 57 b) refl r
        (out_of_range 48 57 (λ x y. absurd (omega arith))) k f

    pub at_other : (r : Token) → (65 ≤ b → b ≤ 90 → ⊥) → (97 ≤ b → b ≤ 122 → get_or s (start + 1) 0 ≡ 46 → ⊥)
        → (48 ≤ b → b ≤ 57 → ⊥) → (b ≡ 45 → ⊥) → r ≡ fixed_token (drop start s) start → r ≡ token_at s at
    at_other r n k m w f = go (between 97 122 b) refl
      where
        go : (u : Bool) → between 97 122 b ≡ u → r ≡ token_at s at
        go true e =
            token_small (between 65 90 b) refl (out_of_range 65 90 n) (between 97 122 b) refl r _ e refl
            (k (within 97 122 e).0 (within 97 122 e).1) f
        go false e =
            token_other (between 65 90 b) refl (out_of_range 65 90 n) (between 97 122 b) refl e (between 48 57 b) refl r
            (out_of_range 48 57 m) w f

-- a dot stands inside the text
pub dot_inside : (s : List ℕ) (start c : ℕ) → c ≡ get_or s (start + 1) 0 → c ≡ 46 → start + 2 ≤ length s
dot_inside s start c e k =
    elim (dec_lt (start + 1) (length s)) [
      | yes h ↦ omega arith
      | no h ↦ absurd (omega (arith, outside s (start + 1) (omega arith)))
    ]
