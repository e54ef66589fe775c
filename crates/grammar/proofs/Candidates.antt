-- The candidate is the only piece that can stand where bytes begin so: what a piece's bytes begin with gives that piece
-- back.
-- In order: what stands apart; items; constants; words and operators; all pieces; spaces and operators.
-- Assumes nothing.
use mathlib.Core.Path.{◌≡◌, refl, ap, subst}
use mathlib.Core.Bool.{Bool, true, false, not, ◌&&◌, ◌||◌}
use mathlib.Core.Logic.{⊎_elim}
use mathlib.Core.List.{List, [], ◌∷◌, ◌++◌}
use mathlib.Core.Option.{Option, none, some}
use Prim.Native.Nat.{ℕ}
use native.Mathlib.Omega.{arith}
use borrow.Author.Tests.{eqb-true, not-true}
use lib.Dec.{leb, eqb}
use lib.ListN.{length, get_or, take}
use lib.Seq.{take-append_seam}
use Rattle.sets.proofs.Tests.{yes_or_no, yes_no, yes_and, yes_or, no_or, not_yes}
use Rattle.grammar.specs.Pieces.{is_capital, is_small, is_digit, is_space, is_letter_or_digit, every, last_of, Word, Retrieve}
use Rattle.grammar.specs.Pieces.{Where, Not, And, Or, Opening, Closing, Comma, Operator, Equal, Unequal, Less, AtMost}
use Rattle.grammar.specs.Pieces.{Greater, AtLeast, Variable, blank, letter, Constant, number, Piece, word}
use Rattle.grammar.specs.Pieces.{operator, item, constant, word_bytes, operator_bytes, variable_bytes, constant_bytes}
use Rattle.grammar.specs.Pieces.{bytes_of, is_name, are_digits, is_variable, is_constant, is_piece, apart}
use Rattle.grammar.specs.Parser.{run, begins, fixed, first_of, item_from, constant_from, candidate}
use Rattle.grammar.proofs.Bytes.{small_not_capital, digit_not_capital, digit_not_small, capital_counts, digit_counts}
use Rattle.grammar.proofs.Bytes.{counts_not, space_is, every_first, every_last, run_append}

-- ---- what stands apart

-- behind a piece that ends in a letter or digit stands none
apart_none : (a b : Bool) → not (a && b) ≡ true → a ≡ true → b ≡ false
apart_none true b h e = not-true b h
apart_none false b h e = absurd (yes_no e refl)

-- ---- items

named : (name rest : List ℕ) → every is_capital name ≡ true → is_capital (get_or rest 0 0) ≡ false
    → take (run is_capital (name ++ rest)) (name ++ rest) ≡ name
named name rest h k = rw (run_append is_capital name rest h k) (take-append_seam name rest)

-- a name and what stands apart from it
name_ends : (c : ℕ) (cs rest : List ℕ) → every is_capital (c ∷ cs) ≡ true
    → not (is_letter_or_digit (last_of (c ∷ cs)) && is_letter_or_digit (get_or rest 0 0)) ≡ true
    → is_capital (get_or rest 0 0) ≡ false
name_ends c cs rest h a =
    let last = capital_counts (last_of (c ∷ cs)) (every_last is_capital c cs h) in
    (counts_not (get_or rest 0 0) (apart_none _ _ a last)).0

name_every : (bs : List ℕ) → is_name bs ≡ true → every is_capital bs ≡ true
unfolding is_name
name_every bs h =
    (yes_and (leb (length bs) 12) (every is_capital bs) (yes_and (leb 1 (length bs)) _ h).1).1

name_some : is_name [] ≡ true → ⊥
unfolding is_name
name_some h = yes_no h refl

candidate_item : (v : Variable) (name rest : List ℕ) → (is_variable v && is_name name) ≡ true
    → apart (item (record { variable = v; name = name })) rest ≡ true
    → candidate ((variable_bytes v ++ name) ++ rest) ≡ some (item (record { variable = v; name = name }))
unfolding is_variable apart bytes_of variable_bytes candidate item_from last_of
candidate_item v [] rest h a = absurd (name_some (yes_and (is_variable v) (is_name []) h).1)
candidate_item blank (c ∷ cs) rest h a =
    let all = name_every (c ∷ cs) h in
    rw (every_first is_capital c cs all)
    (ap {B = Option Piece} (λ (n : List ℕ). some (item (record { variable = blank; name = n })))
    (named (c ∷ cs) rest all (name_ends c cs rest all a)))
candidate_item (letter b) (c ∷ cs) rest h a =
    let parts = yes_and (is_small b) (is_name (c ∷ cs)) h in
    let all = name_every (c ∷ cs) parts.1 in
    rw (small_not_capital b parts.0, parts.0)
    (ap {B = Option Piece} (λ (n : List ℕ). some (item (record { variable = letter b; name = n })))
    (named (c ∷ cs) rest all (name_ends c cs rest all a)))

-- ---- constants

digits_every : (bs : List ℕ) → are_digits bs ≡ true → every is_digit bs ≡ true
unfolding are_digits
digits_every bs h = (yes_and (leb 1 (length bs)) (every is_digit bs) h).1

digits_some : are_digits [] ≡ true → ⊥
unfolding are_digits
digits_some h = yes_no h refl

numbered : (digits rest : List ℕ) → every is_digit digits ≡ true → is_digit (get_or rest 0 0) ≡ false
    → take (run is_digit (digits ++ rest)) (digits ++ rest) ≡ digits
numbered digits rest h k = rw (run_append is_digit digits rest h k) (take-append_seam digits rest)

digits_end : (d : ℕ) (ds rest : List ℕ) → every is_digit (d ∷ ds) ≡ true
    → not (is_letter_or_digit (last_of (d ∷ ds)) && is_letter_or_digit (get_or rest 0 0)) ≡ true
    → is_digit (get_or rest 0 0) ≡ false
digits_end d ds rest h a =
    let last = digit_counts (last_of (d ∷ ds)) (every_last is_digit d ds h) in
    (counts_not (get_or rest 0 0) (apart_none _ _ a last)).1

candidate_constant : (k : Constant) (rest : List ℕ) → is_constant k ≡ true → apart (constant k) rest ≡ true
    → candidate (constant_bytes k ++ rest) ≡ some (constant k)
unfolding is_constant apart bytes_of constant_bytes candidate constant_from last_of
candidate_constant (number true []) rest h a = absurd (digits_some h)
candidate_constant (number false []) rest h a = absurd (digits_some h)
candidate_constant (number true (d ∷ ds)) rest h a =
    let all = digits_every (d ∷ ds) h in
    unfold is_capital is_small is_digit in
    ap {B = Option Piece} (λ (n : List ℕ). some (constant (number true n)))
    (numbered (d ∷ ds) rest all (digits_end d ds rest all a))
candidate_constant (number false (d ∷ ds)) rest h a =
    let all = digits_every (d ∷ ds) h in
    let first = every_first is_digit d ds all in
    rw (digit_not_capital d first, digit_not_small d first, first)
    (ap {B = Option Piece} (λ (n : List ℕ). some (constant (number false n)))
    (numbered (d ∷ ds) rest all (digits_end d ds rest all a)))

-- ---- words and operators

candidate_word : (w : Word) (rest : List ℕ) → candidate (word_bytes w ++ rest) ≡ some (word w)
unfolding candidate word_bytes is_capital is_small is_digit first_of fixed begins bytes_of
candidate_word Retrieve rest = refl
candidate_word Where rest = refl
candidate_word Not rest = refl
candidate_word And rest = refl
candidate_word Or rest = refl
candidate_word Opening rest = refl
candidate_word Closing rest = refl
candidate_word Comma rest = refl

-- a byte that an operator may end in
unfoldable pub ends_operator : ℕ → Bool
ends_operator b = eqb 61 b || eqb 62 b

-- behind an operator no byte stands that would make it longer
candidate_operator : (o : Operator) (rest : List ℕ) → ends_operator (get_or rest 0 0) ≡ false
    → candidate (operator_bytes o ++ rest) ≡ some (operator o)
unfolding candidate word_bytes operator_bytes is_capital is_small is_digit first_of fixed begins bytes_of ends_operator
candidate_operator Equal rest h = refl
candidate_operator Unequal rest h = refl
candidate_operator Less [] h = refl
candidate_operator Less (c ∷ rest) h = let parts = no_or (eqb 61 c) (eqb 62 c) h in rw (parts.1, parts.0, first_of)
candidate_operator AtMost rest h = refl
candidate_operator Greater [] h = refl
candidate_operator Greater (c ∷ rest) h = let parts = no_or (eqb 61 c) (eqb 62 c) h in rw (parts.0, first_of)
candidate_operator AtLeast rest h = refl

-- ---- all pieces

unfoldable pub is_operator : Piece → Bool
is_operator (word w) = false
is_operator (operator o) = true
is_operator (item i) = false
is_operator (constant k) = false

pub candidate_of : (p : Piece) (rest : List ℕ) → is_piece p ≡ true → apart p rest ≡ true
    → (is_operator p ≡ true → ends_operator (get_or rest 0 0) ≡ false) → candidate (bytes_of p ++ rest) ≡ some p
unfolding is_piece bytes_of is_operator
candidate_of (word w) rest h a k = candidate_word w rest
candidate_of (operator o) rest h a k = candidate_operator o rest (k refl)
candidate_of (item i) rest h a k = candidate_item i.variable i.name rest h a
candidate_of (constant c) rest h a k = candidate_constant c rest h a

-- ---- spaces and operators

spaced : (l : List ℕ) → candidate (32 ∷ l) ≡ none
unfolding candidate word_bytes operator_bytes is_capital is_small is_digit first_of fixed begins bytes_of
spaced l = refl

-- no piece begins with a space
pub candidate_space : (l : List ℕ) {p : Piece} → candidate l ≡ some p → is_space (get_or l 0 0) ≡ false
unfolding is_space
candidate_space [] e = refl
candidate_space (b ∷ l) {p} e = not_yes (λ y. nothing (space_is b y))
  where
    nothing : b ≡ 32 → ⊥
    nothing y = let z : ◌≡◌ {A = ℕ} 0 1 = cc (spaced l, ap (λ (c : ℕ). candidate (c ∷ l)) y) in absurd (omega arith)

-- what begins as an operator ends is an operator
IsSomeOperator : Option Piece → Type 0
IsSomeOperator none = ⊥
IsSomeOperator (some p) = is_operator p ≡ true

begun_equal : (l : List ℕ) → IsSomeOperator (candidate (61 ∷ l))
unfolding IsSomeOperator is_operator candidate word_bytes operator_bytes is_capital is_small is_digit first_of fixed begins
    bytes_of
begun_equal l = refl

begun_greater : (l : List ℕ) → IsSomeOperator (candidate (62 ∷ l))
unfolding IsSomeOperator is_operator candidate word_bytes operator_bytes is_capital is_small is_digit first_of fixed begins
    bytes_of
begun_greater [] = refl
begun_greater (c ∷ l) =
    ⊎_elim (λ (y : eqb 61 c ≡ true). rw (y, first_of) refl) (λ (n : eqb 61 c ≡ false). rw (n, first_of) refl)
    (yes_or_no (eqb 61 c))

some_operator : (p : Piece) → IsSomeOperator (some p) → is_operator p ≡ true
unfolding IsSomeOperator
some_operator p h = h

pub candidate_begun : (l : List ℕ) {p : Piece} → candidate l ≡ some p → is_operator p ≡ false
    → ends_operator (get_or l 0 0) ≡ false
unfolding ends_operator
candidate_begun [] e n = refl
candidate_begun (b ∷ l) {p} e n = not_yes (λ y. ⊎_elim
    (λ q. other (subst (λ (c : ℕ). IsSomeOperator (candidate (c ∷ l))) (eqb-true 61 b q) (begun_equal l)))
    (λ q. other (subst (λ (c : ℕ). IsSomeOperator (candidate (c ∷ l))) (eqb-true 62 b q) (begun_greater l)))
    (yes_or (eqb 61 b) (eqb 62 b) y))
  where
    other : IsSomeOperator (candidate (b ∷ l)) → ⊥
    other h = yes_no (some_operator p (subst IsSomeOperator e h)) n
