-- Parsing a typed query, computed: the piece at a position of the text, then "or, and, not and primary parsers call
-- each other, remaining depth and bytes falling" (the paper's code places).
-- In order: runs of bytes, the piece that the bytes begin with, the piece at a position; items; conditions; texts.
-- That parsing gives exactly the readings that the grammar has is a theorem (`Statements`).
-- Assumes nothing.
use Rattle.std.specs.Prelude.{Bool, true, false, ◌&&◌, cond, List, [], ◌∷◌, ℕ, zero, suc, ◌+◌, ◌*◌, max, eqb, length, get_or, take, drop}
use Rattle.std.proofs.Math.Option.{Option, none, some}
use Rattle.grammar.specs.Pieces.{is_capital, is_small, is_digit, is_space, Word, Retrieve, Where, Not, And, Or, Opening}
use Rattle.grammar.specs.Pieces.{Closing, Comma, Operator, Equal, Unequal, Less, AtMost, Greater, AtLeast, Variable}
use Rattle.grammar.specs.Pieces.{blank, letter, Item, number, Piece, word, operator, item, constant}
use Rattle.grammar.specs.Pieces.{bytes_of, is_piece, apart}
use Rattle.grammar.specs.Grammar.{Operand, of_item, of_constant, Condition, compared, negated, both, either}
use Rattle.grammar.specs.Grammar.{Reading}

-- ---- runs of bytes

-- how many bytes pass a test before the first that does not
unfoldable pub run : (ℕ → Bool) → List ℕ → ℕ
run test [] = 0
run test (b ∷ bs) = elim (test b) [ true ↦ suc (run test bs) | false ↦ 0 ]

-- whether the bytes begin with others
unfoldable pub begins : List ℕ → List ℕ → Bool
begins [] l = true
begins (b ∷ bs) [] = false
begins (b ∷ bs) (c ∷ l) = eqb b c && begins bs l

-- ---- the piece that the bytes begin with

-- the words, marks and operators, a longer one before one that it begins with
unfoldable pub fixed : List Piece
fixed =
    word Retrieve
    ∷ word Where
    ∷ word Not
    ∷ word And
    ∷ word Or
    ∷ word Opening
    ∷ word Closing
    ∷ word Comma
    ∷ operator Unequal
    ∷ operator AtMost
    ∷ operator AtLeast
    ∷ operator Less
    ∷ operator Greater
    ∷ operator Equal
    ∷ []

unfoldable pub first_of : List Piece → List ℕ → Option Piece
first_of [] l = none
first_of (p ∷ ps) l = elim (begins (bytes_of p) l) [ true ↦ some p | false ↦ first_of ps l ]

-- all capital letters there are; all digits there are
unfoldable pub item_from : Variable → List ℕ → Piece
item_from v l = item (record { variable = v; name = take (run is_capital l) l })

unfoldable pub constant_from : Bool → List ℕ → Piece
constant_from minus l = constant (number minus (take (run is_digit l) l))

-- the only piece that may stand where the bytes begin so
unfoldable pub candidate : List ℕ → Option Piece
candidate [] = none
candidate (b ∷ l) =
    cond (is_capital b) (some (item_from blank (b ∷ l)))
    (cond (is_small b && eqb (get_or l 0 0) 46) (some (item_from (letter b) (drop 1 l)))
    (cond (is_digit b) (some (constant_from false (b ∷ l)))
    (cond (eqb b 45) (some (constant_from true l)) (first_of fixed (b ∷ l)))))

-- whether a piece stands where the bytes begin, apart from what follows
unfoldable pub stands : Piece → List ℕ → Bool
stands p l = is_piece p && (begins (bytes_of p) l && apart p (drop (length (bytes_of p)) l))

-- ---- the piece at a position

pub data Next : Type 0 where
  -- no byte but spaces
  at_end : Next
  -- no piece
  wrong : Next
  -- a piece, and the position behind it
  found : Piece → ℕ → Next

-- the piece, if it stands there
unfoldable pub checked : ℕ → List ℕ → Option Piece → Next
checked at l none = wrong
checked at l (some p) = cond (stands p l) (found p (at + length (bytes_of p))) wrong

-- from position at on, which is no space
unfoldable pub next_front : ℕ → List ℕ → Next
next_front at [] = at_end
next_front at (b ∷ l) = checked at (b ∷ l) (candidate (b ∷ l))

unfoldable pub next_at : List ℕ → ℕ → Next
next_at s at = next_front (at + run is_space (drop at s)) (drop (run is_space (drop at s)) (drop at s))

-- ---- what is taken at a position

unfoldable pub word_number : Word → ℕ
word_number Retrieve = 0
word_number Where = 1
word_number Not = 2
word_number And = 3
word_number Or = 4
word_number Opening = 5
word_number Closing = 6
word_number Comma = 7

-- the position behind a word, where that word is next
unfoldable pub behind : Word → Next → Option ℕ
behind w at_end = none
behind w wrong = none
behind w (found (word v) next) = cond (eqb (word_number v) (word_number w)) (some next) none
behind w (found (operator o) next) = none
behind w (found (item i) next) = none
behind w (found (constant k) next) = none

-- what stands there, and the position behind it
pub data Parsed (A : Type 0) : Type 0 where
  failed : Parsed A
  parsed : A → ℕ → Parsed A

unfoldable pub item_of : Next → Parsed Item
item_of at_end = failed
item_of wrong = failed
item_of (found (word v) next) = failed
item_of (found (operator o) next) = failed
item_of (found (item i) next) = parsed i next
item_of (found (constant k) next) = failed

unfoldable pub operator_of : Next → Parsed Operator
operator_of at_end = failed
operator_of wrong = failed
operator_of (found (word v) next) = failed
operator_of (found (operator o) next) = parsed o next
operator_of (found (item i) next) = failed
operator_of (found (constant k) next) = failed

unfoldable pub operand_of : Next → Parsed Operand
operand_of at_end = failed
operand_of wrong = failed
operand_of (found (word v) next) = failed
operand_of (found (operator o) next) = failed
operand_of (found (item i) next) = parsed (of_item i) next
operand_of (found (constant k) next) = parsed (of_constant k) next

-- ---- one thing after another

infixl 20 ◌and_then◌
-- what stands behind what was parsed
unfoldable pub ◌and_then◌ : {A B : Type 0} → Parsed A → (A → ℕ → Parsed B) → Parsed B
failed and_then k = failed
parsed a next and_then k = k a next

-- behind a word where it stands, else as there
unfoldable pub if_word : {A : Type 0} → Option ℕ → (ℕ → Parsed A) → (Unit {0} → Parsed A) → Parsed A
if_word (some next) yes' no' = yes' next
if_word none yes' no' = no' tt

-- behind a word, which must stand
abbrev pub need_word : {A : Type 0} → Option ℕ → (ℕ → Parsed A) → Parsed A
need_word w yes' = if_word w yes' (λ u. failed)

-- ---- items

-- at most n of them
unfoldable pub items_at : ℕ → List ℕ → ℕ → Parsed (List Item)
items_at zero s at = failed
items_at (suc n) s at =
    item_of (next_at s at) and_then λ i mid.
    if_word (behind Comma (next_at s mid))
    (λ next. items_at n s next and_then λ is end. parsed (i ∷ is) end)
    (λ u. parsed (i ∷ []) mid)

-- ---- conditions, with their depth

pub record Deep : Type 0 where
  pub condition : Condition
  pub depth : ℕ

unfoldable pub comparison_at : List ℕ → ℕ → Parsed Deep
comparison_at s at =
    item_of (next_at s at) and_then λ i mid.
    operator_of (next_at s mid) and_then λ o late.
    operand_of (next_at s late) and_then λ x end.
    parsed (record { condition = compared (record { left = i; by = o; right = x }); depth = 0 }) end

-- The number n is what is left of depth and bytes: each parser calls others at less.
unfoldable mutual
  pub or_at : ℕ → List ℕ → ℕ → Parsed Deep
  or_at zero s at = failed
  or_at (suc n) s at = and_at n s at and_then λ c next. or_more n s c next

  -- further parts behind c, each after an `or`
  pub or_more : ℕ → List ℕ → Deep → ℕ → Parsed Deep
  or_more zero s c at = failed
  or_more (suc n) s c at =
      if_word (behind Or (next_at s at))
      (λ next. and_at n s next and_then λ e end.
      or_more n s (record { condition = either c.condition e.condition; depth = max c.depth e.depth }) end)
      (λ u. parsed c at)

  pub and_at : ℕ → List ℕ → ℕ → Parsed Deep
  and_at zero s at = failed
  and_at (suc n) s at = not_at n s at and_then λ c next. and_more n s c next

  -- further parts behind c, each after an `and`
  pub and_more : ℕ → List ℕ → Deep → ℕ → Parsed Deep
  and_more zero s c at = failed
  and_more (suc n) s c at =
      if_word (behind And (next_at s at))
      (λ next. not_at n s next and_then λ e end.
      and_more n s (record { condition = both c.condition e.condition; depth = max c.depth e.depth }) end)
      (λ u. parsed c at)

  pub not_at : ℕ → List ℕ → ℕ → Parsed Deep
  not_at zero s at = failed
  not_at (suc n) s at =
      if_word (behind Not (next_at s at))
      (λ next. not_at n s next and_then λ c end.
      parsed (record { condition = negated c.condition; depth = c.depth }) end)
      (λ u. primary_at n s at)

  pub primary_at : ℕ → List ℕ → ℕ → Parsed Deep
  primary_at zero s at = failed
  primary_at (suc n) s at =
      if_word (behind Opening (next_at s at))
      (λ next. or_at n s next and_then λ c mid.
      need_word (behind Closing (next_at s mid))
      (λ end. parsed (record { condition = c.condition; depth = suc c.depth }) end))
      (λ u. comparison_at s at)

-- four parsers to each byte, so that this is never used up
unfoldable pub condition_at : List ℕ → ℕ → Parsed Deep
condition_at s at = or_at (4 * length s + 4) s at

-- ---- texts

-- what was read, where only spaces stand behind it
unfoldable pub whole : Reading → Next → Option Reading
whole r at_end = some r
whole r wrong = none
whole r (found p next) = none

-- with the condition that was parsed behind `where`
unfoldable pub conditioned : List ℕ → List Item → Parsed Deep → Option Reading
conditioned s is failed = none
conditioned s is (parsed c end) =
    whole (record { items = is; condition = some c.condition; depth = c.depth }) (next_at s end)

-- behind the items' parenthesis
unfoldable pub text_end : List ℕ → List Item → ℕ → Option Reading
text_end s is at =
    elim (behind Where (next_at s at)) [
      | none ↦ whole (record { items = is; condition = none; depth = 0 }) (next_at s at)
      | some next ↦ conditioned s is (condition_at s next)
    ]

-- the items and where their parenthesis ends
unfoldable pub head_at : List ℕ → Parsed (List Item)
head_at s =
    need_word (behind Retrieve (next_at s 0)) λ first.
    need_word (behind Opening (next_at s first)) λ second.
    items_at (length s) s second and_then λ is third.
    need_word (behind Closing (next_at s third)) λ fourth.
    parsed is fourth

-- the reading of a text, if it has one
unfoldable pub parse : List ℕ → Option Reading
parse s = elim (head_at s) [ failed ↦ none | parsed is at ↦ text_end s is at ]
