-- The piece at a position as numbers: what the code gives for it.
-- In order: the numbers of operators, variables, names and constants; the token of a piece; the token at a position;
-- the parts of it that the code works out one by one.
-- Assumes nothing.
use Rattle.std.specs.Prelude.{Bool, not, ◌&&◌, cond, List, [], ◌∷◌, ℕ, ◌+◌, ◌-◌, ◌*◌, ◌^◌, min, leb, length, get_or, take}
use Rattle.grammar.specs.Pieces.{is_capital, is_digit, is_letter_or_digit, Operator, Equal, Unequal, Less, AtMost, Greater}
use Rattle.grammar.specs.Pieces.{AtLeast, Variable, blank, letter, Constant, number, Piece, word, operator, item}
use Rattle.grammar.specs.Pieces.{Word, Retrieve, Where, Not, And, Or, Opening, Closing, Comma}
use Rattle.grammar.specs.Pieces.{constant}
use Rattle.grammar.specs.Parser.{run, begins, fixed, first_of, Next, at_end, wrong, found, checked, next_at}
use Rattle.text.specs.declared.Operator.{Operator as CodeOperator}
use Rattle.text.specs.declared.Operator.TheVariants as Sign
use Rattle.std.specs.Prelude.{Option as CodeOption, Some, None}
use Rattle.text.specs.declared.Word.{Word as CodeWord}
use Rattle.text.specs.declared.Word.TheVariants as Code
use Rattle.text.specs.declared.Token.{Token}
use Rattle.text.specs.declared.Token.TheVariants.{AtEnd, NoPiece, WordAt, OperatorAt, ItemAt, NumberAt}

-- ---- numbers

-- "Operators: 0 equal, 1 unequal, 2 less, 3 at most, 4 greater, 5 at least."
unfoldable pub operator_number : Operator → ℕ
operator_number Equal = 0
operator_number Unequal = 1
operator_number Less = 2
operator_number AtMost = 3
operator_number Greater = 4
operator_number AtLeast = 5

-- the letter of a variable, 0 for the blank one
unfoldable pub variable_number : Variable → ℕ
variable_number blank = 0
variable_number (letter b) = b

-- the number of a name, behind the number m of the letters before: A to Z are the digits 1 to 26 to base 27
unfoldable pub name_from : ℕ → List ℕ → ℕ
name_from m [] = m
name_from m (b ∷ bs) = name_from (m * 27 + (b - 64)) bs

unfoldable pub name_number : List ℕ → ℕ
name_number bs = name_from 0 bs

-- the value of digits, behind the value m of the digits before
unfoldable pub value_from : ℕ → List ℕ → ℕ
value_from m [] = m
value_from m (b ∷ bs) = value_from (m * 10 + (b - 48)) bs

-- the value of digits where it is below 2 ^ 32, and else 2 ^ 32, which is in no kind's range
unfoldable pub magnitude : List ℕ → ℕ
magnitude digits = min (value_from 0 digits) (2 ^ 32)

-- ---- tokens

-- the code's letter of a variable, none for the blank one, and its word, which is `variable_number`
unfoldable pub code_letter : Variable → CodeOption ℕ
code_letter blank = None
code_letter (letter b) = Some b

unfoldable pub letter_word : CodeOption ℕ → ℕ
letter_word None = 0
letter_word (Some b) = b

-- the code's value of a word, and its number, which is the grammar's `word_number`
unfoldable pub code_word : Word → CodeWord
code_word Retrieve = Code.Retrieve
code_word Where = Code.Where
code_word Not = Code.Not
code_word And = Code.And
code_word Or = Code.Or
code_word Opening = Code.Open
code_word Closing = Code.Close
code_word Comma = Code.Comma

unfoldable pub code_word_number : CodeWord → ℕ
code_word_number Code.Retrieve = 0
code_word_number Code.Where = 1
code_word_number Code.Not = 2
code_word_number Code.And = 3
code_word_number Code.Or = 4
code_word_number Code.Open = 5
code_word_number Code.Close = 6
code_word_number Code.Comma = 7

-- the code's value of an operator, and its number, which is `operator_number`
unfoldable pub code_operator : Operator → CodeOperator
code_operator Equal = Sign.Equal
code_operator Unequal = Sign.Unequal
code_operator Less = Sign.Less
code_operator AtMost = Sign.AtMost
code_operator Greater = Sign.Greater
code_operator AtLeast = Sign.AtLeast

unfoldable pub code_operator_number : CodeOperator → ℕ
code_operator_number Sign.Equal = 0
code_operator_number Sign.Unequal = 1
code_operator_number Sign.Less = 2
code_operator_number Sign.AtMost = 3
code_operator_number Sign.Greater = 4
code_operator_number Sign.AtLeast = 5

unfoldable pub constant_token : Constant → ℕ → Token
constant_token (number minus digits) next = NumberAt minus (magnitude digits) next

unfoldable pub token_of : Piece → ℕ → Token
token_of (word w) next = WordAt (code_word w) next
token_of (operator o) next = OperatorAt (code_operator o) next
token_of (item i) next = ItemAt (code_letter i.variable) (name_number i.name) next
token_of (constant k) next = constant_token k next

unfoldable pub shown : Next → Token
shown at_end = AtEnd
shown wrong = NoPiece
shown (found p next) = token_of p next

-- the token at a position
unfoldable pub token_at : List ℕ → ℕ → Token
token_at s at = shown (next_at s at)

-- ---- its parts: where the bytes l, which stand at position at, begin with a word, a name, digits, or none of these

unfoldable pub word_token : CodeWord → List ℕ → List ℕ → ℕ → Token
word_token w text l at =
    cond (begins text l && not (is_letter_or_digit (get_or l (length text) 0))) (WordAt w (at + length text)) NoPiece

unfoldable pub item_token : CodeOption ℕ → List ℕ → ℕ → Token
item_token v l at =
    cond
    (leb 1 (run is_capital l) && (leb (run is_capital l) 12 && not (is_letter_or_digit (get_or l (run is_capital l) 0))))
    (ItemAt v (name_number (take (run is_capital l) l)) (at + run is_capital l))
    NoPiece

unfoldable pub number_token : Bool → List ℕ → ℕ → Token
number_token minus l at =
    cond (leb 1 (run is_digit l) && not (is_letter_or_digit (get_or l (run is_digit l) 0)))
    (NumberAt minus (magnitude (take (run is_digit l) l)) (at + run is_digit l))
    NoPiece

unfoldable pub fixed_token : List ℕ → ℕ → Token
fixed_token l at = shown (checked at l (first_of fixed l))
