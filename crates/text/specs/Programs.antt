-- A condition as words: a postfix program, which the code writes into words that its caller lends.
-- In order: the words of a comparison and of a condition; words written in their place; what a parser of the code gives
-- beside what its definition gives; the steps of a parser. `Option` is the grammar's, and `CodeOption` the code's.
-- Assumes nothing.
use Rattle.std.specs.Prelude.{◌≡◌, Bool, true, false, cond, List, [], ◌∷◌, ◌++◌, ℕ, ◌+◌, ◌-◌, ◌*◌, ◌≤◌, ◌<◌, max, eqb, length, take, drop}
use Rattle.std.specs.Prelude.{Option as CodeOption, Some, None}
use Rattle.std.proofs.Math.Option.{Option, none, some}
use Rattle.grammar.specs.Pieces.{Item, Constant, number}
use Rattle.grammar.specs.Grammar.{Operand, of_item, of_constant, Comparison, Condition, compared, negated, both, either}
use Rattle.grammar.specs.Grammar.{Reading}
use Rattle.grammar.specs.Parser.{Parsed, failed, parsed, Deep}
use Rattle.text.specs.Tokens.{letter_word, operator_number, variable_number, name_number, magnitude, code_word_number, code_operator_number, token_at}
use Rattle.text.specs.declared.Word.{Word as CodeWord}
use Rattle.text.specs.declared.Word.TheVariants as Code
use Rattle.text.specs.declared.Token.{Token}
use Rattle.text.specs.declared.Token.TheVariants.{AtEnd, NoPiece, WordAt, OperatorAt, ItemAt, NumberAt}
use Rattle.text.specs.declared.Parse.{Parse}
use Rattle.text.specs.declared.Items.{Items}
use Rattle.text.specs.declared.Text.{Text}
use Rattle.text.specs.declared.Operand.{Operand as CodeOperand}
use Rattle.text.specs.declared.Operand.TheVariants as Side
use Rattle.text.specs.declared.Compared.{Compared}

-- ---- the words of a condition

-- two words for the right side: an item's letter and name, or 1 (2 behind a minus) and a magnitude
unfoldable pub sign_word : Bool → ℕ
sign_word false = 1
sign_word true = 2

unfoldable pub constant_words : Constant → List ℕ
constant_words (number minus digits) = sign_word minus ∷ magnitude digits ∷ []

unfoldable pub operand_words : Operand → List ℕ
operand_words (of_item i) = variable_number i.variable ∷ name_number i.name ∷ []
operand_words (of_constant k) = constant_words k

-- six words: 0, the left item's letter and name, the operator, the right side
unfoldable pub comparison_words : Comparison → List ℕ
comparison_words x =
    0 ∷ variable_number x.left.variable ∷ name_number x.left.name ∷ operator_number x.by ∷ operand_words x.right

-- postfix: 1 not, 2 and, 3 or
unfoldable pub program : Condition → List ℕ
program (compared x) = comparison_words x
program (negated c) = program c ++ 1 ∷ []
program (both c e) = program c ++ (program e ++ 2 ∷ [])
program (either c e) = program c ++ (program e ++ 3 ∷ [])

-- a condition if there is one
unfoldable pub condition_words : Option Condition → List ℕ
condition_words none = []
condition_words (some c) = program c

-- a depth, where there is a condition
unfoldable pub condition_depth : Option Condition → ℕ → CodeOption ℕ
condition_depth none depth = None
condition_depth (some c) depth = Some depth

-- ---- the words of items: of each the letter of its variable and the number of its name

unfoldable pub item_words : List Item → List ℕ
item_words [] = []
item_words (i ∷ is) = variable_number i.variable ∷ name_number i.name ∷ item_words is

-- ---- words written in their place

-- the words with others written over those from `at` on; all others as they were
unfoldable pub written : ℕ → List ℕ → List ℕ → List ℕ
written at text words = take at words ++ (text ++ drop (at + length text) words)

-- ---- what a parser gives

-- a condition from position at on, with its program written from word `to` on: at most two words to a byte
pub record ShowsParsed (s : List ℕ) (at to : ℕ) (before after : List ℕ) (r : CodeOption Parse) (c : Deep) (next : ℕ)
    : Type 0 where
  pub same : r ≡ Some (record { next = next; depth = c.depth; end = to + length (program c.condition) })
  pub stands : after ≡ written to (program c.condition) before
  pub forward : at < next
  pub inside : next ≤ length s
  pub words : length (program c.condition) ≤ 2 * (next - at)
  pub depth : c.depth ≤ next - at

-- where there is none, the words are as many as they were
unfoldable pub Shows : List ℕ → ℕ → ℕ → List ℕ → List ℕ → CodeOption Parse → Parsed Deep → Type 0
Shows s at to before after r failed = (r ≡ None) × (length after ≡ length before)
Shows s at to before after r (parsed c next) = ShowsParsed s at to before after r c next

-- the value shows what the definition f gives at every number from a bound on
pub record Gave (f : ℕ → Parsed Deep) (bound : ℕ) (s : List ℕ) (at to : ℕ) (before after : List ℕ)
    (r : CodeOption Parse) : Type 0 where
  pub given : Parsed Deep
  pub steady : (n : ℕ) → bound ≤ n → f n ≡ given
  pub shown : Shows s at to before after r given

-- ---- the steps of a parser

-- the position behind a word, where that word stands
unfoldable pub after_token : CodeWord → Token → CodeOption ℕ
after_token w AtEnd = None
after_token w NoPiece = None
after_token w (WordAt v next) = cond (eqb (code_word_number v) (code_word_number w)) (Some next) None
after_token w (OperatorAt o next) = None
after_token w (ItemAt v m next) = None
after_token w (NumberAt b m next) = None

-- a condition with one more word in its program, and what that word is
unfoldable pub with_word : Parse → ℕ → Parse
with_word e depth = record { next = e.next; depth = max depth e.depth; end = e.end + 1 }

unfoldable pub word_written : Parse → ℕ → List ℕ → List ℕ
word_written e word words = written e.end (word ∷ []) words

-- a condition in parentheses: behind it the closing one must stand
unfoldable pub closed_by : Parse → CodeOption ℕ → CodeOption Parse
closed_by c None = None
closed_by c (Some n) = Some (record { next = n; depth = c.depth + 1; end = c.end })

unfoldable pub closing : List ℕ → Parse → CodeOption Parse
closing s c = closed_by c (after_token Code.Close (token_at s c.next))

-- the words of a right side and of a comparison that the code found
unfoldable pub right_words : CodeOperand → List ℕ
right_words (Side.Item v m) = letter_word v ∷ m ∷ []
right_words (Side.Constant minus m) = sign_word minus ∷ m ∷ []

unfoldable pub compared_words : Compared → List ℕ
compared_words x = 0 ∷ letter_word x.letter ∷ x.name ∷ code_operator_number x.operator ∷ right_words x.right

-- a comparison from position at on, and what the code found
pub record ComparedParsed (s : List ℕ) (at : ℕ) (r : CodeOption Compared) (c : Deep) (next : ℕ) : Type 0 where
  pub found : Compared
  pub same : r ≡ Some found
  pub behind : found.next ≡ next
  pub words : compared_words found ≡ program c.condition
  pub depth : c.depth ≡ 0
  pub long : at + 3 ≤ next
  pub inside : next ≤ length s

unfoldable pub ComparedShows : List ℕ → ℕ → CodeOption Compared → Parsed Deep → Type 0
ComparedShows s at r failed = r ≡ None
ComparedShows s at r (parsed c next) = ComparedParsed s at r c next

-- ---- the items of a text, and a text

-- items from position at on, their words from the first on: at most one item to a byte
pub record ItemsParsed (s : List ℕ) (at : ℕ) (before after : List ℕ) (r : CodeOption Items) (is : List Item) (next : ℕ)
    : Type 0 where
  pub same : r ≡ Some (record { count = length is; next = next })
  pub stands : after ≡ written 0 (item_words is) before
  pub forward : at < next
  pub inside : next ≤ length s
  pub few : length is ≤ next - at

unfoldable pub ItemsShow : List ℕ → ℕ → List ℕ → List ℕ → CodeOption Items → Parsed (List Item) → Type 0
ItemsShow s at before after r failed = (r ≡ None) × (length after ≡ length before)
ItemsShow s at before after r (parsed is next) = ItemsParsed s at before after r is next

-- only spaces stand there
unfoldable pub is_at_end : Token → Bool
is_at_end AtEnd = true
is_at_end NoPiece = false
is_at_end (WordAt v next) = false
is_at_end (OperatorAt o next) = false
is_at_end (ItemAt v m next) = false
is_at_end (NumberAt b m next) = false

-- what was read, where only spaces stand behind it
unfoldable pub text_if : Bool → Text → CodeOption Text
text_if true t = Some t
text_if false t = None

-- the words of a reading: its items, then its condition
unfoldable pub reading_words : Reading → List ℕ
reading_words r = item_words r.items ++ condition_words r.condition

unfoldable pub text_of : Reading → Text
text_of r = record {
  items = length r.items;
  depth = condition_depth r.condition r.depth;
  end = length (reading_words r);
}

unfoldable pub TextShows : List ℕ → List ℕ → CodeOption Text → Option Reading → Type 0
TextShows before after r none = (r ≡ None) × (length after ≡ length before)
TextShows before after r (some x) = (r ≡ Some (text_of x)) × (after ≡ written 0 (reading_words x) before)
