-- The grammar of a typed query, over its pieces, with the reading that each part has: "The grammar is written down
-- without the parser" (request 1).
-- In order: readings; items; conditions, from the loosest binding to the tightest; texts; the readings of a text.
-- Not here: how pieces are spelled (`Pieces`); how a text is parsed (`Parser`).
-- Assumes nothing.
use Rattle.std.specs.Prelude.{List, [], ◌∷◌, ◌++◌, ℕ, suc, max}
use Rattle.std.proofs.Math.Option.{Option, none, some}
use Rattle.grammar.specs.Pieces.{Retrieve, Where, Not, And, Or, Opening, Closing, Comma, Operator, Item}
use Rattle.grammar.specs.Pieces.{Constant, Piece, word, operator, item, constant, Spells}

-- ---- readings

-- "an item or a constant"
pub data Operand : Type 0 where
  of_item : Item → Operand
  of_constant : Constant → Operand

-- "A comparison is an item, an operator, then an item or a constant."
pub record Comparison : Type 0 where
  pub left : Item
  pub by : Operator
  pub right : Operand

-- "A condition is built from comparisons, `not`, `and`, `or` and parentheses"
pub data Condition : Type 0 where
  compared : Comparison → Condition
  negated : Condition → Condition
  both : Condition → Condition → Condition
  either : Condition → Condition → Condition

-- what a text says: its items, its condition if it has one, and the depth of the condition's parentheses
pub record Reading : Type 0 where
  pub items : List Item
  pub condition : Option Condition
  pub depth : ℕ

-- ---- items: "one or more items parted by commas"

pub data IsItems : List Piece → List Item → Type 0 where
  one_item : {i : Item} → IsItems (item i ∷ []) (i ∷ [])
  more_items : {i : Item} {ps : List Piece} {is : List Item} → IsItems ps is
      → IsItems (item i ∷ word Comma ∷ ps) (i ∷ is)

-- ---- conditions. "`not` binds before `and`, `and` before `or`; chains group from the left" (request 1). The number is
-- the depth: "depth counts a condition's parentheses only"

pub data IsOperand : Piece → Operand → Type 0 where
  item_operand : {i : Item} → IsOperand (item i) (of_item i)
  constant_operand : {k : Constant} → IsOperand (constant k) (of_constant k)

pub data IsComparison : List Piece → Comparison → Type 0 where
  comparison : {i : Item} {o : Operator} {p : Piece} {x : Operand} → IsOperand p x
      → IsComparison (item i ∷ operator o ∷ p ∷ []) (record { left = i; by = o; right = x })

mutual
  -- one or more parted by `or`
  pub data IsOr : List Piece → Condition → ℕ → Type 0 where
    one_and : {ps : List Piece} {c : Condition} {d : ℕ} → IsAnd ps c d → IsOr ps c d
    more_or : {ps qs : List Piece} {c e : Condition} {d f : ℕ} → IsOr ps c d → IsAnd qs e f
        → IsOr (ps ++ word Or ∷ qs) (either c e) (max d f)

  -- one or more parted by `and`
  pub data IsAnd : List Piece → Condition → ℕ → Type 0 where
    one_not : {ps : List Piece} {c : Condition} {d : ℕ} → IsNot ps c d → IsAnd ps c d
    more_and : {ps qs : List Piece} {c e : Condition} {d f : ℕ} → IsAnd ps c d → IsNot qs e f
        → IsAnd (ps ++ word And ∷ qs) (both c e) (max d f)

  -- a primary, or `not` before another of these
  pub data IsNot : List Piece → Condition → ℕ → Type 0 where
    one_primary : {ps : List Piece} {c : Condition} {d : ℕ} → IsPrimary ps c d → IsNot ps c d
    not_more : {ps : List Piece} {c : Condition} {d : ℕ} → IsNot ps c d → IsNot (word Not ∷ ps) (negated c) d

  -- a comparison, or a condition in parentheses
  pub data IsPrimary : List Piece → Condition → ℕ → Type 0 where
    one_comparison : {ps : List Piece} {x : Comparison} → IsComparison ps x → IsPrimary ps (compared x) 0
    in_parentheses : {ps : List Piece} {c : Condition} {d : ℕ} → IsOr ps c d
        → IsPrimary (word Opening ∷ (ps ++ word Closing ∷ [])) c (suc d)

-- ---- texts: "`retrieve`, then one or more items parted by commas in parentheses, then nothing or `where` and a
-- condition"

pub data IsText : List Piece → Reading → Type 0 where
  without : {ps : List Piece} {is : List Item} → IsItems ps is
      → IsText (word Retrieve ∷ word Opening ∷ (ps ++ word Closing ∷ []))
      (record { items = is; condition = none; depth = 0 })
  conditional : {ps qs : List Piece} {is : List Item} {c : Condition} {d : ℕ} → IsItems ps is → IsOr qs c d
      → IsText (word Retrieve ∷ word Opening ∷ (ps ++ word Closing ∷ word Where ∷ qs))
      (record { items = is; condition = some c; depth = d })

-- ---- the readings of a text: some pieces spell it, and the grammar has them with this reading

pub record HasReading (text : List ℕ) (r : Reading) : Type 0 where
  pub pieces : List Piece
  pub spelled : Spells pieces text
  pub derived : IsText pieces r
