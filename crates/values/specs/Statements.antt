-- What is proved of the definitions, for a reader; `proofs/Theorems.antt` proves each, in this order.
-- In order: missing cells, the order by value, match, operators, the comparison table, cells in range, the rules of a
-- table, sides turned.
-- Assumes nothing.
use Rattle.std.specs.Prelude.{◌≡◌, ℕ, ◌+◌, ◌*◌, ◌/◌, ◌%◌, ◌^◌, ◌<◌, ◌≤◌, true, false, not, ◌⊎◌, ◌↔◌, List, negsuc, ◌<ℤ◌, nat_lt, slice_index}
use Rattle.values.specs.Values.{missing, in_range, value_of, less_cell, key, raised, matches}
use Rattle.values.specs.Operators.{Operator, operator_number, Means, holds, mirror, opposite}
use Rattle.values.specs.Table.{allows, built_in, TableRules, keeps_rules}

-- Which cells are missing: "A length of -2,147,483,648, or 4,294,967,295 in the other kinds (angles too)" (request 5).
-- Each of a kind that there is is in range; a length that is missing as a cell of another kind is a value, and the
-- other way.
pub record MissingCells : Type 0 where
  pub lengths : (cell : ℕ) → (missing 1 cell ≡ true) ↔ (cell ≡ 2147483648)
  pub others : (kind cell : ℕ) → ¬ (kind ≡ 1) → (missing kind cell ≡ true) ↔ (cell ≡ 4294967295)
  pub least : value_of 1 2147483648 ≡ negsuc 2147483647
  pub minus_one : (value_of 1 4294967295 ≡ negsuc 0) × (missing 1 4294967295 ≡ false)
  pub in_each_range : (kind cell : ℕ) → kind < 4 → missing kind cell ≡ true → in_range kind cell ≡ true

-- The cells of a kind stand in one line, a missing one first, the others in the order of the integers that they mean;
-- keys stand in the same order.
pub record OrderedByValue (kind : ℕ) : Type 0 where
  pub agrees : (a b : ℕ) → (less_cell kind a b ≡ true)
      ↔ ((missing kind b ≡ false) × ((missing kind a ≡ true) ⊎ (value_of kind a <ℤ value_of kind b)))
  pub irreflexive : (a : ℕ) → less_cell kind a a ≡ false
  pub transitive : (a b c : ℕ) → less_cell kind a b ≡ true → less_cell kind b c ≡ true → less_cell kind a c ≡ true
  pub total : {a b : ℕ} → a < 2 ^ 32 → b < 2 ^ 32
      → (less_cell kind a b ≡ true) ⊎ ((a ≡ b) ⊎ (less_cell kind b a ≡ true))
  pub keyed : {a b : ℕ} → a < 2 ^ 32 → b < 2 ^ 32 → nat_lt (key kind a) (key kind b) ≡ less_cell kind a b
  pub apart : {a b : ℕ} → a < 2 ^ 32 → b < 2 ^ 32 → key kind a ≡ key kind b → a ≡ b

-- The raised numbers of cells of any two kinds stand in the order of the integers that the cells mean.
unfoldable pub OrderedAcross : Type 0
OrderedAcross =
    (kind kind2 a b : ℕ)
    → a < 2 ^ 32 → b < 2 ^ 32
    → (raised kind a < raised kind2 b) ↔ (value_of kind a <ℤ value_of kind2 b)

-- Two cells match exactly if they are one and it is not missing.
unfoldable pub MatchesMean : Type 0
MatchesMean = (kind a b : ℕ) → (matches kind a b ≡ true) ↔ ((missing kind a ≡ false) × (a ≡ b))

-- neither of two cells is missing, each of its own kind
abbrev pub BothStated : ℕ → ℕ → ℕ → ℕ → Type 0
BothStated kind kind2 a b = (missing kind a ≡ false) × (missing kind2 b ≡ false)

-- Each operator's test passes exactly if neither cell is missing and what the operator says of the two values is so,
-- each taken by its own kind.
unfoldable pub OperatorsMean : Type 0
OperatorsMean =
    (o : Operator) (kind kind2 a b : ℕ)
    → (holds (operator_number o) kind kind2 a b ≡ true)
    ↔ (BothStated kind kind2 a b × Means o (value_of kind a) (value_of kind2 b))

-- The built-in table "allows 0 and 1 within names and within angles, all six within lengths and within dates, and
-- none between different kinds", and nothing else, whatever number stands in an operator's place. The kinds stand here
-- by their numbers, "0 name", "1 length", "2 angle", "3 date"; a number over 3 is no kind.
pub record TableAllows : Type 0 where
  pub names : (operator : ℕ) → (allows built_in operator 0 0 ≡ true) ↔ ((operator ≡ 0) ⊎ (operator ≡ 1))
  pub angles : (operator : ℕ) → (allows built_in operator 2 2 ≡ true) ↔ ((operator ≡ 0) ⊎ (operator ≡ 1))
  pub lengths : (operator : ℕ) → (allows built_in operator 1 1 ≡ true) ↔ ((o : Operator) × (operator_number o ≡ operator))
  pub dates : (operator : ℕ) → (allows built_in operator 3 3 ≡ true) ↔ ((o : Operator) × (operator_number o ≡ operator))
  pub between : (operator left right : ℕ) → ¬ (left ≡ right) → allows built_in operator left right ≡ false
  pub no_kind : (operator kind : ℕ) → 3 < kind → allows built_in operator kind kind ≡ false

-- Any table allows an operator exactly by its byte: "byte 4 times left kind plus right kind being that pair's operators
-- (bit n for operator n)" (request 7).
unfoldable pub AllowedByItsByte : Type 0
AllowedByItsByte =
    (table : List ℕ) (operator left right : ℕ)
    → operator < 6 → left < 4 → right < 4
    → (allows table operator left right ≡ true) ↔ (slice_index table (4 * left + right) / 2 ^ operator % 2 ≡ 1)

-- Which cells are in range: of angles "0 to 35,999", of the other kinds all of 32 bits; and a missing one (request 5).
pub record InRangeMeans : Type 0 where
  pub angles : (cell : ℕ) → (in_range 2 cell ≡ true) ↔ ((cell ≤ 35999) ⊎ (cell ≡ 4294967295))
  pub others : (kind cell : ℕ) → kind < 4 → ¬ (kind ≡ 2) → cell < 2 ^ 32 → in_range kind cell ≡ true

-- A table passes the test of its rules exactly if it keeps them.
unfoldable pub RulesTested : Type 0
RulesTested = (table : List ℕ) → (keeps_rules table ≡ true) ↔ TableRules table

-- The built-in table keeps them.
unfoldable pub BuiltInKeeps : Type 0
BuiltInKeeps = TableRules built_in

-- A comparison that a table allows is one of the six operators and means that neither cell is missing and what that
-- operator says of the two values, each taken by its own kind.
unfoldable pub AllowedMeans : Type 0
AllowedMeans =
    (table : List ℕ) (operator left right a b : ℕ)
    → allows table operator left right ≡ true
    → (o : Operator)
    × (operator_number o ≡ operator)
    × ((holds operator left right a b ≡ true)
    ↔ (BothStated left right a b × Means o (value_of left a) (value_of right b)))

-- Turning the sides and taking the mirrored operator changes neither what a table that keeps the rules allows nor what
-- holds. Where neither cell is missing, the opposite operator holds exactly if the operator does not; where one is,
-- neither holds.
pub record Turned : Type 0 where
  pub allowed : (table : List ℕ) → TableRules table → (operator left right : ℕ)
      → allows table (mirror operator) right left ≡ allows table operator left right
  pub held : (operator kind kind2 a b : ℕ) → holds (mirror operator) kind2 kind b a ≡ holds operator kind kind2 a b
  pub denied : (operator kind kind2 a b : ℕ) → operator < 6 → BothStated kind kind2 a b
      → holds (opposite operator) kind kind2 a b ≡ not (holds operator kind kind2 a b)
  pub neither : (operator kind kind2 a b : ℕ) → (missing kind a ≡ true) ⊎ (missing kind2 b ≡ true)
      → holds operator kind kind2 a b ≡ false
