-- What is proved of typed queries, over all texts (`proofs/Theorems`).
-- In order: parsing and the grammar; one reading.
-- Assumes nothing.
use Rattle.std.specs.Prelude.{◌≡◌, ◌↔◌, List, ℕ}
use Rattle.std.proofs.Math.Option.{some}
use Rattle.grammar.specs.Grammar.{Reading, HasReading}
use Rattle.grammar.specs.Parser.{parse}

-- "a text passes 15 exactly if the grammar has it": parsing gives a reading exactly if the grammar has that reading
pub record ParsesExactly : Type 0 where
  pub exactly : (text : List ℕ) (r : Reading) → (parse text ≡ some r) ↔ HasReading text r

-- "and it then has one reading"
pub record OneReading : Type 0 where
  pub one : (text : List ℕ) (r r' : Reading) → HasReading text r → HasReading text r' → r ≡ r'
