-- The statements of `specs/Statements`, in their order.
-- Assumes nothing.
use mathlib.Core.Path.{◌≡◌}
use mathlib.Core.List.{List}
use Prim.Native.Nat.{ℕ}
use Rattle.grammar.specs.Grammar.{Reading, HasReading}
use Rattle.grammar.specs.Statements.{ParsesExactly, OneReading}
use Rattle.grammar.proofs.Texts.{parse_reading, reading_parse}

pub parses_exactly : ParsesExactly
parses_exactly = record { exactly = λ text r. (parse_reading text r, reading_parse text r) }

pub one_reading : OneReading
one_reading = record { one = same }
  where
    same : (text : List ℕ) (r r' : Reading) → HasReading text r → HasReading text r' → r ≡ r'
    same text r r' h k = let e = reading_parse text r h in let f = reading_parse text r' k in cc
