-- Worked examples: texts with what the definitions give for them.
-- Assumes nothing.
use mathlib.Core.Path.{◌≡◌, refl}
use mathlib.Core.List.{List, [], ◌∷◌}
use mathlib.Core.Option.{none, some}
use Prim.Native.Nat.{ℕ}
use mathlib.Core.Bool.{true, false}
use Rattle.grammar.specs.Pieces.{is_capital, is_small, is_digit, is_space, is_letter_or_digit, every, last_of, word_bytes}
use Rattle.grammar.specs.Pieces.{operator_bytes, variable_bytes, constant_bytes, bytes_of, is_name, are_digits, is_variable}
use Rattle.grammar.specs.Pieces.{is_constant, is_piece, apart, Item, blank, letter, number}
use Rattle.grammar.specs.Pieces.{Equal, Less, AtMost}
use Rattle.grammar.specs.Grammar.{compared, negated, both, either, of_item, of_constant}
use Rattle.grammar.specs.Parser.{run, begins, fixed, first_of, item_from, constant_from, candidate, stands, checked}
use Rattle.grammar.specs.Parser.{next_front, next_at, word_number, behind, item_of, operator_of, operand_of, ◌and_then◌}
use Rattle.grammar.specs.Parser.{if_word, items_at, comparison_at, or_at, condition_at, whole, conditioned, text_end, head_at}
use Rattle.grammar.specs.Parser.{parse}

-- retrieve (t.LEAD, TRIP) where not (t.DEPTH < -1000) or TRIP = 7
abbrev pub request : List ℕ
request =
    114 ∷ 101 ∷ 116 ∷ 114 ∷ 105 ∷ 101 ∷ 118 ∷ 101 ∷ 32 ∷ 40 ∷ 116 ∷ 46 ∷ 76 ∷ 69 ∷ 65 ∷ 68 ∷ 44 ∷ 32 ∷ 84 ∷ 82
    ∷ 73 ∷ 80 ∷ 41 ∷ 32 ∷ 119 ∷ 104 ∷ 101 ∷ 114 ∷ 101 ∷ 32 ∷ 110 ∷ 111 ∷ 116 ∷ 32 ∷ 40 ∷ 116 ∷ 46 ∷ 68 ∷ 69
    ∷ 80 ∷ 84 ∷ 72 ∷ 32 ∷ 60 ∷ 32 ∷ 45 ∷ 49 ∷ 48 ∷ 48 ∷ 48 ∷ 41 ∷ 32 ∷ 111 ∷ 114 ∷ 32 ∷ 84 ∷ 82 ∷ 73 ∷ 80 ∷ 32
    ∷ 61 ∷ 32 ∷ 55 ∷ []

-- retrieve(A)where A<=B and(B<-1 or not not((C=1)))
abbrev pub tight : List ℕ
tight =
    114 ∷ 101 ∷ 116 ∷ 114 ∷ 105 ∷ 101 ∷ 118 ∷ 101 ∷ 40 ∷ 65 ∷ 41 ∷ 119 ∷ 104 ∷ 101 ∷ 114 ∷ 101 ∷ 32 ∷ 65 ∷ 60
    ∷ 61 ∷ 66 ∷ 32 ∷ 97 ∷ 110 ∷ 100 ∷ 40 ∷ 66 ∷ 60 ∷ 45 ∷ 49 ∷ 32 ∷ 111 ∷ 114 ∷ 32 ∷ 110 ∷ 111 ∷ 116 ∷ 32 ∷ 110
    ∷ 111 ∷ 116 ∷ 40 ∷ 40 ∷ 67 ∷ 61 ∷ 49 ∷ 41 ∷ 41 ∷ 41 ∷ []

-- retrieve(A)where A=1or B=2
abbrev pub meeting : List ℕ
meeting =
    114 ∷ 101 ∷ 116 ∷ 114 ∷ 105 ∷ 101 ∷ 118 ∷ 101 ∷ 40 ∷ 65 ∷ 41 ∷ 119 ∷ 104 ∷ 101 ∷ 114 ∷ 101 ∷ 32 ∷ 65 ∷ 61
    ∷ 49 ∷ 111 ∷ 114 ∷ 32 ∷ 66 ∷ 61 ∷ 50 ∷ []

-- retrieve(ABCDEFGHIJKLM)
abbrev pub thirteen : List ℕ
thirteen =
    114 ∷ 101 ∷ 116 ∷ 114 ∷ 105 ∷ 101 ∷ 118 ∷ 101 ∷ 40 ∷ 65 ∷ 66 ∷ 67 ∷ 68 ∷ 69 ∷ 70 ∷ 71 ∷ 72 ∷ 73 ∷ 74 ∷ 75
    ∷ 76 ∷ 77 ∷ 41 ∷ []

-- the items of these texts

abbrev pub lead : Item
lead = record { variable = letter 116; name = 76 ∷ 69 ∷ 65 ∷ 68 ∷ [] }

abbrev pub depth : Item
depth = record { variable = letter 116; name = 68 ∷ 69 ∷ 80 ∷ 84 ∷ 72 ∷ [] }

abbrev pub trip : Item
trip = record { variable = blank; name = 84 ∷ 82 ∷ 73 ∷ 80 ∷ [] }

abbrev pub named : ℕ → Item
named b = record { variable = blank; name = b ∷ [] }

-- "`not` binds before `and`, `and` before `or`"
pub request_reads : parse request
    ≡ some
    (record {
      items = lead ∷ trip ∷ [];
      condition = some
          (either
          (negated (compared (record {
            left = depth;
            by = Less;
            right = of_constant (number true (49 ∷ 48 ∷ 48 ∷ 48 ∷ []));
          })))
          (compared (record { left = trip; by = Equal; right = of_constant (number false (55 ∷ [])) })));
      depth = 1;
    })
unfolding parse head_at text_end conditioned whole condition_at or_at comparison_at items_at if_word ◌and_then◌ operand_of operator_of
    item_of behind word_number next_at next_front checked stands candidate constant_from item_from first_of fixed begins run apart
    is_piece is_constant is_variable are_digits is_name bytes_of constant_bytes variable_bytes operator_bytes word_bytes last_of every
    is_letter_or_digit is_space is_digit is_small is_capital
request_reads = refl

-- spaces only where two letters or digits would meet; three parentheses open at once
pub tight_reads : parse tight
    ≡ some
    (record {
      items = named 65 ∷ [];
      condition = some
          (both (compared (record { left = named 65; by = AtMost; right = of_item (named 66) }))
          (either
          (compared (record { left = named 66; by = Less; right = of_constant (number true (49 ∷ [])) }))
          (negated (negated
          (compared (record { left = named 67; by = Equal; right = of_constant (number false (49 ∷ [])) }))))));
      depth = 3;
    })
unfolding parse head_at text_end conditioned whole condition_at or_at comparison_at items_at if_word ◌and_then◌ operand_of operator_of
    item_of behind word_number next_at next_front checked stands candidate constant_from item_from first_of fixed begins run apart
    is_piece is_constant is_variable are_digits is_name bytes_of constant_bytes variable_bytes operator_bytes word_bytes last_of every
    is_letter_or_digit is_space is_digit is_small is_capital
tight_reads = refl

-- a digit and a letter meet
pub meeting_fails : parse meeting ≡ none
unfolding parse head_at text_end conditioned whole condition_at or_at comparison_at items_at if_word ◌and_then◌ operand_of operator_of
    item_of behind word_number next_at next_front checked stands candidate constant_from item_from first_of fixed begins run apart
    is_piece is_constant is_variable are_digits is_name bytes_of constant_bytes variable_bytes operator_bytes word_bytes last_of every
    is_letter_or_digit is_space is_digit is_small is_capital
meeting_fails = refl

-- a name of thirteen letters
pub thirteen_fails : parse thirteen ≡ none
unfolding parse head_at text_end conditioned whole condition_at or_at comparison_at items_at if_word ◌and_then◌ operand_of operator_of
    item_of behind word_number next_at next_front checked stands candidate constant_from item_from first_of fixed begins run apart
    is_piece is_constant is_variable are_digits is_name bytes_of constant_bytes variable_bytes operator_bytes word_bytes last_of every
    is_letter_or_digit is_space is_digit is_small is_capital
thirteen_fails = refl
