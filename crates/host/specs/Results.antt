-- What a host program is given back, for all inputs: the status of a call, its results and every lent cell.
-- In order: statuses, an answer, bytes that are given, a sheet.
-- Not here: the words of a refusal (`Words`).
-- Assumes nothing.
use Rattle.std.specs.Prelude.{Ok, Err, Bool, true, false, List, [], ◌∷◌, ◌++◌, ℕ, ltb, length, drop}
use Rattle.refusals.specs.Refusals.{number_of_any}
use Rattle.connection.specs.declared.Answer.{Answer}
use Rattle.connection.specs.Answering.{answer_of, space_after}
use Rattle.printout.specs.Printing.{Printed}
use Rattle.printout.specs.declared.Unprinted.TheVariants.{NoRoom, NotFit}

-- ---- statuses: with any but the first nothing is changed

abbrev pub done : ℕ
done = 0

-- lent cells or bytes are too few
abbrev pub short : ℕ
short = 1

-- an answer that is not "fit to print", or no refusal has the number
abbrev pub not_fit : ℕ
not_fit = 2

-- ---- an answer: four results

-- "A refusal returns its number, row count 0, the serial unchanged and 0 query bytes read."; "A full answer returns the
-- row count, the serial plus one and the bytes of query read"
unfoldable pub answer_cells : Answer → List ℕ
answer_cells a = number_of_any a.refusal ∷ a.rows ∷ a.serial ∷ a.read ∷ []

-- no room for them
abbrev pub too_few : List ℕ → Bool
too_few results = ltb (length results) 4

unfoldable pub answer_status : List ℕ → ℕ
answer_status results = elim (too_few results) [ true ↦ short | false ↦ done ]

unfoldable pub answer_results : List ℕ → List ℕ → ℕ → ℕ → List ℕ → List ℕ
answer_results b q serial room results =
    elim (too_few results) [
      | true ↦ results
      | false ↦ answer_cells (answer_of b q serial room) ++ drop 4 results
    ]

unfoldable pub answer_space : List ℕ → List ℕ → ℕ → List ℕ → List ℕ → List ℕ
answer_space b q serial space results =
    elim (too_few results) [ true ↦ space | false ↦ space_after b q serial space ]

-- ---- bytes that are given: one result, how many they are

unfoldable pub give_status : Printed → ℕ
give_status (Ok n) = done
give_status (Err NoRoom) = short
give_status (Err NotFit) = not_fit

unfoldable pub give_results : Printed → List ℕ → List ℕ
give_results (Ok n) results = n ∷ drop 1 results
give_results (Err NoRoom) results = results
give_results (Err NotFit) results = results

-- the same where there may be no room for the result
unfoldable pub given_status : Printed → List ℕ → ℕ
given_status p results = elim (ltb (length results) 1) [ true ↦ short | false ↦ give_status p ]

unfoldable pub given_results : Printed → List ℕ → List ℕ
given_results p results = elim (ltb (length results) 1) [ true ↦ results | false ↦ give_results p results ]

-- the bytes `after` printing, or those `before` it
unfoldable pub given_bytes : List ℕ → List ℕ → List ℕ → List ℕ
given_bytes after before results = elim (ltb (length results) 1) [ true ↦ before | false ↦ after ]

-- ---- a sheet: one result, its number 0, 18 or 19

unfoldable pub sheet_status : List ℕ → ℕ
sheet_status results = elim (ltb (length results) 1) [ true ↦ short | false ↦ done ]

unfoldable pub sheet_results : ℕ → List ℕ → List ℕ
sheet_results number results = elim (ltb (length results) 1) [ true ↦ results | false ↦ number ∷ drop 1 results ]
