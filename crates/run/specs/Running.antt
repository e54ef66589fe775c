-- What the unit prints for the bytes of a book and of its input: "The unit's printout" of the paper.
-- In order: one query, the queries of the input, the whole printout, what the code gives.
-- Not here: the lines (`printout`), the answer to a query (`connection`).
-- Assumes nothing.
use Rattle.std.specs.Prelude.{Ok, Err, true, false, List, [], ◌∷◌, ◌++◌, ℕ, zero, suc, ◌+◌, eqb, ltb, length, drop}
use Rattle.book.specs.Reading.{read}
use Rattle.connection.specs.Answers.{item_kinds}
use Rattle.connection.specs.Answering.{query_read, rows_answered, number}
use Rattle.printout.specs.Lines.{head_line, row_lines, book_refused, query_refused}
use Rattle.printout.specs.Printing.{Printed}
use Rattle.run.specs.declared.Stepped.{Stepped}

-- ---- one query, at the front of the bytes q

-- "with a space of 8,192 cells"
abbrev pub room : ℕ
room = 8192

-- the number that the query is refused with, or 0
abbrev pub number_of : List ℕ → List ℕ → ℕ → ℕ
number_of b q serial = number b q serial room

-- the value kinds of its items
abbrev pub kinds_of : List ℕ → List ℕ → List ℕ
kinds_of b q = item_kinds (read b) (query_read (read b) q).asking

-- "An answer prints `Q`, the new serial, `rows`, the count, then one line a row"
unfoldable pub full_text : List ℕ → List ℕ → ℕ → List ℕ
full_text b q serial = head_line (serial + 1) (length (rows_answered b q)) ++ row_lines (kinds_of b q) (rows_answered b q)

-- its answer, or "a refused query `query refused N`"
unfoldable pub text_of : List ℕ → List ℕ → ℕ → List ℕ
text_of b q serial =
    elim (eqb (number_of b q serial) 0) [
      | true ↦ full_text b q serial
      | false ↦ query_refused (number_of b q serial)
    ]

-- ---- the queries of the input

-- "It answers queries until the bytes are used up or one is refused.": at most n queries
unfoldable pub answers_within : ℕ → List ℕ → List ℕ → ℕ → List ℕ
answers_within zero b q serial = []
answers_within (suc n) b [] serial = []
answers_within (suc n) b (x ∷ q) serial =
    elim (eqb (number_of b (x ∷ q) serial) 0) [
      | true ↦ full_text b (x ∷ q) serial
          ++ answers_within n b (drop (query_read (read b) (x ∷ q)).read (x ∷ q)) (serial + 1)
      | false ↦ query_refused (number_of b (x ∷ q) serial)
    ]

-- a query that is answered has a byte at least, so there are no more queries than bytes
unfoldable pub answers : List ℕ → List ℕ → ℕ → List ℕ
answers b q serial = answers_within (length q) b q serial

-- ---- the whole printout

-- before any query: "A refused book prints `book refused N` only"; "Standard input over 65,536 bytes in all prints
-- `query refused 1` only, if the book is good."
unfoldable pub opening_text : ℕ → ℕ → List ℕ
opening_text refusal input =
    elim (eqb refusal 0) [
      | true ↦ elim (ltb 65536 input) [ true ↦ query_refused 1 | false ↦ [] ]
      | false ↦ book_refused refusal
    ]

-- "with a space of 8,192 cells and serial 0"; "Empty input prints nothing if the book is good." A book file "that can't
-- be opened counts as an empty book": b is then []
unfoldable pub printout : List ℕ → List ℕ → List ℕ
printout b input =
    elim (eqb (read b).number 0) [
      | true ↦ elim (ltb 65536 (length input)) [ true ↦ query_refused 1 | false ↦ answers b input 0 ]
      | false ↦ book_refused (read b).number
    ]

-- ---- what the code gives: how many bytes to print, how many were read of the input, the serial, whether to go on

-- the bytes of a text that was printed
unfoldable pub bytes_of : Printed → ℕ
bytes_of (Ok n) = n
bytes_of (Err e) = 0

unfoldable pub opening_of : ℕ → ℕ → Stepped
opening_of refusal input = record {
  printed = length (opening_text refusal input);
  read = 0;
  serial = 0;
  more = elim (eqb refusal 0) [ true ↦ elim (ltb 65536 input) [ true ↦ false | false ↦ true ] | false ↦ false ];
}

-- a refused query ends the run
abbrev pub stopped : ℕ → ℕ → Stepped
stopped n serial = record { printed = length (query_refused n); read = 0; serial = serial; more = false }

unfoldable pub step_of : List ℕ → List ℕ → ℕ → Stepped
step_of b q serial =
    elim (eqb (number_of b q serial) 0) [
      | true ↦ record {
        printed = length (full_text b q serial);
        read = (query_read (read b) q).read;
        serial = serial + 1;
        more = true;
      }
      | false ↦ stopped (number_of b q serial) serial
    ]
