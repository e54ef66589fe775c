-- Reading the bytes of a book: the number that it is refused with or 0, the scheme, and where its rows stand.
-- In order: rows, reading record after record, after the last record, the book, what the code gives.
-- Not here: walking records by rules (`records`), the fault of a whole record (`Faults`), what it adds (`Declaring`).
-- Assumes nothing.
use Rattle.std.specs.Prelude.{Bool, true, false, ◌||◌, List, [], ◌∷◌, ◌++◌, ℕ, eqb, ltb, length, take, drop}
use Rattle.refusals.specs.Refusals.{refusal_of_number}
use Rattle.records.specs.Records.{of_book, kind_of}
use Rattle.records.specs.Walking.{Rules, Stop, unread_number, walk}
use Rattle.records.specs.declared.Owner.TheVariants as Owners
use Rattle.records.specs.declared.Record.{Record}
use Rattle.records.specs.declared.Reading.{Reading}
use Rattle.scheme.specs.declared.Scheme.{Scheme}
use Rattle.scheme.specs.OfScheme.{MAXIMALS, maximal_of, both_of, cyclic_of}
use Rattle.reduction.specs.Packed.{padded}
use Rattle.book.specs.declared.Book.{Book}
use Rattle.book.specs.declared.Walked.{Walked}
use Rattle.book.specs.Faults.{fault_of}
use Rattle.book.specs.Declaring.{nothing_declared, declare}

-- what reading gives: a refused book has the scheme and the rows of the records before the fault
pub record Outcome : Type 0 where
  pub number : ℕ
  pub scheme : Scheme
  pub rows : List ℕ

-- ---- rows

-- "row of a table", kind 4
unfoldable pub is_row : Record → Bool
is_row r = eqb (kind_of r) 4

-- the positions of the rows so far, with that of record r at position at if it is a row
unfoldable pub with_row : List ℕ → Record → ℕ → List ℕ
with_row rows r at = elim (is_row r) [ true ↦ rows ++ at ∷ [] | false ↦ rows ]

-- ---- reading record after record

-- the number where no whole record stands: 0 at the end
abbrev pub stop_number : Reading → ℕ
stop_number = unread_number Owners.Book

-- what the records before a position make: the scheme, and the positions of the rows among them
pub record Held : Type 0 where
  pub scheme : Scheme
  pub rows : List ℕ

abbrev pub nothing_held : Held
nothing_held = record { scheme = nothing_declared; rows = [] }

-- the rules that the records of a book are walked by. No record is the last: a book is read to the end of its bytes
abbrev pub book_rules : Rules Held
book_rules = record {
  allowed = of_book;
  fault = λ h r. fault_of h.scheme r;
  taken = λ h r at. record { scheme = declare h.scheme r; rows = with_row h.rows r at };
  is_last = λ r. false;
  unended = 0;
}

abbrev pub outcome_of : Stop Held → Outcome
outcome_of w = record { number = w.number; scheme = w.state.scheme; rows = w.state.rows }

-- the records from the start on, to "the earliest faulty record" or the end
unfoldable pub records : List ℕ → Outcome
records b = outcome_of (walk book_rules b nothing_held)

-- what the code has of them
unfoldable pub walked_of : Outcome → Walked
walked_of o = record { refusal = refusal_of_number o.number; rows = length o.rows; scheme = o.scheme }

-- ---- "After the last record": "21 a book with both kinds, in place of 8"; "a remaining maximal object with a cycle 9."

unfoldable pub last_number : Bool → Bool → ℕ
last_number true cyclic = 21
last_number false true = 9
last_number false false = 0

unfoldable pub last_fault : Scheme → ℕ
last_fault s = last_number (both_of s) (cyclic_of s)

unfoldable pub after_last : Outcome → Outcome
after_last o =
    elim (eqb o.number 0) [
      | true ↦ record { number = last_fault o.scheme; scheme = o.scheme; rows = o.rows }
      | false ↦ o
    ]

-- ---- the book

-- "Over 65,536 bytes: 1. Then the earliest faulty record"
unfoldable pub read : List ℕ → Outcome
read b =
    elim (ltb 65536 (length b)) [
      | true ↦ record { number = 1; scheme = nothing_declared; rows = [] }
      | false ↦ after_last (records b)
    ]

-- ---- what the code gives

-- the maximal objects of the scheme where all records were accepted: where the number is 0, 21 or 9
unfoldable pub maximals_of : Outcome → List ℕ
maximals_of o =
    elim (eqb o.number 0 || eqb o.number 21 || eqb o.number 9) [ true ↦ maximal_of o.scheme | false ↦ [] ]

-- the refusal with a number, a count of rows, a scheme and a list of maximal objects, at most MAXIMALS, with 0 behind them
unfoldable pub book_with : ℕ → ℕ → Scheme → List ℕ → Book
book_with number rows s l =
    record { refusal = refusal_of_number number; rows = rows; scheme = s; maximal = padded MAXIMALS l; maximals = length l }

unfoldable pub book_of : Outcome → Book
book_of o = book_with o.number (length o.rows) o.scheme (maximals_of o)

-- what lent cells hold afterwards: the positions of the rows, as many as there are cells for; cells past them keep what
-- they held
unfoldable pub stored : List ℕ → List ℕ → List ℕ
stored rows cells = take (length cells) rows ++ drop (length rows) cells
