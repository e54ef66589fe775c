-- Reading a book in the paper's words: records that were read one after another without a fault, and where reading
-- stops. That `read` gives exactly this is a theorem (`Statements`).
-- In order: accepted records, a faulty record, the end. Not here: both for any rules (`records`).
-- Assumes nothing.
use Rattle.std.specs.Prelude.{◌≡◌, true, false, List, ℕ, ◌≤◌, length}
use Rattle.records.specs.Records.{of_book}
use Rattle.records.specs.Walking as Walking
use Rattle.records.specs.declared.Record.{Record}
use Rattle.scheme.specs.declared.Scheme.{Scheme}
use Rattle.scheme.specs.OfScheme.{both_of, cyclic_of}
use Rattle.book.specs.Faults.{fault_of}
use Rattle.book.specs.Reading.{Held, nothing_held, book_rules}

-- ---- accepted records

-- the records rs were read one after another from the start of b, and none was faulty in the scheme that those before
-- it made: "A record uses only what stands before it." h is what they make, at the position behind the last
abbrev pub AcceptedAs : List ℕ → List Record → Held → ℕ → Type 0
AcceptedAs b rs h at = Walking.Accepted book_rules b nothing_held rs h at

-- s is the scheme that they make, rows the positions of the rows among them
abbrev pub Accepted : List ℕ → List Record → Scheme → List ℕ → ℕ → Type 0
Accepted b rs s rows at = AcceptedAs b rs (record { scheme = s; rows = rows }) at

-- ---- a faulty record

-- what stands at a position has the fault n, in the scheme of what stands before it:
-- "kind not allowed 2; body cut short 3", or 4 to 7 of a whole record of a book
abbrev pub Faulty : List ℕ → Scheme → ℕ → ℕ → Type 0
Faulty b s at n = Walking.Faulty of_book (fault_of s) b at n

-- ---- the end: the faults of the whole scheme "After the last record"

pub data AtLast (s : Scheme) : ℕ → Type 0 where
  -- "21 a book with both kinds, in place of 8"
  both : both_of s ≡ true → AtLast s 21
  -- "a remaining maximal object with a cycle 9"
  cyclic : both_of s ≡ false → cyclic_of s ≡ true → AtLast s 9
  good : both_of s ≡ false → cyclic_of s ≡ false → AtLast s 0

-- reading stops at a position with a number: at a faulty record or at the end
pub data Stops (b : List ℕ) (s : Scheme) (at : ℕ) : ℕ → Type 0 where
  faulty : {n : ℕ} → Faulty b s at n → Stops b s at n
  at_end : {n : ℕ} → length b ≤ at → AtLast s n → Stops b s at n
