-- What is proved of what a host program is given back, for all inputs. The proofs are in `proofs/Theorems.antt`.
-- In order: an answer, bytes that are given, a sheet, a status other than 0, the words of refusals.
-- Not here: which value kinds are given (`KindsGiven` of `run`), the text of an answer (`printout`).
-- Assumes nothing.
use Rattle.std.specs.Prelude.{Ok, Err, ◌≡◌, ◌⊎◌, ◌↔◌, List, ℕ, ◌+◌, ◌≤◌, ◌<◌, length, get_or}
use Rattle.book.specs.Reading.{read}
use Rattle.connection.specs.Answering.{query_read, rows_answered, number, space_after}
use Rattle.printout.specs.Printing.{Printed, printed, after, answer_printed, after_answer}
use Rattle.printout.specs.declared.Unprinted.TheVariants.{NoRoom, NotFit}
use Rattle.run.specs.Items.{item_kinds_of}
use Rattle.host.specs.Results.{answer_status, answer_results, answer_space, given_status, given_results, given_bytes}
use Rattle.host.specs.Results.{sheet_status, sheet_results}
use Rattle.host.specs.Words.{words_of, words_printed, words_after}

-- ---- an answer

-- the first four results, by place
pub record FourResults (results : List ℕ) (refusal rows serial bytes : ℕ) : Type 0 where
  pub in_zero : get_or results 0 0 ≡ refusal
  pub in_one : get_or results 1 0 ≡ rows
  pub in_two : get_or results 2 0 ≡ serial
  pub in_three : get_or results 3 0 ≡ bytes

pub record AnswerGiven (b q : List ℕ) (serial : ℕ) (space results : List ℕ) : Type 0 where
  -- "A refusal returns its number, row count 0, the serial unchanged and 0 query bytes read."
  pub refusal : 4 ≤ length results → (n : ℕ) → 0 < n → number b q serial (length space) ≡ n
      → FourResults (answer_results b q serial (length space) results) n 0 serial 0
  -- "A full answer returns the row count, the serial plus one and the bytes of query read"
  pub answer : 4 ≤ length results → number b q serial (length space) ≡ 0
      → FourResults (answer_results b q serial (length space) results) 0 (length (rows_answered b q)) (serial + 1)
      (query_read (read b) q).read
  -- either is status 0, and the space is as answering leaves it
  pub done : 4 ≤ length results
      → (answer_status results ≡ 0) × (answer_space b q serial space results ≡ space_after b q serial space)
  -- too few results: status 1, and nothing is changed
  pub short : length results < 4
      → (answer_status results ≡ 1)
      × ((answer_space b q serial space results ≡ space) × (answer_results b q serial (length space) results ≡ results))
  -- the results behind the first four stay
  pub others : (i : ℕ) → 4 ≤ i → get_or (answer_results b q serial (length space) results) i 0 ≡ get_or results i 0
  pub as_many : length (answer_results b q serial (length space) results) ≡ length results

-- ---- bytes that are given: p is what printing them came to, `after` the lent bytes then, `before` as they were

pub record BytesGiven (p : Printed) (after before results : List ℕ) : Type 0 where
  -- status 0 exactly where they were given and there is a place for the result: how many they are
  pub done : (given_status p results ≡ 0) ↔ ((1 ≤ length results) × ((n : ℕ) × (p ≡ Ok n)))
  pub count : 1 ≤ length results → (n : ℕ) → p ≡ Ok n → get_or (given_results p results) 0 0 ≡ n
  pub bytes : 1 ≤ length results → given_bytes after before results ≡ after
  -- too few lent bytes: status 1
  pub no_room : p ≡ Err NoRoom → (given_status p results ≡ 1) × (given_results p results ≡ results)
  -- nothing that could be given: status 2
  pub not_fit : 1 ≤ length results → p ≡ Err NotFit → (given_status p results ≡ 2) × (given_results p results ≡ results)
  -- no place for the result: status 1, and nothing is changed
  pub short : length results < 1
      → (given_status p results ≡ 1)
      × ((given_bytes after before results ≡ before) × (given_results p results ≡ results))
  -- the results behind the first stay
  pub others : (i : ℕ) → 1 ≤ i → get_or (given_results p results) i 0 ≡ get_or results i 0
  pub as_many : length (given_results p results) ≡ length results

-- ---- a sheet: n is its number, 0, 18 or 19 (`SheetGiven` of `sheets`), `after` the lent bytes then

pub record SheetReported (n : ℕ) (after before results : List ℕ) : Type 0 where
  -- status 0 and the number, also where that is 18 or 19
  pub done : 1 ≤ length results
      → (sheet_status results ≡ 0)
      × ((get_or (sheet_results n results) 0 0 ≡ n) × (given_bytes after before results ≡ after))
  -- no place for the result: status 1, and nothing is changed
  pub short : length results < 1
      → (sheet_status results ≡ 1) × ((given_bytes after before results ≡ before) × (sheet_results n results ≡ results))
  -- the results behind the first stay
  pub others : (i : ℕ) → 1 ≤ i → get_or (sheet_results n results) i 0 ≡ get_or results i 0
  pub as_many : length (sheet_results n results) ≡ length results

-- ---- a status other than 0: nothing is changed

abbrev pub Unchanged : Printed → List ℕ → List ℕ → List ℕ → Type 0
Unchanged p after before results =
    (given_status p results ≡ 0 → ⊥) → (given_bytes after before results ≡ before) × (given_results p results ≡ results)

pub record NothingChanged (out results : List ℕ) : Type 0 where
  pub kinds : (b q : List ℕ) → Unchanged (printed (item_kinds_of b q) out) (after (item_kinds_of b q) out) out results
  pub answer : (serial rows : ℕ) (kinds cells : List ℕ)
      → Unchanged (answer_printed serial rows kinds cells out) (after_answer serial rows kinds cells out) out results
  pub words : (n : ℕ) → Unchanged (words_printed n out) (words_after n out) out results

-- ---- the words of refusals

-- the numbers of the fixed list that are given
abbrev pub Listed : ℕ → Type 0
Listed n = ((1 ≤ n) × (n ≤ 7)) ⊎ (((9 ≤ n) × (n ≤ 14)) ⊎ ((18 ≤ n) × (n ≤ 21)))

pub record WordsSaid : Type 0 where
  -- a number has words exactly if it is one of them; no two have the same, and 32 bytes are enough for each
  pub some : (n : ℕ) → (0 < length (words_of n)) ↔ Listed n
  pub apart : (m n : ℕ) → Listed m → Listed n → words_of m ≡ words_of n → m ≡ n
  pub fit : (n : ℕ) → length (words_of n) ≤ 32
  -- they are what is given for it; for any other number the status is 2, and nothing is changed
  pub said : (n : ℕ) (out : List ℕ) → Listed n
      → (words_printed n out ≡ printed (words_of n) out) × (words_after n out ≡ after (words_of n) out)
  pub none : (n : ℕ) (out results : List ℕ) → (Listed n → ⊥) → 1 ≤ length results
      → (given_status (words_printed n out) results ≡ 2)
      × ((given_bytes (words_after n out) out results ≡ out) × (given_results (words_printed n out) results ≡ results))
