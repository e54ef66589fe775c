-- What is proved of a run, for the bytes of any book and any input. The proofs are in `proofs/Theorems.antt`.
-- In order: one query, the value kinds of its items, step after step, the printout.
-- Assumes nothing.
use Rattle.std.specs.Prelude.{◌≡◌, true, false, List, [], ◌∷◌, ◌++◌, ℕ, ◌+◌, ◌≤◌, ◌<◌, ◌^◌, length, drop}
use Rattle.book.specs.Reading.{read}
use Rattle.connection.specs.Answers.{item_kinds}
use Rattle.connection.specs.Answering.{query_read, rows_answered, number, space_after}
use Rattle.printout.specs.Lines.{answer_text, book_refused, query_refused, FitToPrint}
use Rattle.run.specs.Running.{kinds_of, full_text, text_of, opening_text, printout, opening_of, step_of}
use Rattle.run.specs.Items.{item_kinds_of}

-- ---- one query

-- a query that is answered, over a space of 8,192 cells: its answer is fit to print, what is printed is the text of that
-- answer, the bytes that the unit has are room enough, and it is read in part at least
pub record AnsweredPrints (b q : List ℕ) (serial : ℕ) (space : List ℕ) : Type 0 where
  pub fit : FitToPrint (length (rows_answered b q)) (kinds_of b q) (space_after b q serial space)
  pub text : full_text b q serial
      ≡ answer_text (serial + 1) (length (rows_answered b q)) (kinds_of b q) (space_after b q serial space)
  pub fits : length (full_text b q serial) ≤ 98327
  pub some : 1 ≤ (query_read (read b) q).read
  pub inside : (query_read (read b) q).read ≤ length q
  pub serials : serial + 1 < 2 ^ 32

-- a step: what it prints fits the bytes that the unit has, and one that goes on has read some of what there is
pub record StepInside (b q : List ℕ) (serial : ℕ) : Type 0 where
  pub printed : (step_of b q serial).printed ≤ 98327
  pub some : (step_of b q serial).more ≡ true → 1 ≤ (step_of b q serial).read
  pub read : (step_of b q serial).read ≤ length q
  pub serials : (step_of b q serial).serial < 2 ^ 32

-- the opening: it fits the bytes too, and only a good book goes on
pub record OpeningInside (refusal input : ℕ) : Type 0 where
  pub printed : refusal < 256 → (opening_of refusal input).printed ≤ 98327
  pub good : (opening_of refusal input).more ≡ true → refusal ≡ 0

-- ---- the value kinds of its items: none where the book is refused or the query is refused for itself, else those of
-- all its items in their order

pub record KindsGiven (b q : List ℕ) : Type 0 where
  pub refused_book : 0 < (read b).number → item_kinds_of b q ≡ []
  pub refused_query : 0 < (query_read (read b) q).number → item_kinds_of b q ≡ []
  pub good : (read b).number ≡ 0 → (query_read (read b) q).number ≡ 0
      → item_kinds_of b q ≡ item_kinds (read b) (query_read (read b) q).asking

-- ---- step after step

-- the steps over the bytes q from a serial on, and what they print together: a step where there are bytes, and another
-- one behind it where it says so, on the bytes that it left
pub data Steps (b : List ℕ) : List ℕ → ℕ → List ℕ → Type 0 where
  -- "until the bytes are used up"
  used_up : {serial : ℕ} → Steps b [] serial []
  -- "or one is refused"
  last : {x serial : ℕ} {q : List ℕ} → (step_of b (x ∷ q) serial).more ≡ false
      → Steps b (x ∷ q) serial (text_of b (x ∷ q) serial)
  next : {x serial : ℕ} {q rest : List ℕ} → (step_of b (x ∷ q) serial).more ≡ true
      → Steps b (drop (step_of b (x ∷ q) serial).read (x ∷ q)) (step_of b (x ∷ q) serial).serial rest
      → Steps b (x ∷ q) serial (text_of b (x ∷ q) serial ++ rest)

-- ---- the printout

pub record RunPrints (b input : List ℕ) : Type 0 where
  -- a run that is over before any query prints the opening
  pub opening : (opening_of (read b).number (length input)).more ≡ false
      → printout b input ≡ opening_text (read b).number (length input)
  -- any other prints nothing before them, then what the steps print: there is an end to them, and one printout only
  pub nothing : (opening_of (read b).number (length input)).more ≡ true
      → opening_text (read b).number (length input) ≡ []
  pub steps : (opening_of (read b).number (length input)).more ≡ true → Steps b input 0 (printout b input)
  pub only : (opening_of (read b).number (length input)).more ≡ true
      → (text : List ℕ) → Steps b input 0 text → text ≡ printout b input
  -- "A refused book prints `book refused N` only"
  pub refused_book : (n : ℕ) → 0 < n → (read b).number ≡ n → printout b input ≡ book_refused n
  -- "Standard input over 65,536 bytes in all prints `query refused 1` only, if the book is good."
  pub too_long : (read b).number ≡ 0 → 65536 < length input → printout b input ≡ query_refused 1
  -- "It answers queries until the bytes are used up or one is refused."
  pub answered : (read b).number ≡ 0 → length input ≤ 65536 → Steps b input 0 (printout b input)
  -- "with a space of 8,192 cells": of a step, its answer or "a refused query `query refused N`"
  pub step_answered : (q : List ℕ) (serial : ℕ) → number b q serial 8192 ≡ 0 → text_of b q serial ≡ full_text b q serial
  pub step_refused : (q : List ℕ) (serial n : ℕ) → 0 < n → number b q serial 8192 ≡ n
      → text_of b q serial ≡ query_refused n
  -- what is printed for each step is as many bytes as it says
  pub counted : (q : List ℕ) (serial : ℕ) → (step_of b q serial).printed ≡ length (text_of b q serial)
