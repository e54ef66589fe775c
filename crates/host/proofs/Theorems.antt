-- The theorems of `Statements`, in its order.
-- Assumes nothing.
use mathlib.Core.Path.{◌∙◌}
use mathlib.Core.List.{List}
use Prim.Native.Nat.{ℕ}
use Rattle.run.specs.Items.{item_kinds_of}
use Rattle.printout.specs.Printing.{Printed}
use Rattle.host.specs.Words.{words_printed, words_after}
use Rattle.host.specs.Statements.{AnswerGiven, BytesGiven, SheetReported, NothingChanged, WordsSaid}
use Rattle.host.proofs.Places as Places
use Rattle.host.proofs.Words as Words

-- ---- an answer

pub answer_given : (b q : List ℕ) (serial : ℕ) (space results : List ℕ) → AnswerGiven b q serial space results
answer_given b q serial space results = record {
  refusal = Places.refusal_given b q serial space results;
  answer = Places.answer_given b q serial space results;
  done = Places.answer_done b q serial space results;
  short = Places.answer_short b q serial space results;
  others = Places.answer_others b q serial space results;
  as_many = Places.answer_as_many b q serial space results;
}

-- ---- bytes that are given

pub bytes_given : (p : Printed) (after before results : List ℕ) → BytesGiven p after before results
bytes_given p after before results = record {
  done = Places.given_done p after before results;
  count = Places.given_count p after before results;
  bytes = Places.given_bytes_law p after before results;
  no_room = Places.given_no_room p after before results;
  not_fit = Places.given_not_fit p after before results;
  short = Places.given_short p after before results;
  others = Places.given_others p after before results;
  as_many = Places.given_as_many p after before results;
}

-- ---- a sheet

pub sheet_reported : (n : ℕ) (after before results : List ℕ) → SheetReported n after before results
sheet_reported n after before results = record {
  done = Places.sheet_done n after before results;
  short = Places.sheet_short n after before results;
  others = Places.sheet_others n results;
  as_many = Places.sheet_as_many n results;
}

-- ---- a status other than 0

pub nothing_changed : (out results : List ℕ) → NothingChanged out results
nothing_changed out results = record {
  kinds = λ b q. Places.unchanged _ _ out results (Places.text_stays out (item_kinds_of b q));
  answer = λ serial rows kinds cells.
      Places.unchanged _ _ out results (Places.answer_stays out serial rows kinds cells);
  words = λ n. Places.unchanged _ _ out results (Places.words_stay out n);
}

-- ---- the words of refusals

pub words_said : WordsSaid
words_said = record {
  some = Words.words_exactly;
  apart = Words.words_apart;
  fit = Words.words_fit;
  said = Words.words_given;
  none = λ n out results f h.
      let (p, a) = Words.none_given n out f in
      let (status, same) = Places.given_not_fit (words_printed n out) (words_after n out) out results h p in
      (status, (Places.given_bytes_law (words_printed n out) (words_after n out) out results h ∙ a, same));
}
