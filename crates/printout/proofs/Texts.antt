-- Whole texts: the head line, and an answer or a refusal printed, the whole of it or nothing.
-- In order: two texts, one behind the other, the head line, a text printed, refusals, an answer.
-- Assumes nothing.
use mathlib.Core.Path.{◌≡◌, refl, sym, ap, subst, ◌∙◌}
use mathlib.Core.Bool.{Bool, true, false}
use mathlib.Core.List.{List, [], ◌∷◌, ◌++◌, append-nil}
use Prim.Native.Nat.{ℕ, ◌+◌, ◌^◌, ◌≤◌, ◌<◌}
use native.Mathlib.Nat.{zero-add}
use native.Mathlib.Omega.{arith}
use borrow.Author.Tests as Tests
use lib.ListN.{length, drop, length-append}
use Rattle.sets.proofs.Tests.{not_yes}
use Rattle.std.specs.Prelude.{Ok, Err}
use Rattle.printout.specs.declared.Unprinted.TheVariants.{NoRoom, NotFit}
use Rattle.printout.specs.Decimal.{decimal}
use Rattle.sorted.specs.Rows.{rows_in}
use Rattle.printout.specs.Lines.{behind, line, head_line, row_lines, answer_text, book_refused, query_refused}
use Rattle.printout.specs.Lines.{FitToPrint, fits}
use Rattle.printout.specs.Printing.{written, Printed, printed, after, answer_printed, after_answer}
use Rattle.printout.specs.Statements.{TextPrinted, AnswerPrinted}
use Rattle.printout.proofs.Fit.{fits_fit, fit_fits}
use Rattle.printout.proofs.Writing.{Writing, writing_start, writing_room, writing_next, writing_end}

-- ---- two texts, one behind the other

module _ (at : ℕ) (s t e : List ℕ) (room : at + length (s ++ t) ≤ length e) where
  pub first_room : at + length s ≤ length e
  first_room = omega (arith, length-append s t)

  module _ {end : ℕ} {mid : List ℕ} (p : end ≡ at + length s) (w : mid ≡ written at s e) where
    first_written : Writing at (s ++ t) e end t mid
    first_written = writing_next at (s ++ t) e (writing_start at (s ++ t) e room) s t refl p w

    pub second_room : end + length t ≤ length mid
    second_room = writing_room at (s ++ t) e first_written

    pub both_written : {to : ℕ} {out : List ℕ} → to ≡ end + length t → out ≡ written end t mid
        → (to ≡ at + length (s ++ t)) × (out ≡ written at (s ++ t) e)
    both_written q u =
        writing_end at (s ++ t) e (writing_next at (s ++ t) e first_written t [] (sym (append-nil t)) q u)

-- ---- the head line

-- `Q` and the serial, `rows` and the count, each with the spaces around the words
abbrev serial_text : ℕ → List ℕ
serial_text serial = 81 ∷ 32 ∷ decimal serial

abbrev count_text : ℕ → List ℕ
count_text rows = 32 ∷ 114 ∷ 111 ∷ 119 ∷ 115 ∷ 32 ∷ decimal rows

-- the serial as the code has it, the number x
module _ (serial rows : ℕ) {x : ℕ} (same : (x ≡ serial) × (x < 2 ^ 32)) where
  head_parts : head_line serial rows ≡ serial_text x ++ (count_text rows ++ 10 ∷ [])
  unfolding head_line line behind
  head_parts = ap (λ (n : ℕ). serial_text n ++ (count_text rows ++ 10 ∷ [])) (sym same.0)

  head_length : length (head_line serial rows) ≡ length (decimal x) + length (decimal rows) + 9
  head_length =
      ap length head_parts
      ∙ omega (arith, length-append (decimal x) (count_text rows ++ 10 ∷ []), length-append (decimal rows) (10 ∷ []))

  pub head_counted : {m n : ℕ} → (m ≡ length (decimal x)) × (m ≤ 20) → (n ≡ length (decimal rows)) × (n ≤ 20)
      → (m + n + 9 ≡ length (head_line serial rows)) × (m + n + 9 ≤ 49)
  head_counted p q = (omega (arith, p, q, head_length), omega (arith, p, q))

  module _ (e : List ℕ) (room : length (head_line serial rows) ≤ length e) where
    pub serial_room : 0 + length (serial_text x) ≤ length e
    serial_room = omega (arith, head_length)

    module _ {a : ℕ} {first : List ℕ} (p : a ≡ 0 + length (serial_text x)) (w : first ≡ written 0 (serial_text x) e) where
      serial_written : Writing 0 (head_line serial rows) e a (count_text rows ++ 10 ∷ []) first
      serial_written =
          writing_next 0 (head_line serial rows) e (writing_start 0 (head_line serial rows) e (omega arith))
          (serial_text x) (count_text rows ++ 10 ∷ []) head_parts p w

      pub count_room : a + length (count_text rows) ≤ length first
      count_room =
          omega (
            arith,
            writing_room 0 (head_line serial rows) e serial_written,
            length-append (decimal rows) (10 ∷ []),
          )

      module _ {b : ℕ} {second : List ℕ} (q : b ≡ a + length (count_text rows))
          (u : second ≡ written a (count_text rows) first) where
        count_written : Writing 0 (head_line serial rows) e b (10 ∷ []) second
        count_written =
            writing_next 0 (head_line serial rows) e serial_written (count_text rows) (10 ∷ []) refl q u

        pub feed_room : b < length second
        feed_room = omega (arith, writing_room 0 (head_line serial rows) e count_written)

        pub head_written : {to : ℕ} {out : List ℕ} → to ≡ b + 1 → out ≡ written b (10 ∷ []) second
            → (to ≡ 0 + length (head_line serial rows)) × (out ≡ written 0 (head_line serial rows) e)
        head_written r v =
            writing_end 0 (head_line serial rows) e
            (writing_next 0 (head_line serial rows) e count_written (10 ∷ []) [] refl r v)

-- ---- a text printed

module _ (text bytes : List ℕ) where
  abbrev result : Bool → Printed
  result t = elim t [ true ↦ Ok (length text) | false ↦ Err NoRoom ]

  abbrev left : Bool → List ℕ
  left t = elim t [ true ↦ text ++ drop (length text) bytes | false ↦ bytes ]

  pub text_printed : TextPrinted text bytes
  unfolding printed after
  text_printed = record {
    whole = λ h. let e = Tests.le-leb (length text) (length bytes) h in (ap result e, ap left e);
    no_room = λ h. let e = Tests.lt-leb (length text) (length bytes) h in (ap result e, ap left e);
  }

  -- as the code gives it
  pub whole_printed : length text ≤ length bytes → {n : ℕ} {out : List ℕ}
      → (n ≡ 0 + length text) × (out ≡ written 0 text bytes) → (Ok n ≡ printed text bytes) × (out ≡ after text bytes)
  unfolding written
  whole_printed h p = (
    ap Ok (p.0 ∙ zero-add (length text)) ∙ sym (text_printed.whole h).0,
    p.1 ∙ ap (λ (n : ℕ). text ++ drop n bytes) (zero-add (length text)) ∙ sym (text_printed.whole h).1,
  )

  pub none_printed : length bytes < length text → (Err NoRoom ≡ printed text bytes) × (bytes ≡ after text bytes)
  none_printed h = (sym (text_printed.no_room h).0, sym (text_printed.no_room h).1)

-- ---- refusals

-- `book refused ` and `query refused `
abbrev book_words : List ℕ
book_words = 98 ∷ 111 ∷ 111 ∷ 107 ∷ 32 ∷ 114 ∷ 101 ∷ 102 ∷ 117 ∷ 115 ∷ 101 ∷ 100 ∷ 32 ∷ []

abbrev query_words : List ℕ
query_words = 113 ∷ 117 ∷ 101 ∷ 114 ∷ 121 ∷ 32 ∷ 114 ∷ 101 ∷ 102 ∷ 117 ∷ 115 ∷ 101 ∷ 100 ∷ 32 ∷ []

module _ (words : List ℕ) (number : ℕ) (e : List ℕ) {m : ℕ} (p : m ≡ length (decimal number)) where
  abbrev refusal : List ℕ
  refusal = words ++ decimal number ++ 10 ∷ []

  refusal_length : length words + m + 1 ≡ length refusal
  refusal_length =
      omega (arith, p, length-append (words ++ decimal number) (10 ∷ []), length-append words (decimal number))

  pub refusal_none : length e < length words + m + 1 → (Err NoRoom ≡ printed refusal e) × (e ≡ after refusal e)
  refusal_none h = none_printed refusal e (omega (arith, refusal_length))

  module _ (h : length words + m + 1 ≤ length e) where
    refusal_fits : length refusal ≤ length e
    refusal_fits = omega (arith, refusal_length)

    pub words_room : 0 + length (words ++ decimal number) ≤ length e
    words_room = omega (arith, refusal_fits, length-append (words ++ decimal number) (10 ∷ []))

    module _ {at : ℕ} {mid : List ℕ} (q : at ≡ 0 + length (words ++ decimal number))
        (w : mid ≡ written 0 (words ++ decimal number) e) where
      pub line_room : at < length mid
      line_room = omega (arith, second_room 0 (words ++ decimal number) (10 ∷ []) e (omega (arith, refusal_fits)) q w)

      pub refusal_written : {to : ℕ} {out : List ℕ} → to ≡ at + 1 → out ≡ written at (10 ∷ []) mid
          → (Ok to ≡ printed refusal e) × (out ≡ after refusal e)
      refusal_written r u =
          whole_printed refusal e refusal_fits
          (both_written 0 (words ++ decimal number) (10 ∷ []) e (omega (arith, refusal_fits)) q w r u)

-- what holds of the number as the code has it, x, holds of it
pub of_number : (words e : List ℕ) {x number : ℕ} → x ≡ number → {r : Printed} {out : List ℕ}
    → (r ≡ printed (words ++ decimal x ++ 10 ∷ []) e) × (out ≡ after (words ++ decimal x ++ 10 ∷ []) e)
    → (r ≡ printed (words ++ decimal number ++ 10 ∷ []) e) × (out ≡ after (words ++ decimal number ++ 10 ∷ []) e)
of_number words e s {r} {out} p =
    subst (λ (n : ℕ). (r ≡ printed (words ++ decimal n ++ 10 ∷ []) e) × (out ≡ after (words ++ decimal n ++ 10 ∷ []) e)) s p

-- the lines are the words and the number
pub book_refused_law : (number : ℕ) (e : List ℕ) {r : Printed} {out : List ℕ}
    → (r ≡ printed (book_words ++ decimal number ++ 10 ∷ []) e)
    × (out ≡ after (book_words ++ decimal number ++ 10 ∷ []) e)
    → (r ≡ printed (book_refused number) e) × (out ≡ after (book_refused number) e)
unfolding book_refused line behind
book_refused_law number e p = p

pub query_refused_law : (number : ℕ) (e : List ℕ) {r : Printed} {out : List ℕ}
    → (r ≡ printed (query_words ++ decimal number ++ 10 ∷ []) e)
    × (out ≡ after (query_words ++ decimal number ++ 10 ∷ []) e)
    → (r ≡ printed (query_refused number) e) × (out ≡ after (query_refused number) e)
unfolding query_refused line behind
query_refused_law number e p = p

-- ---- an answer

module _ (serial rows : ℕ) (kinds cells e : List ℕ) where
  abbrev text : List ℕ
  text = answer_text serial rows kinds cells

  fit_gives : fits rows kinds cells ≡ true
      → (answer_printed serial rows kinds cells e ≡ printed text e)
      × (after_answer serial rows kinds cells e ≡ after text e)
  unfolding answer_printed after_answer
  fit_gives y = (
    ap (λ (s : Bool). elim s [ true ↦ printed text e | false ↦ Err NotFit ]) y,
    ap (λ (s : Bool). elim s [ true ↦ after text e | false ↦ e ]) y,
  )

  unfit_gives : fits rows kinds cells ≡ false
      → (answer_printed serial rows kinds cells e ≡ Err NotFit) × (after_answer serial rows kinds cells e ≡ e)
  unfolding answer_printed after_answer
  unfit_gives n = (
    ap (λ (s : Bool). elim s [ true ↦ printed text e | false ↦ Err NotFit ]) n,
    ap (λ (s : Bool). elim s [ true ↦ after text e | false ↦ e ]) n,
  )

  pub answer_printed_law : AnswerPrinted serial rows kinds cells e
  answer_printed_law = record {
    fit = λ v. fit_gives (fit_fits rows kinds cells v);
    not_fit = λ f. unfit_gives (not_yes (λ y. f (fits_fit rows kinds cells y)));
  }

-- as the code gives it
module _ (serial rows : ℕ) (kinds cells e : List ℕ) {t : Bool} (f : t ≡ fits rows kinds cells) where
  abbrev lines : List ℕ
  lines = row_lines kinds (rows_in (length kinds) rows cells)

  pub answer_not_fit : t ≡ false
      → (Err NotFit ≡ answer_printed serial rows kinds cells e) × (e ≡ after_answer serial rows kinds cells e)
  answer_not_fit n =
      let (a, b) = unfit_gives serial rows kinds cells e (sym f ∙ n) in (sym a, sym b)

  module _ (y : t ≡ true) where
    pub answer_fit : FitToPrint rows kinds cells
    answer_fit = fits_fit rows kinds cells (sym f ∙ y)

    -- what holds of printing the text holds of printing the answer
    fit_printed : {r : Printed} {out : List ℕ}
        → (r ≡ printed (head_line serial rows ++ lines) e) × (out ≡ after (head_line serial rows ++ lines) e)
        → (r ≡ answer_printed serial rows kinds cells e) × (out ≡ after_answer serial rows kinds cells e)
    unfolding answer_text
    fit_printed p =
        let (a, b) = fit_gives serial rows kinds cells e (sym f ∙ y) in (p.0 ∙ sym a, p.1 ∙ sym b)

    module _ {h n : ℕ} (p : h ≡ length (head_line serial rows)) (q : n ≡ length lines) where
      answer_length : h + n ≡ length (head_line serial rows ++ lines)
      answer_length = omega (arith, p, q, length-append (head_line serial rows) lines)

      pub answer_none : length e < h + n
          → (Err NoRoom ≡ answer_printed serial rows kinds cells e) × (e ≡ after_answer serial rows kinds cells e)
      answer_none l = fit_printed (none_printed (head_line serial rows ++ lines) e (omega (arith, answer_length)))

      module _ (l : h + n ≤ length e) where
        whole : 0 + length (head_line serial rows ++ lines) ≤ length e
        whole = omega (arith, answer_length)

        module _ {at : ℕ} {mid : List ℕ} (r : at ≡ 0 + length (head_line serial rows))
            (w : mid ≡ written 0 (head_line serial rows) e) where
          pub lines_room : at + length lines ≤ length mid
          lines_room = second_room 0 (head_line serial rows) lines e whole r w

          pub answer_written : {to : ℕ} {out : List ℕ} → to ≡ at + length lines → out ≡ written at lines mid
              → (Ok to ≡ answer_printed serial rows kinds cells e) × (out ≡ after_answer serial rows kinds cells e)
          answer_written s u =
              fit_printed (whole_printed (head_line serial rows ++ lines) e (omega (arith, whole))
              (both_written 0 (head_line serial rows) lines e whole r w s u))
