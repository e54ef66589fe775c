-- Stepped after step: what the queries of the input print is what the steps over them print, and nothing else.
-- In order: one step, the queries, the steps over them, the whole printout.
-- Assumes nothing.
use mathlib.Core.Path.{◌≡◌, refl, sym, ap, ap₂, ◌∙◌, subst}
use mathlib.Core.Bool.{Bool, true, false}
use mathlib.Core.Logic.{◌⊎◌, ⊎_elim}
use mathlib.Core.List.{List, [], ◌∷◌, ◌++◌}
use Prim.Native.Nat.{ℕ, zero, suc, ◌+◌, ◌≤◌, ◌<◌, ◌^◌}
use native.Mathlib.Nat.{not-suc-le-zero, le_refl}
use native.Mathlib.Omega.{arith}
use borrow.Author.Tests.{eqb-true, eqb-false, eq-eqb, ne_eqb, lt-ltb, le-ltb}
use lib.Dec.{eqb, ltb}
use lib.ListN.{length, drop, replicate, length-drop, length-replicate}
use Rattle.sets.proofs.Tests.{yes_no, yes_or_no}
use Rattle.book.specs.Reading.{read}
use Rattle.connection.specs.Answering.{query_read}
use Rattle.connection.proofs.Theorems.{answer_number_means}
use Rattle.printout.specs.Lines.{book_refused, query_refused}
use Rattle.printout.proofs.Theorems.{room_enough}
use Rattle.run.specs.declared.Stepped.{Stepped}
use Rattle.run.specs.Running.{number_of, full_text, text_of, answers_within, answers, opening_text, printout, opening_of}
use Rattle.run.specs.Running.{step_of}
use Rattle.run.specs.Statements.{StepInside, OpeningInside, Steps, used_up, last, next, RunPrints}
use Rattle.run.proofs.Answering.{read_some, answered_prints}

-- ---- one step

-- a number of the list fits in a byte
pub below_256 : {n : ℕ} → (n ≤ 14) ⊎ ((n ≡ 20) ⊎ (n ≡ 21)) → n < 256
below_256 c = ⊎_elim (λ l. omega (arith, l)) (λ p. ⊎_elim (λ e. omega (arith, e)) (λ e. omega (arith, e)) p) c

abbrev answered_step : List ℕ → List ℕ → ℕ → Stepped
answered_step b q serial = record {
  printed = length (full_text b q serial);
  read = (query_read (read b) q).read;
  serial = serial + 1;
  more = true;
}

abbrev refused_step : List ℕ → List ℕ → ℕ → Stepped
refused_step b q serial = record {
  printed = length (query_refused (number_of b q serial));
  read = 0;
  serial = serial;
  more = false;
}

module _ (b q : List ℕ) (serial : ℕ) where
  pub step_answered_fact : number_of b q serial ≡ 0 → answered_step b q serial ≡ step_of b q serial
  unfolding step_of
  step_answered_fact z = rw (step_of, eq-eqb (number_of b q serial) 0 z)

  pub step_refused_fact : (number_of b q serial ≡ 0 → ⊥) → refused_step b q serial ≡ step_of b q serial
  unfolding step_of
  step_refused_fact d = rw (step_of, ne_eqb (number_of b q serial) 0 d)

  pub text_answered : number_of b q serial ≡ 0 → full_text b q serial ≡ text_of b q serial
  unfolding text_of
  text_answered z = rw (text_of, eq-eqb (number_of b q serial) 0 z)

  pub text_refused : (number_of b q serial ≡ 0 → ⊥) → query_refused (number_of b q serial) ≡ text_of b q serial
  unfolding text_of
  text_refused d = rw (text_of, ne_eqb (number_of b q serial) 0 d)

  answered_or_refused : {P : Type 0} → (number_of b q serial ≡ 0 → P) → ((number_of b q serial ≡ 0 → ⊥) → P) → P
  answered_or_refused f g =
      ⊎_elim (λ y. f (eqb-true (number_of b q serial) 0 y)) (λ n. g (eqb-false (number_of b q serial) 0 n))
      (yes_or_no (eqb (number_of b q serial) 0))

  more_answered : (step_of b q serial).more ≡ true → number_of b q serial ≡ 0
  more_answered m =
      answered_or_refused (λ z. z) (λ d. absurd (yes_no m (sym (ap (λ (s : Stepped). s.more) (step_refused_fact d)))))

  last_refused : (step_of b q serial).more ≡ false → number_of b q serial ≡ 0 → ⊥
  last_refused m z = yes_no (sym (ap (λ (s : Stepped). s.more) (step_answered_fact z))) m

  pub text_counted : (step_of b q serial).printed ≡ length (text_of b q serial)
  text_counted =
      answered_or_refused
      (λ z. sym (ap (λ (s : Stepped). s.printed) (step_answered_fact z)) ∙ ap length (text_answered z))
      (λ d. sym (ap (λ (s : Stepped). s.printed) (step_refused_fact d)) ∙ ap length (text_refused d))

  module _ (h : serial < 2 ^ 32) where
    answered_inside : number_of b q serial ≡ 0 → StepInside b q serial
    answered_inside z =
        let v = answered_prints b q serial (replicate 8192 0) z h (length-replicate {A = ℕ} 8192 0) in
        let e = step_answered_fact z in
        record {
          printed = subst (λ (s : Stepped). s.printed ≤ 98327) e v.fits;
          some = λ m. subst (λ (s : Stepped). 1 ≤ s.read) e v.some;
          read = subst (λ (s : Stepped). s.read ≤ length q) e v.inside;
          serials = subst (λ (s : Stepped). s.serial < 2 ^ 32) e v.serials;
        }

    refused_inside : (number_of b q serial ≡ 0 → ⊥) → StepInside b q serial
    refused_inside d =
        let e = step_refused_fact d in
        let k = room_enough.query (number_of b q serial) (below_256 (answer_number_means b q serial 8192).one_of) in
        record {
          printed = subst (λ (s : Stepped). s.printed ≤ 98327) e (omega (arith, k));
          some = λ m. absurd (yes_no m (sym (ap (λ (s : Stepped). s.more) e)));
          read = subst (λ (s : Stepped). s.read ≤ length q) e (omega arith);
          serials = subst (λ (s : Stepped). s.serial < 2 ^ 32) e h;
        }

    pub step_inside : StepInside b q serial
    step_inside = answered_or_refused answered_inside refused_inside

-- whether a run goes on behind its opening: the book is good, and the input not too long
abbrev pub goes : Bool → Bool → Bool
goes good long = elim good [ true ↦ elim long [ true ↦ false | false ↦ true ] | false ↦ false ]

pub opening_inside : (refusal input : ℕ) → OpeningInside refusal input
unfolding opening_of opening_text
opening_inside refusal input = record {
  printed = λ h. short h (eqb refusal 0) (ltb 65536 input);
  good = λ m. eqb-true refusal 0 (going (eqb refusal 0) (ltb 65536 input) m);
}
  where
    short : refusal < 256 → (t u : Bool)
        → length {A = ℕ} (elim t [
          | true ↦ elim u [ true ↦ query_refused 1 | false ↦ [] ]
          | false ↦ book_refused refusal
        ])
        ≤ 98327
    short h false u = omega (arith, room_enough.book refusal h)
    short h true true = omega (arith, room_enough.query 1 (omega arith))
    short h true false = omega arith

    going : (t u : Bool) → goes t u ≡ true → t ≡ true
    going true u m = refl
    going false u m = absurd (yes_no m refl)

-- ---- the queries

module _ (b : List ℕ) where
  -- what is printed by whether the query is answered
  abbrev by_number : ℕ → ℕ → List ℕ → ℕ → Bool → List ℕ
  by_number n x q serial good =
      elim good [
        | true ↦ full_text b (x ∷ q) serial
            ++ answers_within n b (drop (query_read (read b) (x ∷ q)).read (x ∷ q)) (serial + 1)
        | false ↦ query_refused (number_of b (x ∷ q) serial)
      ]

  within_answered : (n x : ℕ) (q : List ℕ) (serial : ℕ) → number_of b (x ∷ q) serial ≡ 0
      → answers_within (suc n) b (x ∷ q) serial ≡ text_of b (x ∷ q) serial
      ++ answers_within n b (drop (step_of b (x ∷ q) serial).read (x ∷ q)) (step_of b (x ∷ q) serial).serial
  unfolding answers_within
  within_answered n x q serial z =
      ap (by_number n x q serial) (eq-eqb (number_of b (x ∷ q) serial) 0 z)
      ∙ ap₂ (λ (t : List ℕ) (s : Stepped). t ++ answers_within n b (drop s.read (x ∷ q)) s.serial)
      (text_answered b (x ∷ q) serial z) (step_answered_fact b (x ∷ q) serial z)

  within_refused : (n x : ℕ) (q : List ℕ) (serial : ℕ) → (number_of b (x ∷ q) serial ≡ 0 → ⊥)
      → answers_within (suc n) b (x ∷ q) serial ≡ text_of b (x ∷ q) serial
  unfolding answers_within
  within_refused n x q serial d =
      ap (by_number n x q serial) (ne_eqb (number_of b (x ∷ q) serial) 0 d) ∙ text_refused b (x ∷ q) serial d

  -- ---- the steps over them

  -- a step that goes on leaves fewer bytes
  left_fewer : (n x : ℕ) (q : List ℕ) (serial : ℕ) → number_of b (x ∷ q) serial ≡ 0 → length (x ∷ q) ≤ suc n
      → length (drop (step_of b (x ∷ q) serial).read (x ∷ q)) ≤ n
  left_fewer n x q serial z h =
      let (some, inside) = read_some b (x ∷ q) serial z in
      let e = ap (λ (s : Stepped). s.read) (step_answered_fact b (x ∷ q) serial z) in
      omega (arith, length-drop (step_of b (x ∷ q) serial).read (x ∷ q), e, some, h)

  steps_within : (n : ℕ) (q : List ℕ) (serial : ℕ) → length q ≤ n → Steps b q serial (answers_within n b q serial)
  unfolding answers_within
  steps_within zero [] serial h = used_up
  steps_within zero (x ∷ q) serial h = absurd (not-suc-le-zero h)
  steps_within (suc n) [] serial h = used_up
  steps_within (suc n) (x ∷ q) serial h =
      answered_or_refused b (x ∷ q) serial
      (λ z. subst (Steps b (x ∷ q) serial) (sym (within_answered n x q serial z))
      (next (sym (ap (λ (s : Stepped). s.more) (step_answered_fact b (x ∷ q) serial z)))
      (steps_within n (drop (step_of b (x ∷ q) serial).read (x ∷ q)) (step_of b (x ∷ q) serial).serial
      (left_fewer n x q serial z h))))
      (λ d. subst (Steps b (x ∷ q) serial) (sym (within_refused n x q serial d))
      (last (sym (ap (λ (s : Stepped). s.more) (step_refused_fact b (x ∷ q) serial d)))))

  only_within : {q text : List ℕ} {serial : ℕ} → Steps b q serial text → (n : ℕ) → length q ≤ n
      → text ≡ answers_within n b q serial
  unfolding answers_within
  only_within used_up zero h = refl
  only_within used_up (suc n) h = refl
  only_within (last m) zero h = absurd (not-suc-le-zero h)
  only_within (last {x = x} {serial = serial} {q = q} m) (suc n) h =
      sym (within_refused n x q serial (last_refused b (x ∷ q) serial m))
  only_within (next m s) zero h = absurd (not-suc-le-zero h)
  only_within (next {x = x} {serial = serial} {q = q} m s) (suc n) h =
      let z = more_answered b (x ∷ q) serial m in
      ap (λ (t : List ℕ). text_of b (x ∷ q) serial ++ t) (only_within s n (left_fewer n x q serial z h))
      ∙ sym (within_answered n x q serial z)

  -- ---- the whole printout

  module _ (input : List ℕ) where
    abbrev Going : Type 0
    Going = (opening_of (read b).number (length input)).more ≡ true

    -- what is printed, by the tests of the opening
    abbrev says : List ℕ → Bool → Bool → List ℕ
    says text good long =
        elim good [
          | true ↦ elim long [ true ↦ query_refused 1 | false ↦ text ]
          | false ↦ book_refused (read b).number
        ]

    printed_opening : (opening_of (read b).number (length input)).more ≡ false
        → printout b input ≡ opening_text (read b).number (length input)
    unfolding opening_of opening_text printout
    printed_opening m = by (eqb (read b).number 0) (ltb 65536 (length input)) m
      where
        by : (t u : Bool) → goes t u ≡ false → says (answers b input 0) t u ≡ says [] t u
        by false u m = refl
        by true true m = refl
        by true false m = absurd (yes_no refl m)

    nothing_before : Going → opening_text (read b).number (length input) ≡ []
    unfolding opening_of opening_text
    nothing_before m = by (eqb (read b).number 0) (ltb 65536 (length input)) m
      where
        by : (t u : Bool) → goes t u ≡ true → says [] t u ≡ []
        by false u m = absurd (yes_no m refl)
        by true true m = absurd (yes_no m refl)
        by true false m = refl

    printed_answers : Going → answers b input 0 ≡ printout b input
    unfolding opening_of printout
    printed_answers m = by (eqb (read b).number 0) (ltb 65536 (length input)) m
      where
        by : (t u : Bool) → goes t u ≡ true → answers b input 0 ≡ says (answers b input 0) t u
        by false u m = absurd (yes_no m refl)
        by true true m = absurd (yes_no m refl)
        by true false m = refl

    book_only : (n : ℕ) → 0 < n → (read b).number ≡ n → printout b input ≡ book_refused n
    unfolding printout
    book_only n h e = rw (printout, ne_eqb (read b).number 0 (λ z. omega (arith, h, e, z))) (ap book_refused e)

    long_only : (read b).number ≡ 0 → 65536 < length input → printout b input ≡ query_refused 1
    unfolding printout
    long_only z l = rw (printout, eq-eqb (read b).number 0 z, lt-ltb 65536 (length input) l)

    going : (read b).number ≡ 0 → length input ≤ 65536 → Going
    unfolding opening_of
    going z l = ap₂ goes (eq-eqb (read b).number 0 z) (le-ltb 65536 (length input) l)

    pub run_prints : RunPrints b input
    unfolding answers
    run_prints = record {
      opening = printed_opening;
      nothing = nothing_before;
      steps = λ m. subst (Steps b input 0) (printed_answers m) (steps_within (length input) input 0 (le_refl (length input)));
      only = λ m text s. only_within s (length input) (le_refl (length input)) ∙ printed_answers m;
      counted = text_counted b;
      refused_book = book_only;
      too_long = long_only;
      answered = λ z l.
          let m = going z l in
          subst (Steps b input 0) (printed_answers m) (steps_within (length input) input 0 (le_refl (length input)));
      step_answered = λ q serial z. sym (text_answered b q serial z);
      step_refused = λ q serial n h e.
          sym (text_refused b q serial (λ z. omega (arith, h, e, z))) ∙ ap query_refused e;
    }
