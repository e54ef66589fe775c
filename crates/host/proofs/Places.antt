-- What is given back, by its places.
-- In order: a front written anew, an answer, bytes that are given, a status other than 0, a sheet.
-- Assumes nothing.
use mathlib.Core.Path.{◌≡◌, refl, sym, ap, subst, ◌∙◌}
use mathlib.Core.Bool.{true, false}
use mathlib.Core.Logic.{◌⊎◌, inl, inr, ⊎_elim, ◌↔◌}
use mathlib.Core.List.{List, [], ◌∷◌, ◌++◌}
use Prim.Native.Nat.{ℕ, ◌+◌, ◌-◌, ◌≤◌, ◌<◌}
use native.Mathlib.Omega.{arith}
use borrow.Author.Tests.{lt-ltb, le-ltb, eq-eqb, ne_eqb}
use Rattle.std.proofs.Common.{None, Ok, Err}
use lib.ListN.{length, get_or, drop}
use lib.Seq.{length-take-le, length_front, get_or-append-add, get_or-drop}
use Rattle.sets.proofs.Tests.{yes_or_no}
use Rattle.sets.proofs.Numbers.{lt_or_le}
use Rattle.book.specs.Reading.{read}
use Rattle.refusals.specs.Refusals.{number_of_any, refusal_of_number}
use Rattle.connection.specs.declared.Answer.{Answer}
use Rattle.connection.specs.Answering.{query_read, rows_answered, number, refused, answer_of, space_after}
use Rattle.connection.proofs.Theorems.{refusal_numbered}
use Rattle.printout.specs.Lines.{answer_text, fits}
use Rattle.printout.specs.Printing.{Printed, printed, after, answer_printed, after_answer}
use Rattle.printout.specs.declared.Unprinted.TheVariants.{NoRoom, NotFit}
use Rattle.printout.proofs.Theorems.{text_printed}
use Rattle.host.specs.Results.{answer_cells, answer_status, answer_results, answer_space}
use Rattle.host.specs.Results.{give_status, give_results, given_status, given_results, given_bytes, sheet_status}
use Rattle.host.specs.Results.{sheet_results}
use Rattle.host.specs.Words.{words_of, has_words, words_printed, words_after}
use Rattle.host.specs.Statements.{FourResults, Unchanged}

-- ---- a front written anew: what stands behind it stays, and there is as much

module _ (front l : List ℕ) where
  behind_front : (i : ℕ) → length front ≤ i → get_or (front ++ drop (length front) l) i 0 ≡ get_or l i 0
  behind_front i h =
      let far : i ≡ length front + (i - length front) = omega (arith, h) in
      ap (λ (k : ℕ). get_or (front ++ drop (length front) l) k 0) far
      ∙ get_or-append-add front (drop (length front) l) (i - length front) 0
      ∙ get_or-drop (length front) l (i - length front) 0
      ∙ sym (ap (λ (k : ℕ). get_or l k 0) far)

  as_many : length front ≤ length l → length (front ++ drop (length front) l) ≡ length l
  as_many h = length_front l front (length front) (sym (length-take-le (length front) l h))

-- ---- an answer

four_here : (a : Answer) (rest : List ℕ)
    → FourResults (answer_cells a ++ rest) (number_of_any a.refusal) a.rows a.serial a.read
unfolding answer_cells
four_here a rest = record { in_zero = refl; in_one = refl; in_two = refl; in_three = refl }

module _ (b q : List ℕ) (serial : ℕ) (space results : List ℕ) where
  abbrev given : List ℕ
  given = answer_results b q serial (length space) results

  module _ (h : 4 ≤ length results) where
    given_here : given ≡ answer_cells (answer_of b q serial (length space)) ++ drop 4 results
    unfolding answer_results
    given_here = rw (answer_results, le-ltb (length results) 4 h)

    four_given : {a : Answer} → answer_of b q serial (length space) ≡ a
        → FourResults given (number_of_any a.refusal) a.rows a.serial a.read
    four_given {a} e =
        subst (λ (r : List ℕ). FourResults r (number_of_any a.refusal) a.rows a.serial a.read)
        (sym (given_here ∙ ap (λ (x : Answer). answer_cells x ++ drop 4 results) e)) (four_here a (drop 4 results))

    pub refusal_given : (n : ℕ) → 0 < n → number b q serial (length space) ≡ n → FourResults given n 0 serial 0
    unfolding answer_of refused
    refusal_given n k z =
        let e : answer_of b q serial (length space) ≡ refused n serial = rw (
          answer_of,
          ne_eqb (number b q serial (length space)) 0 (λ y. omega (arith, y, z, k)),
          z,
        ) in
        let same : number_of_any (refusal_of_number n) ≡ n =
        sym (ap (λ (a : Answer). number_of_any a.refusal) e) ∙ (refusal_numbered b q serial (length space)).numbered ∙ z in
        subst (λ (m : ℕ). FourResults given m 0 serial 0) same (four_given {a = refused n serial} e)

    pub answer_given : number b q serial (length space) ≡ 0
        → FourResults given 0 (length (rows_answered b q)) (serial + 1) (query_read (read b) q).read
    unfolding answer_of
    answer_given z = four_given {a = record {
      refusal = None;
      rows = length (rows_answered b q);
      serial = serial + 1;
      read = (query_read (read b) q).read;
    }} (rw (answer_of, eq-eqb (number b q serial (length space)) 0 z))

  none_given : length results < 4 → given ≡ results
  unfolding answer_results
  none_given l = rw (answer_results, lt-ltb (length results) 4 l)

  pub answer_others : (i : ℕ) → 4 ≤ i → get_or given i 0 ≡ get_or results i 0
  unfolding answer_cells
  answer_others i k =
      ⊎_elim (λ l. ap (λ (r : List ℕ). get_or r i 0) (none_given l))
      (λ h. ap (λ (r : List ℕ). get_or r i 0) (given_here h)
      ∙ behind_front (answer_cells (answer_of b q serial (length space))) results i k) (lt_or_le (length results) 4)

  pub answer_as_many : length given ≡ length results
  unfolding answer_cells
  answer_as_many =
      ⊎_elim (λ l. ap length (none_given l))
      (λ h. ap length (given_here h) ∙ as_many (answer_cells (answer_of b q serial (length space))) results h)
      (lt_or_le (length results) 4)

  pub answer_done : 4 ≤ length results
      → (answer_status results ≡ 0) × (answer_space b q serial space results ≡ space_after b q serial space)
  unfolding answer_status answer_space
  answer_done h =
      let e = le-ltb (length results) 4 h in (rw (answer_status, e), rw (answer_space, e))

  pub answer_short : length results < 4
      → (answer_status results ≡ 1) × ((answer_space b q serial space results ≡ space) × (given ≡ results))
  unfolding answer_status answer_space
  answer_short l =
      let e = lt-ltb (length results) 4 l in (rw (answer_status, e), (rw (answer_space, e), none_given l))

-- ---- bytes that are given

-- what printing came to, by the status
printed_of : (p : Printed) → give_status p ≡ 0 → (n : ℕ) × (p ≡ Ok n)
unfolding give_status
printed_of (Ok n) e = (n, refl)
printed_of (Err NoRoom) e = absurd (omega (arith, e))
printed_of (Err NotFit) e = absurd (omega (arith, e))

-- the first result, where there is one
result_others : (p : Printed) (results : List ℕ) (i : ℕ) → 1 ≤ i → get_or (give_results p results) i 0 ≡ get_or results i 0
unfolding give_results
result_others (Ok n) results i k = behind_front (n ∷ []) results i k
result_others (Err NoRoom) results i k = refl
result_others (Err NotFit) results i k = refl

result_as_many : (p : Printed) (results : List ℕ) → 1 ≤ length results → length (give_results p results) ≡ length results
unfolding give_results
result_as_many (Ok n) results h = as_many (n ∷ []) results h
result_as_many (Err NoRoom) results h = refl
result_as_many (Err NotFit) results h = refl

result_stays : (p : Printed) (results : List ℕ) → ((n : ℕ) → p ≡ Ok n → ⊥) → give_results p results ≡ results
unfolding give_results
result_stays (Ok n) results f = absurd (f n refl)
result_stays (Err NoRoom) results f = refl
result_stays (Err NotFit) results f = refl

module _ (p : Printed) (after before results : List ℕ) where
  -- no place for the result
  module _ (l : length results < 1) where
    short_status : given_status p results ≡ 1
    unfolding given_status
    short_status = rw (given_status, lt-ltb (length results) 1 l)

    short_results : given_results p results ≡ results
    unfolding given_results
    short_results = rw (given_results, lt-ltb (length results) 1 l)

    pub given_short : (given_status p results ≡ 1)
        × ((given_bytes after before results ≡ before) × (given_results p results ≡ results))
    unfolding given_bytes
    given_short = (short_status, (rw (given_bytes, lt-ltb (length results) 1 l), short_results))

  -- a place for it
  module _ (h : 1 ≤ length results) where
    told_status : given_status p results ≡ give_status p
    unfolding given_status
    told_status = rw (given_status, le-ltb (length results) 1 h)

    told_results : given_results p results ≡ give_results p results
    unfolding given_results
    told_results = rw (given_results, le-ltb (length results) 1 h)

    pub given_bytes_law : given_bytes after before results ≡ after
    unfolding given_bytes
    given_bytes_law = rw (given_bytes, le-ltb (length results) 1 h)

    pub given_count : (n : ℕ) → p ≡ Ok n → get_or (given_results p results) 0 0 ≡ n
    unfolding give_results
    given_count n e =
        ap (λ (r : List ℕ). get_or r 0 0) (told_results ∙ ap (λ (x : Printed). give_results x results) e)

    pub given_not_fit : p ≡ Err NotFit → (given_status p results ≡ 2) × (given_results p results ≡ results)
    unfolding give_status give_results
    given_not_fit e = (
      told_status ∙ ap give_status e,
      told_results ∙ ap (λ (x : Printed). give_results x results) e,
    )

  pub given_done : (given_status p results ≡ 0) ↔ ((1 ≤ length results) × ((n : ℕ) × (p ≡ Ok n)))
  unfolding give_status
  given_done = (
    λ e.
        ⊎_elim (λ l. absurd (omega (arith, e, short_status l))) (λ h. (h, printed_of p (sym (told_status h) ∙ e)))
        (lt_or_le (length results) 1),
    λ (h, (n, e)). told_status h ∙ ap give_status e,
  )

  pub given_no_room : p ≡ Err NoRoom → (given_status p results ≡ 1) × (given_results p results ≡ results)
  unfolding give_status give_results
  given_no_room e =
      ⊎_elim (λ l. (short_status l, short_results l))
      (λ h. (told_status h ∙ ap give_status e, told_results h ∙ ap (λ (x : Printed). give_results x results) e))
      (lt_or_le (length results) 1)

  pub given_others : (i : ℕ) → 1 ≤ i → get_or (given_results p results) i 0 ≡ get_or results i 0
  given_others i k =
      ⊎_elim (λ l. ap (λ (r : List ℕ). get_or r i 0) (short_results l))
      (λ h. ap (λ (r : List ℕ). get_or r i 0) (told_results h) ∙ result_others p results i k)
      (lt_or_le (length results) 1)

  pub given_as_many : length (given_results p results) ≡ length results
  given_as_many =
      ⊎_elim (λ l. ap length (short_results l)) (λ h. ap length (told_results h) ∙ result_as_many p results h)
      (lt_or_le (length results) 1)

  -- ---- a status other than 0

  -- the lent bytes stay where nothing is given
  pub unchanged : (((n : ℕ) → p ≡ Ok n → ⊥) → after ≡ before) → Unchanged p after before results
  unchanged stays d =
      ⊎_elim (λ l. (given_short l).1)
      (λ h.
      let none : (n : ℕ) → p ≡ Ok n → ⊥ = λ n e. d (given_done.1 (h, (n, e))) in
      (given_bytes_law h ∙ stays none, told_results h ∙ result_stays p results none)) (lt_or_le (length results) 1)

-- ---- a sheet: its number is a result as the length of bytes is

module _ (n : ℕ) (after before results : List ℕ) where
  pub sheet_done : 1 ≤ length results
      → (sheet_status results ≡ 0)
      × ((get_or (sheet_results n results) 0 0 ≡ n) × (given_bytes after before results ≡ after))
  unfolding sheet_status sheet_results given_status given_results give_status give_results
  sheet_done h = (
    told_status (Ok n) after before results h,
    (given_count (Ok n) after before results h n refl, given_bytes_law (Ok n) after before results h),
  )

  pub sheet_short : length results < 1
      → (sheet_status results ≡ 1) × ((given_bytes after before results ≡ before) × (sheet_results n results ≡ results))
  unfolding sheet_status sheet_results given_status given_results give_status give_results
  sheet_short l = given_short (Ok n) after before results l

module _ (n : ℕ) (results : List ℕ) where
  pub sheet_others : (i : ℕ) → 1 ≤ i → get_or (sheet_results n results) i 0 ≡ get_or results i 0
  unfolding sheet_results given_results give_results
  sheet_others i k = given_others (Ok n) [] [] results i k

  pub sheet_as_many : length (sheet_results n results) ≡ length results
  unfolding sheet_results given_results give_results
  sheet_as_many = given_as_many (Ok n) [] [] results

-- a text stays unwritten where there is no room for it; an answer, where it is not fit to print; words, where there are
-- none
module _ (out : List ℕ) where
  pub text_stays : (text : List ℕ) → ((n : ℕ) → printed text out ≡ Ok n → ⊥) → after text out ≡ out
  text_stays text none =
      ⊎_elim (λ l. ((text_printed text out).no_room l).1)
      (λ h. absurd (none (length text) ((text_printed text out).whole h).0)) (lt_or_le (length out) (length text))

  pub answer_stays : (serial rows : ℕ) (kinds cells : List ℕ)
      → ((n : ℕ) → answer_printed serial rows kinds cells out ≡ Ok n → ⊥)
      → after_answer serial rows kinds cells out ≡ out
  unfolding answer_printed after_answer
  answer_stays serial rows kinds cells none = choose (yes_or_no (fits rows kinds cells))
    where
      choose : (fits rows kinds cells ≡ true) ⊎ (fits rows kinds cells ≡ false)
          → after_answer serial rows kinds cells out ≡ out
      choose (inl y) =
          let text : List ℕ = answer_text serial rows kinds cells in
          let same : answer_printed serial rows kinds cells out ≡ printed text out = rw (answer_printed, y) in
          let end : after_answer serial rows kinds cells out ≡ after text out = rw (after_answer, y) in
          end ∙ text_stays text (λ n e. none n (same ∙ e))
      choose (inr z) = rw (after_answer, z)

  pub words_stay : (k : ℕ) → ((n : ℕ) → words_printed k out ≡ Ok n → ⊥) → words_after k out ≡ out
  unfolding words_printed words_after
  words_stay k none = choose (yes_or_no (has_words k))
    where
      choose : (has_words k ≡ true) ⊎ (has_words k ≡ false) → words_after k out ≡ out
      choose (inl y) =
          let same : words_printed k out ≡ printed (words_of k) out = rw (words_printed, y) in
          let end : words_after k out ≡ after (words_of k) out = rw (words_after, y) in
          end ∙ text_stays (words_of k) (λ n e. none n (same ∙ e))
      choose (inr z) = rw (words_after, z)
