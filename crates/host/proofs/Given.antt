-- What the functions give, at each way out.
-- In order: results written, an answer, bytes that are given, a sheet.
-- Assumes nothing.
use mathlib.Core.Path.{◌≡◌, refl, sym, ap, ◌∙◌}
use mathlib.Core.List.{List, [], ◌∷◌, ◌++◌}
use Prim.Native.Nat.{ℕ, ◌≤◌, ◌<◌}
use native.Mathlib.Omega.{arith}
use borrow.Author.Tests.{lt-ltb, le-ltb}
use Rattle.std.proofs.Common.{Result, Ok, Err}
use Rattle.std.specs.Result.{result_err}
use Rattle.refusals.specs.declared.Refusal.{Refusal}
use lib.ListN.{length, set, drop}
use Rattle.refusals.specs.Refusals.{number_of_any, number_of_check}
use Rattle.connection.specs.declared.Answer.{Answer}
use Rattle.connection.specs.Answering.{answer_of, space_after}
use Rattle.printout.specs.declared.Unprinted.{Unprinted}
use Rattle.printout.specs.declared.Unprinted.TheVariants.{NoRoom, NotFit}
use Rattle.printout.specs.Printing.{Printed}
use Rattle.host.specs.Results.{short, done, not_fit, answer_cells, answer_status, answer_results, answer_space}
use Rattle.host.specs.Results.{give_status, give_results, given_status, given_results, given_bytes, sheet_status}
use Rattle.host.specs.Results.{sheet_results}

-- ---- results written

pub one_written : (r : List ℕ) (a : ℕ) → 1 ≤ length r → set r 0 a ≡ a ∷ drop 1 r
one_written [] a h = absurd (omega (arith, h))
one_written (x ∷ r) a h = refl

four_written : (r : List ℕ) (a b c d : ℕ) → 4 ≤ length r
    → set (set (set (set r 0 a) 1 b) 2 c) 3 d ≡ a ∷ b ∷ c ∷ d ∷ drop 4 r
four_written [] a b c d h = absurd (omega (arith, h))
four_written (x ∷ []) a b c d h = absurd (omega (arith, h))
four_written (x ∷ y ∷ []) a b c d h = absurd (omega (arith, h))
four_written (x ∷ y ∷ z ∷ []) a b c d h = absurd (omega (arith, h))
four_written (x ∷ y ∷ z ∷ w ∷ r) a b c d h = refl

-- ---- an answer

abbrev Answers : List ℕ → List ℕ → ℕ → List ℕ → List ℕ → ℕ → List ℕ → List ℕ → Type 0
Answers b q serial space results status spaceNow resultsNow =
    (status ≡ answer_status results) × ((spaceNow ≡ answer_space b q serial space results)
    × (resultsNow ≡ answer_results b q serial (length space) results))

module _ (b q : List ℕ) (serial : ℕ) (space results : List ℕ) where
  pub answer_short : length results < 4 → Answers b q serial space results short space results
  unfolding answer_status answer_space answer_results
  answer_short h =
      let e = lt-ltb (length results) 4 h in (
        sym (rw (answer_status, e)),
        (sym (rw (answer_space, e)), sym (rw (answer_results, e))),
      )

  pub answer_done : 4 ≤ length results → {a : Answer} {after : List ℕ} {n m k l : ℕ}
      → (a ≡ answer_of b q serial (length space)) × (after ≡ space_after b q serial space) → n ≡ number_of_any a.refusal → m ≡ a.rows
      → k ≡ a.serial → l ≡ a.read
      → Answers b q serial space results done after (set (set (set (set results 0 n) 1 m) 2 k) 3 l)
  unfolding answer_status answer_space answer_results answer_cells
  answer_done h {a} {n = n} {m} {k} {l} p u v w x =
      let e = le-ltb (length results) 4 h in (
        sym (rw (answer_status, e)),
        (p.1 ∙ sym (rw (answer_space, e)), four_written results n m k l h ∙ cells ∙ sym (rw (answer_results, e))),
      )
    where
      cells : n ∷ m ∷ k ∷ l ∷ drop 4 results ≡ answer_cells (answer_of b q serial (length space)) ++ drop 4 results
      cells =
          ap (λ (i : ℕ). i ∷ m ∷ k ∷ l ∷ drop 4 results) u
          ∙ ap (λ (i : ℕ). number_of_any a.refusal ∷ i ∷ k ∷ l ∷ drop 4 results) v
          ∙ ap (λ (i : ℕ). number_of_any a.refusal ∷ a.rows ∷ i ∷ l ∷ drop 4 results) w
          ∙ ap (λ (i : ℕ). number_of_any a.refusal ∷ a.rows ∷ a.serial ∷ i ∷ drop 4 results) x
          ∙ ap (λ (y : Answer). answer_cells y ++ drop 4 results) p.0

-- ---- bytes that are given

-- one result is written, where there are bytes
abbrev Reports : Printed → List ℕ → ℕ → List ℕ → Type 0
Reports p results status resultsNow = (status ≡ give_status p) × (resultsNow ≡ give_results p results)

pub bytes_here : (results : List ℕ) {p : Printed} {n m : ℕ} → p ≡ Ok n → 1 ≤ length results → m ≡ n
    → Reports p results done (set results 0 m)
unfolding give_status give_results
bytes_here results {n = n} {m} q h e = (
  sym (ap give_status q),
  one_written results m h ∙ ap (λ (i : ℕ). i ∷ drop 1 results) e ∙ sym (ap (λ (x : Printed). give_results x results) q),
)

-- and none where there are none
pub told_nothing : (results : List ℕ) {p : Printed} {reason : Unprinted} {status : ℕ} → p ≡ Err reason
    → status ≡ give_status (Err reason) → Reports p results status results
unfolding give_results
told_nothing results {reason = NoRoom} q e = (e ∙ sym (ap give_status q), sym (ap (λ (x : Printed). give_results x results) q))
told_nothing results {reason = NotFit} q e = (e ∙ sym (ap give_status q), sym (ap (λ (x : Printed). give_results x results) q))

-- what a call that prints gives back
abbrev Gives : Printed → List ℕ → List ℕ → List ℕ → ℕ → List ℕ → List ℕ → Type 0
Gives p after before results status outNow resultsNow =
    (status ≡ given_status p results) × ((outNow ≡ given_bytes after before results)
    × (resultsNow ≡ given_results p results))

module _ (p : Printed) (after before results : List ℕ) where
  pub give_short : length results < 1 → Gives p after before results short before results
  unfolding given_status given_bytes given_results
  give_short h =
      let e = lt-ltb (length results) 1 h in
      (sym (rw (given_status, e)), (sym (rw (given_bytes, e)), sym (rw (given_results, e))))

  pub give_done : 1 ≤ length results → {r : Printed} {status : ℕ} {outNow resultsNow : List ℕ} → r ≡ p
      → outNow ≡ after → (status ≡ give_status r) × (resultsNow ≡ give_results r results)
      → Gives p after before results status outNow resultsNow
  unfolding given_status given_bytes given_results
  give_done h u v w =
      let e = le-ltb (length results) 1 h in (
        w.0 ∙ ap give_status u ∙ sym (rw (given_status, e)),
        (
          v ∙ sym (rw (given_bytes, e)),
          w.1 ∙ ap (λ (x : Printed). give_results x results) u ∙ sym (rw (given_results, e)),
        ),
      )

-- ---- a sheet

-- the number of what a sheet was refused with
pub check_number : {A : Type 0} (s : Result A Refusal) → number_of_any (result_err s) ≡ number_of_check s
check_number (Ok x) = refl
check_number (Err r) = refl

-- what a call for a sheet of number n gives back
abbrev Sheets : ℕ → List ℕ → List ℕ → List ℕ → ℕ → List ℕ → List ℕ → Type 0
Sheets n after before results status outNow resultsNow =
    (status ≡ sheet_status results) × ((outNow ≡ given_bytes after before results)
    × (resultsNow ≡ sheet_results n results))

module _ (n : ℕ) (after before results : List ℕ) where
  pub sheet_short : length results < 1 → Sheets n after before results short before results
  unfolding sheet_status given_bytes sheet_results
  sheet_short h =
      let e = lt-ltb (length results) 1 h in
      (sym (rw (sheet_status, e)), (sym (rw (given_bytes, e)), sym (rw (sheet_results, e))))

  pub sheet_done : 1 ≤ length results → {r m : ℕ} {outNow : List ℕ} → r ≡ n → outNow ≡ after → m ≡ r
      → Sheets n after before results done outNow (set results 0 m)
  unfolding sheet_status given_bytes sheet_results
  sheet_done h {m = m} u v w =
      let e = le-ltb (length results) 1 h in (
        sym (rw (sheet_status, e)),
        (
          v ∙ sym (rw (given_bytes, e)),
          one_written results m h ∙ ap (λ (i : ℕ). i ∷ drop 1 results) (w ∙ u) ∙ sym (rw (sheet_results, e)),
        ),
      )
