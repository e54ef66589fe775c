-- What the code gives is the book of the outcome.
-- In order: a book whose records were all accepted, the maximal objects by the number, the ways out of reading.
-- Assumes nothing.
use mathlib.Core.Path.{◌≡◌, refl, sym, ap, ap₂, ◌∙◌}
use mathlib.Core.Bool.{Bool, true, false, ◌||◌}
use mathlib.Core.Logic.{⊎_elim, inl, inr}
use mathlib.Core.List.{List, []}
use Prim.Native.Nat.{ℕ, ◌≤◌, ◌<◌}
use native.Mathlib.Omega.{arith}
use borrow.Author.Tests.{ne_eqb}
use lib.Dec.{eqb}
use lib.ListN.{length}
use Rattle.sets.proofs.Tests.{or_no}
use Rattle.sets.proofs.Numbers.{eq_or_ne}
use Rattle.std.specs.Prelude.{Option, None, Some}
use Rattle.refusals.specs.declared.Refusal.{Refusal}
use Rattle.refusals.specs.Refusals.{number_of, number_of_any}
use Rattle.records.proofs.Refused.{refused_by, number_not_zero}
use Rattle.scheme.specs.declared.Scheme.{Scheme}
use Rattle.scheme.specs.declared.MaximalList.{MaximalList}
use Rattle.scheme.specs.OfScheme.{maximal_of, both_of, cyclic_of, maximal_list_of}
use Rattle.book.specs.Declaring.{nothing_declared}
use Rattle.book.specs.Reading.{Outcome, records, walked_of, last_number, last_fault, after_last, read, maximals_of}
use Rattle.book.specs.Reading.{book_with, book_of, stored}
use Rattle.book.specs.declared.Book.{Book}
use Rattle.book.specs.declared.Walked.{Walked}
use Rattle.book.proofs.Lists.{stored_none}
use Rattle.book.specs.Statements.{RecordNumber}
use Rattle.book.proofs.Outcomes.{records_number, record_number_not, read_over, read_within}
use Rattle.book.proofs.Outcomes.{after_end, after_fault}

-- ---- a book whose records were all accepted

pub finished_book : (s : Scheme) (rows : ℕ) {m : MaximalList} (n : Option Refusal) → m ≡ maximal_list_of s
    → number_of_any n ≡ last_number m.both m.cyclic
    → ◌≡◌ {A = Book} (record { refusal = n; rows = rows; scheme = s; maximal = m.sets; maximals = m.count })
    (book_with (last_fault s) rows s (maximal_of s))
unfolding maximal_list_of last_fault book_with
finished_book s rows n e q =
    ap₂ {C = Book}
    (λ (k : Option Refusal) (x : MaximalList). record {
      refusal = k;
      rows = rows;
      scheme = s;
      maximal = x.sets;
      maximals = x.count;
    })
    (refused_by n (q ∙ ap (λ (x : MaximalList). last_number x.both x.cyclic) e)) e

-- ---- the maximal objects by the number

maximals_none : (o : Outcome) → RecordNumber o.number → maximals_of o ≡ []
unfolding maximals_of
maximals_none o r =
    ap (λ (t : Bool). elim t [ true ↦ maximal_of o.scheme | false ↦ [] ])
    (or_no (or_no (ne_eqb o.number 0 (λ z. record_number_not r (inl (omega arith))))
    (ne_eqb o.number 21 (λ z. record_number_not r (inr (inr z)))))
    (ne_eqb o.number 9 (λ z. record_number_not r (inr (inl z)))))

maximals_last : (s : Scheme) (rows : List ℕ)
    → maximals_of (record { number = last_fault s; scheme = s; rows = rows }) ≡ maximal_of s
unfolding maximals_of last_fault last_number
maximals_last s rows =
    ap (λ (t : Bool). elim t [ true ↦ maximal_of s | false ↦ [] ]) (known (both_of s) (cyclic_of s))
  where
    known : (u c : Bool)
        → (eqb (last_number u c) 0 || eqb (last_number u c) 21 || eqb (last_number u c) 9) ≡ true
    known true c = refl
    known false true = refl
    known false false = refl

-- ---- the ways out of reading

module _ (b : List ℕ) (h : 65536 < length b) where
  pub book_over : {r : Book} {s : Scheme} → s ≡ nothing_declared → r ≡ book_with 1 0 s [] → r ≡ book_of (read b)
  unfolding book_of maximals_of
  book_over e q = q ∙ ap (λ (t : Scheme). book_with 1 0 t []) e ∙ ap book_of (sym (read_over b h))

  pub directory_over : (cells : List ℕ) → cells ≡ stored (read b).rows cells
  directory_over cells =
      sym (stored_none cells) ∙ ap (λ (o : Outcome). stored o.rows cells) (sym (read_over b h))

-- the rows after the last record are those before
after_rows : (o : Outcome) → (after_last o).rows ≡ o.rows
after_rows o =
    ⊎_elim (λ z. ap (λ (x : Outcome). x.rows) (after_end o z)) (λ d. ap (λ (x : Outcome). x.rows) (after_fault o d))
    (eq_or_ne o.number 0)

module _ (b : List ℕ) {w : Walked} (h : length b ≤ 65536) (e : w ≡ walked_of (records b))
    (known : number_of_any w.refusal ≡ (records b).number) where
  pub directory_within : {cells' : List ℕ} (cells : List ℕ) → cells' ≡ stored (records b).rows cells
      → cells' ≡ stored (read b).rows cells
  directory_within cells q =
      q
      ∙ ap (λ (rows : List ℕ). stored rows cells)
      (sym (ap (λ (o : Outcome). o.rows) (read_within b h) ∙ after_rows (records b)))

  pub book_stopped : {r : Book} (n : Refusal) → w.refusal ≡ Some n
      → r ≡ book_with (number_of n) w.rows w.scheme [] → r ≡ book_of (read b)
  unfolding walked_of book_of
  book_stopped n is q =
      let o = records b in
      let number_is : number_of n ≡ o.number = ap number_of_any (sym is) ∙ known in
      let d : o.number ≡ 0 → ⊥ = λ z. number_not_zero n (number_is ∙ z) in
      let some = ⊎_elim {B = RecordNumber o.number} (λ z. absurd (d z)) (λ p. p) (records_number b) in
      q ∙ ap (λ (x : Walked). book_with (number_of n) x.rows x.scheme []) e
      ∙ ap (λ (k : ℕ). book_with k (length o.rows) o.scheme []) number_is
      ∙ ap (book_with o.number (length o.rows) o.scheme) (sym (maximals_none o some))
      ∙ ap book_of (sym (read_within b h ∙ after_fault o d))

  pub book_finished : {r : Book} → w.refusal ≡ None
      → r ≡ book_with (last_fault w.scheme) w.rows w.scheme (maximal_of w.scheme) → r ≡ book_of (read b)
  unfolding walked_of book_of
  book_finished none q =
      let o = records b in
      let zero : o.number ≡ 0 = sym known ∙ ap number_of_any none in
      q ∙ ap (λ (x : Walked). book_with (last_fault x.scheme) x.rows x.scheme (maximal_of x.scheme)) e
      ∙ ap (book_with (last_fault o.scheme) (length o.rows) o.scheme) (sym (maximals_last o.scheme o.rows))
      ∙ ap book_of (sym (read_within b h ∙ after_end o zero))
