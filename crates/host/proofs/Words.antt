-- The words for a number.
-- In order: which numbers have words, that no two are the same, what is given, at each way out of the code.
-- Assumes nothing.
use mathlib.Core.Path.{◌≡◌, refl, sym, ap, ◌∙◌}
use mathlib.Core.Bool.{Bool, true, false, not, ◌&&◌, ◌||◌}
use mathlib.Core.Logic.{inl, inr, ⊎_elim, ◌↔◌}
use mathlib.Core.List.{List, []}
use Prim.Native.Nat.{ℕ, ◌+◌, ◌*◌, ◌≤◌, ◌<◌}
use native.Mathlib.Omega.{arith}
use borrow.Author.Tests.{lt-ltb, ltb-true, le-leb, leb-true, eq-eqb, eqb-true}
use lib.Dec.{eqb, leb, ltb}
use Rattle.std.proofs.Common.{None, Some, Err}
use lib.ListN.{length, get_or, get_or-eq_default}
use Rattle.refusals.specs.declared.Refusal.{Refusal}
use Rattle.refusals.specs.declared.Refusal.TheVariants.{TooManyBytes, KindNotAllowed, CutShort, TooManyOfItsKind, OutOfRange, DeclaredAlready, NotDeclared, CyclicMaximalObject, NoItem, OperatorNotAllowed, NoConnection, SpaceTooSmall, LastSerialNumber, SheetNotPrintable, NoSuchSheet, WrongComparisonTable, RemovedWithOnlyDeclared}
use Rattle.refusals.specs.Refusals.{number_of, refusals, refusal_of_number}
use Rattle.refusals.proofs.Numbers.{numbered_exactly}
use Rattle.sets.proofs.Tests.{yes_no, not_yes, and_yes, yes_and, or_left, or_right, yes_or}
use Rattle.values.specs.Table.{every_below}
use Rattle.values.proofs.Table.{every_below_law}
use Rattle.sets.proofs.Numbers.{lt_or_le}
use Rattle.printout.specs.declared.Unprinted.TheVariants.{NotFit}
use Rattle.printout.specs.Printing.{Printed, printed, after}
use Rattle.host.specs.Words.{words, words_of, has_words, words_printed, words_after}
use Rattle.host.specs.Statements.{Listed}

-- ---- which numbers have words

-- the test of `Listed`
abbrev listed : ℕ → Bool
listed n = (leb 1 n && leb n 7) || ((leb 9 n && leb n 14) || (leb 18 n && leb n 21))

yes_between : (a b n : ℕ) → (leb a n && leb n b) ≡ true → (a ≤ n) × (n ≤ b)
yes_between a b n y = let (u, v) = yes_and (leb a n) (leb n b) y in (leb-true a n u, leb-true n b v)

yes_listed : (n : ℕ) → listed n ≡ true → Listed n
yes_listed n y =
    ⊎_elim (λ u. inl (yes_between 1 7 n u)) (λ u. inr (⊎_elim (λ v. inl (yes_between 9 14 n v))
    (λ v. inr (yes_between 18 21 n v)) (yes_or (leb 9 n && leb n 14) (leb 18 n && leb n 21) u)))
    (yes_or (leb 1 n && leb n 7) ((leb 9 n && leb n 14) || (leb 18 n && leb n 21)) y)

listed_yes : (n : ℕ) → Listed n → listed n ≡ true
listed_yes n (inl (l, h)) = or_left _ (and_yes (le-leb 1 n l) (le-leb n 7 h))
listed_yes n (inr (inl (l, h))) = or_right (leb 1 n && leb n 7) (or_left _ (and_yes (le-leb 9 n l) (le-leb n 14 h)))
listed_yes n (inr (inr (l, h))) =
    or_right (leb 1 n && leb n 7) (or_right (leb 9 n && leb n 14) (and_yes (le-leb 18 n l) (le-leb n 21 h)))

listed_below : (n : ℕ) → Listed n → n < 22
listed_below n (inl h) = omega (arith, h)
listed_below n (inr (inl h)) = omega (arith, h)
listed_below n (inr (inr h)) = omega (arith, h)

past_all : (n : ℕ) → 22 ≤ n → words_of n ≡ []
unfolding words
past_all n past = get_or-eq_default words [] past

-- a test that follows from another
follows : {a b : Bool} → (not a || b) ≡ true → a ≡ true → b ≡ true
follows {a = true} e y = e
follows {a = false} e y = absurd (yes_no y refl)

words_listed : (n : ℕ) → has_words n ≡ true → Listed n
unfolding words has_words every_below
words_listed n y =
    ⊎_elim (λ l. yes_listed n (follows (every_below_law 22 (λ k. not (has_words k) || listed k) refl n l) y))
    (λ h. absurd (yes_no y (ap (λ (w : List ℕ). ltb 0 (length w)) (past_all n h)))) (lt_or_le n 22)

listed_words : (n : ℕ) → Listed n → has_words n ≡ true
unfolding words has_words every_below
listed_words n h =
    follows (every_below_law 22 (λ k. not (listed k) || has_words k) refl n (listed_below n h)) (listed_yes n h)

pub words_exactly : (n : ℕ) → (0 < length (words_of n)) ↔ Listed n
unfolding has_words
words_exactly n = (
  λ l. words_listed n (lt-ltb 0 (length (words_of n)) l),
  λ h. ltb-true 0 (length (words_of n)) (listed_words n h),
)

-- ---- no two are the same: another length or another first letter

key : List ℕ → ℕ
key w = length w * 256 + get_or w 0 0

pub words_apart : (m n : ℕ) → Listed m → Listed n → words_of m ≡ words_of n → m ≡ n
unfolding words has_words every_below key
words_apart m n h k e =
    let each = every_below_law 22
    (λ i. every_below 22 (λ j. not (has_words i) || (not (eqb (key (words_of i)) (key (words_of j))) || eqb i j))) refl in
    let one = every_below_law 22
    (λ j. not (has_words m) || (not (eqb (key (words_of m)) (key (words_of j))) || eqb m j))
    (each m (listed_below m h)) n (listed_below n k) in
    eqb-true m n (follows (follows one (listed_words m h)) (eq-eqb (key (words_of m)) (key (words_of n)) (ap key e)))

pub words_fit : (n : ℕ) → length (words_of n) ≤ 32
unfolding words every_below
words_fit n =
    ⊎_elim (λ l. leb-true (length (words_of n)) 32 (every_below_law 22 (λ k. leb (length (words_of k)) 32) refl n l))
    (λ h. omega (arith, ap length (past_all n h))) (lt_or_le n 22)

-- ---- what is given

pub words_given : (n : ℕ) (out : List ℕ) → Listed n
    → (words_printed n out ≡ printed (words_of n) out) × (words_after n out ≡ after (words_of n) out)
unfolding words_printed words_after
words_given n out h = let y = listed_words n h in (rw (words_printed, y), rw (words_after, y))

pub none_given : (n : ℕ) (out : List ℕ) → (Listed n → ⊥) → (words_printed n out ≡ Err NotFit) × (words_after n out ≡ out)
unfolding words_printed words_after
none_given n out f =
    let z = not_yes (λ y. f (words_listed n y)) in (rw (words_printed, z), rw (words_after, z))

-- ---- at each way out of the code

up : {n k : ℕ} → k ≤ n → (n ≡ k → ⊥) → k < n
up l d = omega (arith, l, d)

beyond : {n k : ℕ} → k < n → n ≤ k → ⊥
beyond l h = omega (arith, l, h)

-- no other number has words
no_words : (n : ℕ) → (n ≡ 1 → ⊥) → (n ≡ 2 → ⊥) → (n ≡ 3 → ⊥) → (n ≡ 4 → ⊥) → (n ≡ 5 → ⊥)
    → (n ≡ 6 → ⊥) → (n ≡ 7 → ⊥) → (n ≡ 9 → ⊥) → (n ≡ 10 → ⊥) → (n ≡ 11 → ⊥) → (n ≡ 12 → ⊥) → (n ≡ 13 → ⊥)
    → (n ≡ 14 → ⊥) → (n ≡ 18 → ⊥) → (n ≡ 19 → ⊥) → (n ≡ 20 → ⊥) → (n ≡ 21 → ⊥) → has_words n ≡ false
no_words n d1 d2 d3 d4 d5 d6 d7 d9 d10 d11 d12 d13 d14 d18 d19 d20 d21 =
    not_yes (λ y. none (words_listed n y))
  where
    none : Listed n → ⊥
    none (inl (l, h)) = beyond (up (up (up (up (up (up (up l d1) d2) d3) d4) d5) d6) d7) h
    none (inr (inl (l, h))) = beyond (up (up (up (up (up (up l d9) d10) d11) d12) d13) d14) h
    none (inr (inr (l, h))) = beyond (up (up (up (up l d18) d19) d20) d21) h

-- each refusal has words
some_words : (r : Refusal) → has_words (number_of r) ≡ true
unfolding words has_words
some_words TooManyBytes = refl
some_words KindNotAllowed = refl
some_words CutShort = refl
some_words TooManyOfItsKind = refl
some_words OutOfRange = refl
some_words DeclaredAlready = refl
some_words NotDeclared = refl
some_words CyclicMaximalObject = refl
some_words NoItem = refl
some_words OperatorNotAllowed = refl
some_words NoConnection = refl
some_words SpaceTooSmall = refl
some_words LastSerialNumber = refl
some_words SheetNotPrintable = refl
some_words NoSuchSheet = refl
some_words WrongComparisonTable = refl
some_words RemovedWithOnlyDeclared = refl

not_none : {n k : ℕ} {r : Refusal} → refusal_of_number n ≡ None → refusal_of_number k ≡ Some r → n ≡ k → ⊥
not_none z y e = let w = ap refusal_of_number e in cc

module _ (n : ℕ) (out : List ℕ) where
  -- the number of a refusal, whose words are these
  pub words_are : {r : Refusal} {text : List ℕ} {p : Printed} {end : List ℕ} → refusal_of_number n ≡ Some r
      → text ≡ words_of (number_of r)
      → (p ≡ printed text out) × (end ≡ after text out) → (p ≡ words_printed n out) × (end ≡ words_after n out)
  unfolding words_printed words_after
  words_are {r} i t p =
      let e = (numbered_exactly r n).its_number i in
      let w = ap has_words e ∙ some_words r in
      let u = t ∙ ap words_of (sym e) in (
        p.0 ∙ ap (λ (x : List ℕ). printed x out) u ∙ sym (rw (words_printed, w)),
        p.1 ∙ ap (λ (x : List ℕ). after x out) u ∙ sym (rw (words_after, w)),
      )

  -- any other
  pub words_none : refusal_of_number n ≡ None → (Err NotFit ≡ words_printed n out) × (out ≡ words_after n out)
  unfolding words_printed words_after refusals refusal_of_number
  words_none z =
      let e = no_words n (not_none z refl) (not_none z refl) (not_none z refl) (not_none z refl) (not_none z refl)
      (not_none z refl) (not_none z refl) (not_none z refl) (not_none z refl) (not_none z refl) (not_none z refl)
      (not_none z refl) (not_none z refl) (not_none z refl) (not_none z refl) (not_none z refl) (not_none z refl) in
      (sym (rw (words_printed, e)), sym (rw (words_after, e)))
