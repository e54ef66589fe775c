-- The refusals and their numbers.
-- In order: the numbers that no refusal has, each refusal and its number.
-- Assumes nothing.
use Rattle.std.proofs.Common.{◌≡◌, ℕ, ◌≤◌, ◌⊎◌, inl, inr, true, false, Bool, arith, refl, sym, ap, ◌∙◌, None, Some}
use lib.Dec.{eqb}
use lib.ListN.{get_or-eq_default}
use mathlib.Core.Logic.{⊎_elim}
use borrow.Author.Tests.{eqb-true, eq-eqb}
use Rattle.refusals.specs.declared.Refusal.{Refusal}
use Rattle.refusals.specs.declared.Refusal.TheVariants.{TooManyBytes, KindNotAllowed, CutShort, TooManyOfItsKind, OutOfRange, DeclaredAlready, NotDeclared, CyclicMaximalObject, NoItem, OperatorNotAllowed, NoConnection, SpaceTooSmall, LastSerialNumber, SheetNotPrintable, NoSuchSheet, WrongComparisonTable, RemovedWithOnlyDeclared}
use Rattle.refusals.specs.Refusals.{refusals, refusal_of_number, number_of, number_of_any, NumberedExactly}

-- ---- the numbers that no refusal has

by_test : (n k : ℕ) (b : Bool) → eqb n k ≡ b → (n ≡ k) ⊎ (n ≡ k → ⊥)
by_test n k true y = inl (eqb-true n k y)
by_test n k false z = inr (λ e. let y = eq-eqb n k e in cc)

equal_or_not : (n k : ℕ) → (n ≡ k) ⊎ (n ≡ k → ⊥)
equal_or_not n k = by_test n k (eqb n k) refl

past_all : (n : ℕ) → 22 ≤ n → refusal_of_number n ≡ None
unfolding refusals refusal_of_number
past_all n past = get_or-eq_default refusals None past

pub none_else : (n : ℕ)
    → (n ≡ 1 → ⊥)
    → (n ≡ 2 → ⊥)
    → (n ≡ 3 → ⊥)
    → (n ≡ 4 → ⊥)
    → (n ≡ 5 → ⊥)
    → (n ≡ 6 → ⊥)
    → (n ≡ 7 → ⊥)
    → (n ≡ 9 → ⊥)
    → (n ≡ 10 → ⊥)
    → (n ≡ 11 → ⊥)
    → (n ≡ 12 → ⊥)
    → (n ≡ 13 → ⊥)
    → (n ≡ 14 → ⊥)
    → (n ≡ 18 → ⊥)
    → (n ≡ 19 → ⊥)
    → (n ≡ 20 → ⊥)
    → (n ≡ 21 → ⊥)
    → refusal_of_number n ≡ None
unfolding refusals refusal_of_number
none_else n n1 n2 n3 n4 n5 n6 n7 n9 n10 n11 n12 n13 n14 n18 n19 n20 n21 =
    ⊎_elim (λ e. rw e refl) (λ n0. ⊎_elim (λ e. rw e refl) (λ n8. ⊎_elim (λ e. rw e refl) (λ n15.
    ⊎_elim (λ e. rw e refl) (λ n16. ⊎_elim (λ e. rw e refl) (λ n17. past_all n (omega arith))
    (equal_or_not n 17)) (equal_or_not n 16)) (equal_or_not n 15)) (equal_or_not n 8)) (equal_or_not n 0)

-- ---- each refusal and its number

of_its_number : (r : Refusal) → refusal_of_number (number_of r) ≡ Some r
unfolding refusals refusal_of_number
of_its_number TooManyBytes = refl
of_its_number KindNotAllowed = refl
of_its_number CutShort = refl
of_its_number TooManyOfItsKind = refl
of_its_number OutOfRange = refl
of_its_number DeclaredAlready = refl
of_its_number NotDeclared = refl
of_its_number CyclicMaximalObject = refl
of_its_number NoItem = refl
of_its_number OperatorNotAllowed = refl
of_its_number NoConnection = refl
of_its_number SpaceTooSmall = refl
of_its_number LastSerialNumber = refl
of_its_number SheetNotPrintable = refl
of_its_number NoSuchSheet = refl
of_its_number WrongComparisonTable = refl
of_its_number RemovedWithOnlyDeclared = refl

-- a number that has a refusal is that refusal's
none_or_its_own : (n : ℕ) → (refusal_of_number n ≡ None) ⊎ (number_of_any (refusal_of_number n) ≡ n)
unfolding refusals refusal_of_number
none_or_its_own n = ⊎_elim (λ e. inr (rw e refl)) (λ n1. ⊎_elim (λ e. inr (rw e refl)) (λ n2. ⊎_elim (λ e. inr (rw e refl)) (λ n3. ⊎_elim (λ e. inr (rw e refl)) (λ n4. ⊎_elim (λ e. inr (rw e refl)) (λ n5. ⊎_elim (λ e. inr (rw e refl)) (λ n6. ⊎_elim (λ e. inr (rw e refl)) (λ n7. ⊎_elim (λ e. inr (rw e refl)) (λ n9. ⊎_elim (λ e. inr (rw e refl)) (λ n10. ⊎_elim (λ e. inr (rw e refl)) (λ n11. ⊎_elim (λ e. inr (rw e refl)) (λ n12. ⊎_elim (λ e. inr (rw e refl)) (λ n13. ⊎_elim (λ e. inr (rw e refl)) (λ n14. ⊎_elim (λ e. inr (rw e refl)) (λ n18. ⊎_elim (λ e. inr (rw e refl)) (λ n19. ⊎_elim (λ e. inr (rw e refl)) (λ n20. ⊎_elim (λ e. inr (rw e refl)) (λ n21. inl (none_else n n1 n2 n3 n4 n5 n6 n7 n9 n10 n11 n12 n13 n14 n18 n19 n20 n21)) (equal_or_not n 21)) (equal_or_not n 20)) (equal_or_not n 19)) (equal_or_not n 18)) (equal_or_not n 14)) (equal_or_not n 13)) (equal_or_not n 12)) (equal_or_not n 11)) (equal_or_not n 10)) (equal_or_not n 9)) (equal_or_not n 7)) (equal_or_not n 6)) (equal_or_not n 5)) (equal_or_not n 4)) (equal_or_not n 3)) (equal_or_not n 2)) (equal_or_not n 1)

its_number : (r : Refusal) (n : ℕ) → refusal_of_number n ≡ Some r → n ≡ number_of r
its_number r n e = ⊎_elim (λ none. absurd cc) (λ same. sym same ∙ ap number_of_any e) (none_or_its_own n)

pub numbered_exactly : (r : Refusal) (n : ℕ) → NumberedExactly r n
numbered_exactly r n = record { of_its_number = of_its_number r; its_number = its_number r n }
