-- The refusal that an answer gives back has the number that the query is refused with.
-- In order: the numbers of the fixed list, the answer, a refusal.
-- Assumes nothing.
use mathlib.Core.Path.{◌≡◌, refl, sym, ap, ◌∙◌}
use mathlib.Core.Logic.{⊎_elim}
use mathlib.Core.List.{List}
use Prim.Native.Nat.{ℕ, ◌≤◌, ◌<◌}
use native.Mathlib.Omega.{arith}
use borrow.Author.Tests.{eq-eqb, ne_eqb}
use Rattle.std.proofs.Common.{Option, None, Some}
use Rattle.refusals.specs.declared.Refusal.{Refusal}
use Rattle.refusals.specs.declared.Refusal.TheVariants.{TooManyBytes, KindNotAllowed, CutShort, TooManyOfItsKind, OutOfRange, DeclaredAlready, NotDeclared, CyclicMaximalObject, NoItem, OperatorNotAllowed, NoConnection, SpaceTooSmall, LastSerialNumber, SheetNotPrintable, NoSuchSheet, WrongComparisonTable, RemovedWithOnlyDeclared}
use Rattle.refusals.specs.Refusals.{number_of, number_of_any, refusals, refusal_of_number}
use Rattle.refusals.proofs.Numbers.{numbered_exactly}
use Rattle.sets.proofs.Numbers.{eq_or_ne}
use Rattle.connection.specs.declared.Answer.{Answer}
use Rattle.connection.specs.Answering.{number, refused, answer_of}
use Rattle.connection.proofs.Outcomes.{if_yes, if_no, number_one_of, number_not_eight}

-- ---- the numbers of the fixed list

up_to_fourteen : (n : ℕ) → n ≤ 14 → (n ≡ 8 → ⊥) → number_of_any (refusal_of_number n) ≡ n
unfolding refusals refusal_of_number
up_to_fourteen n low n8 =
    ⊎_elim (λ e. rw e refl) (λ n0. ⊎_elim (λ e. rw e refl) (λ n1. ⊎_elim (λ e. rw e refl) (λ n2. ⊎_elim (λ e. rw e refl) (λ n3. ⊎_elim (λ e. rw e refl) (λ n4.
    ⊎_elim (λ e. rw e refl) (λ n5. ⊎_elim (λ e. rw e refl) (λ n6. ⊎_elim (λ e. rw e refl) (λ n7. ⊎_elim (λ e. rw e refl) (λ n9.
    ⊎_elim (λ e. rw e refl) (λ n10. ⊎_elim (λ e. rw e refl) (λ n11. ⊎_elim (λ e. rw e refl) (λ n12. ⊎_elim (λ e. rw e refl) (λ n13. ⊎_elim (λ e. rw e refl) (λ n14. absurd (omega arith)) (eq_or_ne n 14)) (eq_or_ne n 13)) (eq_or_ne n 12)) (eq_or_ne n 11)) (eq_or_ne n 10)) (eq_or_ne n 9)) (eq_or_ne n 7)) (eq_or_ne n 6)) (eq_or_ne n 5)) (eq_or_ne n 4)) (eq_or_ne n 3)) (eq_or_ne n 2)) (eq_or_ne n 1)) (eq_or_ne n 0)

-- ---- the answer

module _ (b q : List ℕ) (serial room : ℕ) where
  its_number : number_of_any (refusal_of_number (number b q serial room)) ≡ number b q serial room
  unfolding refusals refusal_of_number
  its_number =
      ⊎_elim (λ low. up_to_fourteen (number b q serial room) low (number_not_eight b q serial room))
      (⊎_elim (λ e. rw e refl) (λ e. rw e refl))
      (number_one_of b q serial room)

  pub refusal_number : number_of_any (answer_of b q serial room).refusal ≡ number b q serial room
  unfolding answer_of refused
  refusal_number =
      ⊎_elim
      (λ z. ap (λ (a : Answer). number_of_any a.refusal) (if_yes _ _ (eq-eqb (number b q serial room) 0 z)) ∙ sym z)
      (λ d. ap (λ (a : Answer). number_of_any a.refusal) (if_no _ _ (ne_eqb (number b q serial room) 0 d)) ∙ its_number)
      (eq_or_ne (number b q serial room) 0)

-- ---- a refusal

-- no refusal has the number 0
pub some_number : (r : Refusal) → number_of r ≡ 0 → ⊥
unfolding refusals refusal_of_number
some_number r z =
    let e : refusal_of_number (number_of r) ≡ Some r = (numbered_exactly r 0).of_its_number in
    let f : refusal_of_number (number_of r) ≡ refusal_of_number 0 = ap refusal_of_number z in
    let g : Some r ≡ None = sym e ∙ f in
    cc

-- it fits in a byte
pub number_low : (o : Option Refusal) → number_of_any o < 256
number_low None = omega arith
number_low (Some TooManyBytes) = omega arith
number_low (Some KindNotAllowed) = omega arith
number_low (Some CutShort) = omega arith
number_low (Some TooManyOfItsKind) = omega arith
number_low (Some OutOfRange) = omega arith
number_low (Some DeclaredAlready) = omega arith
number_low (Some NotDeclared) = omega arith
number_low (Some CyclicMaximalObject) = omega arith
number_low (Some NoItem) = omega arith
number_low (Some OperatorNotAllowed) = omega arith
number_low (Some NoConnection) = omega arith
number_low (Some SpaceTooSmall) = omega arith
number_low (Some LastSerialNumber) = omega arith
number_low (Some SheetNotPrintable) = omega arith
number_low (Some NoSuchSheet) = omega arith
number_low (Some WrongComparisonTable) = omega arith
number_low (Some RemovedWithOnlyDeclared) = omega arith
