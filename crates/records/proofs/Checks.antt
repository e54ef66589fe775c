-- Laws of checks: tests say what conditions say, one by one, so the number that the tests give is that of the first
-- condition that holds; and what the code's tests say of them.
-- In order: the first of some tests, tests that the code made, tests and conditions, those of numbers, those of sets.
-- Assumes nothing.
use mathlib.Core.Path.{◌≡◌, refl, sym, ap, ◌∙◌, subst}
use mathlib.Core.Bool.{Bool, true, false, not, ◌||◌}
use mathlib.Core.Logic.{◌⊎◌, inl, inr, ⊎_elim}
use mathlib.Core.List.{List, [], ◌∷◌}
use Prim.Native.Nat.{ℕ, ◌≤◌, ◌<◌}
use native.Mathlib.Omega.{arith}
use borrow.Author.Tests.{ltb-true, ltb-false, leb-true, leb-false, not-true, not-false}
use lib.Dec.{ltb, leb}
use Rattle.sets.specs.Sets.{◌∈◌, ◌∉◌, ◌⊆◌, has, within, is_empty}
use Rattle.sets.proofs.Tests.{yes_no, yes_or, no_or}
use Rattle.sets.proofs.Bits.{in_out}
use Rattle.sets.proofs.Sets.{yes_has, no_has, yes_within, no_within, yes_is_empty, is_empty_yes}
use Rattle.records.specs.Checks.{first_of, Condition, ◌gives◌, First}

-- ---- the first of some tests

-- the first holds
pub first_yes : {holds : Bool} {number : ℕ} (rest : List (Bool × ℕ)) → holds ≡ true
    → number ≡ first_of ((holds, number) ∷ rest)
unfolding first_of
first_yes {number = number} rest e = ap (λ (b : Bool). elim b [ true ↦ number | false ↦ first_of rest ]) (sym e)

-- the first does not hold
pub first_no : {holds : Bool} {n : ℕ} (number : ℕ) (rest : List (Bool × ℕ)) → holds ≡ false → n ≡ first_of rest
    → n ≡ first_of ((holds, number) ∷ rest)
unfolding first_of
first_no number rest e q = q ∙ ap (λ (b : Bool). elim b [ true ↦ number | false ↦ first_of rest ]) (sym e)

-- there is none
pub first_none : 0 ≡ first_of []
unfolding first_of
first_none = refl

-- no check holds: the first does not, and none of the rest does
pub none_first : (holds : Bool) (number : ℕ) (rest : List (Bool × ℕ)) → (number ≡ 0 → ⊥)
    → first_of ((holds, number) ∷ rest) ≡ 0 → (holds ≡ false) × (first_of rest ≡ 0)
unfolding first_of
none_first true number rest d e = absurd (d e)
none_first false number rest d e = (refl, e)

-- ---- a test of which the code has the result r

pub tested : {r b t : Bool} → r ≡ t → r ≡ b → t ≡ b
tested e q = sym e ∙ q

pub tested_not : {r b t : Bool} → r ≡ t → not r ≡ b → not t ≡ b
tested_not e q = ap not (sym e) ∙ q

-- the same of a member that the code has as another number
pub tested_member : {r b : Bool} {k w : ℕ} (s : ℕ) → r ≡ has s w → w ≡ k → r ≡ b → has s k ≡ b
tested_member s e q h = ap (has s) (sym q) ∙ sym e ∙ h

pub tested_absent : {r b : Bool} {k w : ℕ} (s : ℕ) → r ≡ has s w → w ≡ k → not r ≡ b → not (has s k) ≡ b
tested_absent s e q h = ap (λ (j : ℕ). not (has s j)) (sym q) ∙ tested_not e h

-- ---- tests and conditions

-- a test passes exactly if the condition holds
pub record Same (test : Bool) (P : Type 0) : Type 0 where
  pub yes : test ≡ true → P
  pub no : test ≡ false → P → ⊥

pub data Agree : List (Bool × ℕ) → List Condition → Type 1 where
  ended : Agree [] []
  next : {t : Bool} {P : Type 0} {n : ℕ} {ts : List (Bool × ℕ)} {cs : List Condition} → Same t P → Agree ts cs
      → Agree ((t, n) ∷ ts) ((P gives n) ∷ cs)

pub first_agrees : {ts : List (Bool × ℕ)} {cs : List Condition} → Agree ts cs → First cs (first_of ts)
unfolding First first_of
first_agrees ended = refl
first_agrees (next {t = true} s a) = inl (s.yes refl, refl)
first_agrees (next {t = false} s a) = inr (s.no refl, first_agrees a)

pub first_unique : (cs : List Condition) {n m : ℕ} → First cs n → First cs m → n ≡ m
unfolding First
first_unique [] p q = p ∙ sym q
first_unique (c ∷ cs) (inl p) (inl q) = p.1 ∙ sym q.1
first_unique (c ∷ cs) (inl p) (inr q) = absurd (q.0 p.0)
first_unique (c ∷ cs) (inr p) (inl q) = absurd (p.0 q.0)
first_unique (c ∷ cs) (inr p) (inr q) = first_unique cs p.1 q.1

-- P holds of the number of each condition
unfoldable pub EachNumber : (ℕ → Type 0) → List Condition → Type 0
EachNumber P [] = Unit {0}
EachNumber P (c ∷ cs) = P c.number × EachNumber P cs

pub first_number : (P : ℕ → Type 0) (cs : List Condition) (n : ℕ) → EachNumber P cs → First cs n → (n ≡ 0 → ⊥) → P n
unfolding First EachNumber
first_number P [] n b f d = absurd (d f)
first_number P (c ∷ cs) n b (inl f) d = subst P (sym f.1) b.0
first_number P (c ∷ cs) n b (inr f) d = first_number P cs n b.1 f.1 d

pub same_always : Same true (Unit {0})
same_always = record { yes = λ e. tt; no = λ e u. yes_no refl e }

pub same_true : (t : Bool) → Same t (t ≡ true)
same_true t = record { yes = λ e. e; no = λ e y. yes_no y e }

pub same_not : (t : Bool) → Same (not t) (t ≡ false)
same_not t = record { yes = not-true t; no = λ e n. yes_no (not-false t e) n }

pub same_or : {a b : Bool} {P Q : Type 0} → Same a P → Same b Q → Same (a || b) (P ⊎ Q)
same_or {a} {b} s t = record {
  yes = λ e. ⊎_elim (λ y. inl (s.yes y)) (λ y. inr (t.yes y)) (yes_or a b e);
  no = λ e. ⊎_elim (s.no (no_or a b e).0) (t.no (no_or a b e).1);
}

-- of three, as `||` and `⊎` group them
pub same_or_three : {a b c : Bool} {P Q R : Type 0} → Same a P → Same b Q → Same c R → Same (a || b || c) (P ⊎ Q ⊎ R)
same_or_three s t u = record {
  yes = λ e. ⊎_elim (λ p. ⊎_elim (λ y. inl y) (λ y. inr (inl y)) p) (λ y. inr (inr y)) ((same_or (same_or s t) u).yes e);
  no = λ e. ⊎_elim (λ p. (same_or (same_or s t) u).no e (inl (inl p)))
      (λ p. ⊎_elim (λ q. (same_or (same_or s t) u).no e (inl (inr q))) (λ r. (same_or (same_or s t) u).no e (inr r)) p);
}

-- ---- those of numbers

pub same_lt : (a b : ℕ) → Same (ltb a b) (a < b)
same_lt a b = record { yes = ltb-true a b; no = λ e h. absurd (omega (arith, ltb-false a b e)) }

pub same_le : (a b : ℕ) → Same (leb a b) (a ≤ b)
same_le a b = record { yes = leb-true a b; no = λ e h. absurd (omega (arith, leb-false a b e)) }

-- ---- those of sets

pub same_empty : (s : ℕ) → Same (is_empty s) (s ≡ 0)
same_empty s = record { yes = yes_is_empty s; no = λ e z. yes_no (is_empty_yes z) e }

pub same_has : (s k : ℕ) → Same (has s k) (k ∈ s)
same_has s k = record { yes = yes_has s k; no = λ e i. in_out i (no_has s k e) }

pub same_absent : (s k : ℕ) → Same (not (has s k)) (k ∉ s)
same_absent s k = record {
  yes = λ e. no_has s k (not-true (has s k) e);
  no = λ e o. in_out (yes_has s k (not-false (has s k) e)) o;
}

pub same_not_within : (s t : ℕ) → Same (not (within s t)) (s ⊆ t → ⊥)
same_not_within s t = record {
  yes = λ e. no_within (not-true (within s t) e);
  no = λ e n. n (yes_within s t (not-false (within s t) e));
}
