-- Laws of lists that the list of maximal objects rests on.
-- In order: the rest of a list, whether some one of a list passes a test, the loop that looks for it, lists with none
-- twice, lists with some left out.
-- Assumes nothing.
use mathlib.Core.Path.{◌≡◌, refl, sym, ap, ◌∙◌, subst}
use mathlib.Core.Bool.{Bool, true, false, ◌||◌}
use mathlib.Core.Logic.{◌⊎◌, inl, inr, ⊎_elim}
use mathlib.Core.List.Memᴰ
use mathlib.Core.List.{List, [], ◌∷◌, ◌++◌, Memᴰ}
use Prim.Native.Nat.{ℕ, zero, suc, ◌+◌, ◌≤◌, ◌<◌, suc-le-suc}
use native.Mathlib.Nat.{not-suc-le-zero, le_of_suc-le-suc, le_refl, zero-lt-suc, suc_inj}
use native.Mathlib.Numerals.{add-one, add-one-le}
use native.Mathlib.Omega.{arith}
use lib.ListN.{length, get_or, drop, drop_of_length-le}
use lib.Seq.{drop-cons}
use Rattle.sets.proofs.Tests.{yes_no, not_yes, or_left, or_right, yes_or}
use Rattle.reduction.specs.Steps.{at, NoneTwice}
use Rattle.reduction.proofs.Places.{mem_at, place_of}
use Rattle.scheme.specs.Statements.{LeavesOut, ended, kept, out}

-- ---- the rest of a list

-- the list from place i on is its entry i and the rest
pub drop_at : (l : List ℕ) {i : ℕ} → i < length l → drop i l ≡ get_or l i 0 ∷ drop (i + 1) l
drop_at l {i} h = drop-cons l i 0 h ∙ ap (λ (k : ℕ). get_or l i 0 ∷ drop k l) (sym (add-one i))

-- ---- whether some one of a list passes a test

-- `some l` asks the test of each one of l
pub record Asks (test : ℕ → Bool) (some : List ℕ → Bool) : Type 0 where
  pub none : some [] ≡ false
  pub more : (x : ℕ) (l : List ℕ) → some (x ∷ l) ≡ (test x || some l)

-- one of l that passes
pub record Passes (test : ℕ → Bool) (l : List ℕ) : Type 0 where
  pub one : ℕ
  pub there : Memᴰ one l
  pub passing : test one ≡ true

module _ {test : ℕ → Bool} {some : List ℕ → Bool} (p : Asks test some) where
  pub some_yes : {x : ℕ} {l : List ℕ} → Memᴰ x l → test x ≡ true → some l ≡ true
  some_yes (Memᴰ.head {x = y} {xs = l} e) t =
      p.more y l ∙ or_left (some l) (subst (λ (z : ℕ). test z ≡ true) e t)
  some_yes (Memᴰ.tail {x = y} {xs = l} m) t = p.more y l ∙ or_right (test y) (some_yes m t)

  pub yes_some : (l : List ℕ) → some l ≡ true → Passes test l
  yes_some [] e = absurd (yes_no e p.none)
  yes_some (x ∷ l) e =
      ⊎_elim (λ t. record { one = x; there = Memᴰ.head refl; passing = t }) (λ s. later (yes_some l s))
      (yes_or (test x) (some l) (sym (p.more x l) ∙ e))
    where
      later : Passes test l → Passes test (x ∷ l)
      later r = record { one = r.one; there = Memᴰ.tail r.there; passing = r.passing }

  pub some_no : (l : List ℕ) → ((x : ℕ) → Memᴰ x l → test x ≡ false) → some l ≡ false
  some_no l n = not_yes (λ e. let r = yes_some l e in yes_no r.passing (n r.one r.there))

  pub no_some : {x : ℕ} {l : List ℕ} → some l ≡ false → Memᴰ x l → test x ≡ false
  no_some e m = not_yes (λ t. yes_no (some_yes m t) e)

  -- ---- the loop that looks for one: none before place i passes

  pub record NoneSoFar (l : List ℕ) (i : ℕ) : Type 0 where
    pub inside : i ≤ length l
    pub rest : some (drop i l) ≡ some l

  pub none_start : (l : List ℕ) → NoneSoFar l 0
  none_start l = record { inside = omega arith; rest = refl }

  module _ {l : List ℕ} {i : ℕ} (v : NoneSoFar l i) (h : i < length l) where
    none_front : (test (get_or l i 0) || some (drop (i + 1) l)) ≡ some l
    none_front =
        sym (p.more (get_or l i 0) (drop (i + 1) l)) ∙ ap some (sym (drop_at l h)) ∙ v.rest

    pub none_found : test (get_or l i 0) ≡ true → true ≡ some l
    none_found t = sym (or_left (some (drop (i + 1) l)) t) ∙ none_front

    pub none_next : test (get_or l i 0) ≡ false → NoneSoFar l (i + 1)
    none_next n = record {
      inside = add-one-le h;
      rest = ap (λ (b : Bool). b || some (drop (i + 1) l)) (sym n) ∙ none_front;
    }

  pub none_end : {l : List ℕ} {i : ℕ} → NoneSoFar l i → length l ≤ i → false ≡ some l
  none_end {l} {i} v h = sym p.none ∙ ap some (sym (drop_of_length-le l h)) ∙ v.rest

-- ---- lists with none twice

pub none_twice_nil : NoneTwice []
none_twice_nil = record { once = λ i j h. absurd (not-suc-le-zero h) }

pub none_twice_cons : {s : ℕ} {l : List ℕ} → (Memᴰ s l → ⊥) → NoneTwice l → NoneTwice (s ∷ l)
none_twice_cons {s} {l} new n = record { once = once }
  where
    fresh : (i : ℕ) → i < length l → s ≡ at l i → ⊥
    fresh i h e = new (subst (λ (x : ℕ). Memᴰ x l) (sym e) (mem_at l i h))

    once : (i j : ℕ) → i < length (s ∷ l) → j < length (s ∷ l) → at (s ∷ l) i ≡ at (s ∷ l) j → i ≡ j
    once zero zero hi hj e = refl
    once zero (suc j) hi hj e = absurd (fresh j (le_of_suc-le-suc hj) e)
    once (suc i) zero hi hj e = absurd (fresh i (le_of_suc-le-suc hi) (sym e))
    once (suc i) (suc j) hi hj e = ap suc (n.once i j (le_of_suc-le-suc hi) (le_of_suc-le-suc hj) e)

pub none_twice_tail : {s : ℕ} {l : List ℕ} → NoneTwice (s ∷ l) → NoneTwice l
none_twice_tail n = record { once = λ i j hi hj e. suc_inj (n.once (suc i) (suc j) (suc-le-suc hi) (suc-le-suc hj) e) }

pub none_twice_head : {s : ℕ} {l : List ℕ} → NoneTwice (s ∷ l) → Memᴰ s l → ⊥
none_twice_head {s} {l} n m =
    let p = place_of m in
    let e : zero ≡ suc p.place =
    n.once zero (suc p.place) (zero-lt-suc (length l)) (suc-le-suc p.there) (sym p.holds) in
    omega arith

pub none_twice_snoc : (l : List ℕ) {x : ℕ} → NoneTwice l → (Memᴰ x l → ⊥) → NoneTwice (l ++ x ∷ [])
none_twice_snoc [] n new = none_twice_cons (λ m. absurd (Memᴰ.not-nil m)) none_twice_nil
none_twice_snoc (s ∷ l) {x} n new =
    none_twice_cons (λ m. apart (Memᴰ.append_cases l m))
    (none_twice_snoc l (none_twice_tail n) (λ m. new (Memᴰ.tail m)))
  where
    apart : Memᴰ s l ⊎ Memᴰ s (x ∷ []) → ⊥
    apart (inl m) = none_twice_head n m
    apart (inr m) = new (Memᴰ.head (sym (Memᴰ.eq_of_singleton m)))

-- ---- lists with some left out

pub leaves_out_in : {l m : List ℕ} {s : ℕ} → LeavesOut l m → Memᴰ s l → Memᴰ s m
leaves_out_in ended m = m
leaves_out_in (kept t p) (Memᴰ.head e) = Memᴰ.head e
leaves_out_in (kept t p) (Memᴰ.tail m) = Memᴰ.tail (leaves_out_in p m)
leaves_out_in (out t p) m = Memᴰ.tail (leaves_out_in p m)

pub leaves_out_length : {l m : List ℕ} → LeavesOut l m → length l ≤ length m
leaves_out_length ended = le_refl 0
leaves_out_length (kept t p) = suc-le-suc (leaves_out_length p)
leaves_out_length (out t p) = omega (arith, leaves_out_length p)

pub leaves_out_once : {l m : List ℕ} → LeavesOut l m → NoneTwice m → NoneTwice l
leaves_out_once ended n = n
leaves_out_once (kept t p) n =
    none_twice_cons (λ m. none_twice_head n (leaves_out_in p m)) (leaves_out_once p (none_twice_tail n))
leaves_out_once (out t p) n = leaves_out_once p (none_twice_tail n)
