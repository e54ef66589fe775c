-- What removals and declarations make of a list, and the two faults.
-- In order: one of a list, removals, declarations, first places, the two faults.
-- Assumes nothing.
use mathlib.Core.Path.{◌≡◌, refl, sym, ap, ◌∙◌, subst}
use mathlib.Core.Bool.{Bool, true, false, not}
use mathlib.Core.Logic.{◌⊎◌, inl, inr, ⊎_elim}
use mathlib.Core.List.Memᴰ
use mathlib.Core.List.{List, [], ◌∷◌, ◌++◌, append_assoc, append-nil, Memᴰ}
use Prim.Native.Nat.{ℕ, zero, suc, ◌+◌, ◌≤◌, ◌<◌, suc-le-suc}
use native.Mathlib.Nat.{not-suc-le-zero, le_of_suc-le-suc, zero-lt-suc, lt_trans}
use native.Mathlib.Omega.{arith}
use lib.Dec.{eqb, ltb}
use lib.ListN.{length, length-append}
use borrow.Author.Tests.{eq-eqb, eqb-true, not-true, not-false, lt-ltb, ltb-true}
use Rattle.sets.proofs.Tests.{yes_no, and_yes, yes_and}
use Rattle.reduction.specs.Steps.{at, NoneTwice}
use Rattle.reduction.specs.Kept.{acyclic}
use Rattle.reduction.proofs.Places.{mem_at}
use Rattle.scheme.specs.Growing.{family_of}
use Rattle.scheme.specs.MaximalObjects.{is_one, removing, adding, both_kinds, some_cyclic}
use Rattle.scheme.specs.Statements.{LeavesOut, ended, kept, out, Removal, FirstPlace, ByFirstPlace, Addition}
use Rattle.scheme.specs.Statements.{BothFault, CyclicFault}
use Rattle.scheme.proofs.Lists.{Asks, Passes, some_yes, yes_some, some_no, no_some}
use Rattle.scheme.proofs.Lists.{none_twice_snoc, leaves_out_in, leaves_out_length, leaves_out_once}

-- ---- one of a list

pub is_one_asks : (s : ℕ) → Asks (eqb s) (is_one s)
unfolding is_one
is_one_asks s = record { none = refl; more = λ x l. refl }

pub is_one_yes : {s : ℕ} {l : List ℕ} → Memᴰ s l → is_one s l ≡ true
is_one_yes {s} m = some_yes (is_one_asks s) m (eq-eqb s s refl)

pub yes_is_one : (s : ℕ) (l : List ℕ) → is_one s l ≡ true → Memᴰ s l
yes_is_one s l e =
    let r = yes_some (is_one_asks s) l e in
    subst (λ (x : ℕ). Memᴰ x l) (sym (eqb-true s r.one r.passing)) r.there

pub no_is_one : (s : ℕ) (l : List ℕ) → is_one s l ≡ false → Memᴰ s l → ⊥
no_is_one s l e m = yes_no (is_one_yes m) e

-- ---- removals

module _ (named : List ℕ) where
  -- what is left of t ∷ l, by the test of t
  abbrev pub leaving : ℕ → List ℕ → Bool → List ℕ
  leaving t l b = elim b [ true ↦ removing l named | false ↦ t ∷ removing l named ]

  pub removing_by : (t : ℕ) (l : List ℕ) (b : Bool) → is_one t named ≡ b → removing (t ∷ l) named ≡ leaving t l b
  unfolding removing
  removing_by t l b e = ap (leaving t l) e

  removing_ordered : (l : List ℕ) → LeavesOut (removing l named) l
  unfolding removing
  removing_ordered [] = ended
  removing_ordered (t ∷ l) = by (is_one t named) (removing_ordered l)
    where
      by : (b : Bool) → LeavesOut (removing l named) l → LeavesOut (leaving t l b) (t ∷ l)
      by true p = out t p
      by false p = kept t p

  removing_stays : {s : ℕ} {l : List ℕ} → Memᴰ s l → (Memᴰ s named → ⊥) → Memᴰ s (removing l named)
  unfolding removing
  removing_stays {s} (Memᴰ.head {x = t} {xs = l} e) n = by (is_one t named) refl
    where
      by : (b : Bool) → is_one t named ≡ b → Memᴰ s (leaving t l b)
      by true y = absurd (n (subst (λ (x : ℕ). Memᴰ x named) (sym e) (yes_is_one t named y)))
      by false _ = Memᴰ.head e
  removing_stays {s} (Memᴰ.tail {x = t} {xs = l} m) n = by (is_one t named) (removing_stays m n)
    where
      by : (b : Bool) → Memᴰ s (removing l named) → Memᴰ s (leaving t l b)
      by true m' = m'
      by false m' = Memᴰ.tail m'

  removing_not_named : (l : List ℕ) {s : ℕ} → Memᴰ s (removing l named) → Memᴰ s named → ⊥
  unfolding removing
  removing_not_named [] m = absurd (Memᴰ.not-nil m)
  removing_not_named (t ∷ l) {s} m = by (is_one t named) refl (λ m'. removing_not_named l m') m
    where
      by : (b : Bool) → is_one t named ≡ b → (Memᴰ s (removing l named) → Memᴰ s named → ⊥)
          → Memᴰ s (leaving t l b) → Memᴰ s named → ⊥
      by true _ ih m' = ih m'
      by false x ih (Memᴰ.head e) = λ m'. no_is_one t named x (subst (λ (u : ℕ). Memᴰ u named) e m')
      by false x ih (Memᴰ.tail m') = ih m'

  pub length_removing : (l : List ℕ) → length (removing l named) ≤ length l
  length_removing l = leaves_out_length (removing_ordered l)

  pub removal : (l : List ℕ) → Removal l named
  removal l = record {
    stays = λ s m n. removing_stays m n;
    was_there = λ s m. leaves_out_in (removing_ordered l) m;
    not_named = λ s m. removing_not_named l m;
    ordered = removing_ordered l;
    none_twice = λ n. leaves_out_once (removing_ordered l) n;
  }

-- ---- declarations

pub adding_there : (s : ℕ) (l declared : List ℕ) → is_one s l ≡ true → adding l (s ∷ declared) ≡ adding l declared
unfolding adding
adding_there s l declared y =
    ap (λ (b : Bool). elim b [ true ↦ adding l declared | false ↦ adding (l ++ s ∷ []) declared ]) y

pub adding_new : (s : ℕ) (l declared : List ℕ) → is_one s l ≡ false
    → adding l (s ∷ declared) ≡ adding (l ++ s ∷ []) declared
unfolding adding
adding_new s l declared n =
    ap (λ (b : Bool). elim b [ true ↦ adding l declared | false ↦ adding (l ++ s ∷ []) declared ]) n

-- ---- first places

first_place_here : {t a : ℕ} {l : List ℕ} → FirstPlace (t ∷ l) t a → a ≡ 0
first_place_here {a = zero} p = refl
first_place_here {a = suc a} p = absurd (p.first 0 (zero-lt-suc a) refl)

-- behind another set, places count from that one on
first_place_behind : {t M b : ℕ} {l : List ℕ} → (M ≡ t → ⊥) → FirstPlace (t ∷ l) M b
    → (a : ℕ) × (b ≡ suc a) × FirstPlace l M a
first_place_behind {b = zero} n p = absurd (n (sym p.holds))
first_place_behind {b = suc a} n p = (
  a,
  refl,
  record {
    there = le_of_suc-le-suc p.there;
    holds = p.holds;
    first = λ i h e. p.first (suc i) (suc-le-suc h) e;
  },
)

module _ {t : ℕ} {ends declared : List ℕ} (other : (s : ℕ) → Memᴰ s ends → s ≡ t → ⊥)
    (o : ByFirstPlace ends declared) where
  -- the place of an entry of ends behind t
  behind : {j b : ℕ} → j < length ends → FirstPlace (t ∷ declared) (at ends j) b
      → (a : ℕ) × (b ≡ suc a) × FirstPlace declared (at ends j) a
  behind {j} h p = first_place_behind (other (at ends j) (mem_at ends j h)) p

  by_first_place_there : ByFirstPlace ends (t ∷ declared)
  by_first_place_there = record { before = before }
    where
      before : (i j a b : ℕ) → i < j → j < length ends → FirstPlace (t ∷ declared) (at ends i) a
          → FirstPlace (t ∷ declared) (at ends j) b → a < b
      before i j a b h l p q =
          let x = behind (lt_trans h l) p in
          let y = behind l q in
          let less = o.before i j x.0 y.0 h l x.2 y.2 in
          omega (arith, x.1, y.1)

  by_first_place_new : ByFirstPlace (t ∷ ends) (t ∷ declared)
  by_first_place_new = record { before = before }
    where
      before : (i j a b : ℕ) → i < j → j < length (t ∷ ends) → FirstPlace (t ∷ declared) (at (t ∷ ends) i) a
          → FirstPlace (t ∷ declared) (at (t ∷ ends) j) b → a < b
      before i zero a b h l p q = absurd (not-suc-le-zero h)
      before zero (suc j) a b h l p q =
          let y = behind (le_of_suc-le-suc l) q in omega (arith, first_place_here p, y.1)
      before (suc i) (suc j) a b h l p q =
          by_first_place_there.before i j a b (le_of_suc-le-suc h) (le_of_suc-le-suc l) p q

addition_there : {l declared : List ℕ} {t : ℕ} → is_one t l ≡ true → Addition l declared → Addition l (t ∷ declared)
addition_there {l} {declared} {t} y r =
    let e = adding_there t l declared y in
    record {
      ends = r.ends;
      at_the_end = e ∙ r.at_the_end;
      new = r.new;
      ordered = out t r.ordered;
      by_first_place = by_first_place_there (λ s m q. r.new s m (is_one_eq q)) r.by_first_place;
      stays = λ s m. subst (Memᴰ s) (sym e) (r.stays s m);
      there = λ s m. subst (Memᴰ s) (sym e) (there s m);
      from_either = λ s m. ⊎_elim inl (λ d. inr (Memᴰ.tail d)) (r.from_either s (subst (Memᴰ s) e m));
      none_twice = λ n. subst NoneTwice (sym e) (r.none_twice n);
    }
  where
    is_one_eq : {s : ℕ} → s ≡ t → Memᴰ s l
    is_one_eq q = subst (λ (x : ℕ). Memᴰ x l) (sym q) (yes_is_one t l y)

    there : (s : ℕ) → Memᴰ s (t ∷ declared) → Memᴰ s (adding l declared)
    there s (Memᴰ.head q) = r.stays s (is_one_eq q)
    there s (Memᴰ.tail m) = r.there s m

addition_new : {l declared : List ℕ} {t : ℕ} → is_one t l ≡ false → Addition (l ++ t ∷ []) declared
    → Addition l (t ∷ declared)
addition_new {l} {declared} {t} x r =
    let e = adding_new t l declared x in
    record {
      ends = t ∷ r.ends;
      at_the_end = e ∙ r.at_the_end ∙ append_assoc l (t ∷ []) r.ends;
      new = λ s m. new s m;
      ordered = kept t r.ordered;
      by_first_place =
          by_first_place_new (λ s m q. r.new s m (Memᴰ.append_right l (Memᴰ.head q))) r.by_first_place;
      stays = λ s m. subst (Memᴰ s) (sym e) (r.stays s (Memᴰ.append_left (t ∷ []) m));
      there = λ s m. subst (Memᴰ s) (sym e) (there s m);
      from_either = λ s m. ⊎_elim (from s) (λ d. inr (Memᴰ.tail d)) (r.from_either s (subst (Memᴰ s) e m));
      none_twice = λ n. subst NoneTwice (sym e) (r.none_twice (none_twice_snoc l n (no_is_one t l x)));
    }
  where
    there : (s : ℕ) → Memᴰ s (t ∷ declared) → Memᴰ s (adding (l ++ t ∷ []) declared)
    there s (Memᴰ.head q) = r.stays s (Memᴰ.append_right l (Memᴰ.head q))
    there s (Memᴰ.tail m) = r.there s m

    new : (s : ℕ) → Memᴰ s (t ∷ r.ends) → Memᴰ s l → ⊥
    new s (Memᴰ.head q) i = no_is_one t l x (subst (λ (z : ℕ). Memᴰ z l) q i)
    new s (Memᴰ.tail m) i = r.new s m (Memᴰ.append_left (t ∷ []) i)

    from : (s : ℕ) → Memᴰ s (l ++ t ∷ []) → Memᴰ s l ⊎ Memᴰ s (t ∷ declared)
    from s m = ⊎_elim inl (λ h. inr (Memᴰ.head (Memᴰ.eq_of_singleton h))) (Memᴰ.append_cases l m)

pub addition : (l declared : List ℕ) → Addition l declared
unfolding adding
addition l [] = record {
  ends = [];
  at_the_end = sym (append-nil l);
  new = λ s m. absurd (Memᴰ.not-nil m);
  ordered = ended;
  by_first_place = record { before = λ i j a b h l. absurd (not-suc-le-zero l) };
  stays = λ s m. m;
  there = λ s m. absurd (Memᴰ.not-nil m);
  from_either = λ s m. inl m;
  none_twice = λ n. n;
}
addition l (t ∷ declared) = by (is_one t l) refl (addition l declared) (addition (l ++ t ∷ []) declared)
  where
    by : (b : Bool) → is_one t l ≡ b → Addition l declared → Addition (l ++ t ∷ []) declared → Addition l (t ∷ declared)
    by true y r q = addition_there y r
    by false x r q = addition_new x q

pub length_adding : (l declared : List ℕ) → length (adding l declared) ≤ length l + length declared
length_adding l declared =
    let r = addition l declared in
    omega (arith, ap length r.at_the_end, length-append l r.ends, leaves_out_length r.ordered)

-- ---- the two faults

pub cyclic_asks : (sets : List ℕ) → Asks (λ M. not (acyclic (family_of sets M))) (some_cyclic sets)
unfolding some_cyclic
cyclic_asks sets = record { none = refl; more = λ x l. refl }

pub both_fault : (only : Bool) (removals : ℕ) → BothFault only removals
unfolding both_kinds
both_fault only removals = record {
  exactly = (
    λ y. let p = yes_and only (ltb 0 removals) y in (p.0, ltb-true 0 removals p.1),
    λ p. and_yes p.0 (lt-ltb 0 removals p.1),
  );
}

pub cyclic_fault : (sets l : List ℕ) → CyclicFault sets l
cyclic_fault sets l = record {
  yes = λ M m n. some_yes (cyclic_asks sets) m (ap not n);
  yes_back = λ e. back (yes_some (cyclic_asks sets) l e);
  no = λ h. some_no (cyclic_asks sets) l (λ M m. ap not (h M m));
  no_back = λ e M m. not-false (acyclic (family_of sets M)) (no_some (cyclic_asks sets) e m);
}
  where
    back : Passes (λ M. not (acyclic (family_of sets M))) l
        → (M : ℕ) × Memᴰ M l × (acyclic (family_of sets M) ≡ false)
    back r = (r.one, r.there, not-true (acyclic (family_of sets r.one)) r.passing)
