-- The number of a whole query is what the paper's words say of what it asks.
-- In order: maximal objects that contain a set, a variable's X in no maximal object, the X of all variables, the
-- number.
-- Assumes nothing.
use mathlib.Core.Path.{◌≡◌, refl, sym, ap, ◌∙◌, subst}
use mathlib.Core.Bool.{Bool, true, false, not}
use mathlib.Core.Logic.{◌⊎◌, inl, inr, ⊎_elim}
use mathlib.Core.List.Memᴰ
use mathlib.Core.List.{List, [], ◌∷◌, Memᴰ}
use Prim.Native.Nat.{ℕ, zero, suc, ◌<◌}
use native.Mathlib.Omega.{arith}
use borrow.Author.Tests.{eqb-true, eqb-false, not-true}
use lib.Dec.{eqb}
use lib.ListN.{length}
use Rattle.numbers.specs.Numbers.{is_nil}
use Rattle.sets.specs.Sets.{within, is_empty}
use Rattle.sets.proofs.Tests.{yes_no, and_yes, yes_and}
use Rattle.sets.proofs.Sets.{yes_within, no_within, is_empty_no, no_is_empty}
use Rattle.records.specs.declared.Record.{Record}
use Rattle.scheme.specs.declared.Scheme.{Scheme}
use Rattle.scheme.specs.Growing.{attributes_of}
use Rattle.scheme.specs.Statements.{LeavesOut, ended, kept, out}
use Rattle.scheme.proofs.Lists.{Asks, some_yes, yes_some}
use Rattle.query.specs.Asking.{Asking, Named, attributes_named, asks, asked_of}
use Rattle.query.specs.Reading.{containing, unconnected, some_unconnected, whole_number}
use Rattle.query.specs.Accepting.{Contains, Unconnected, OfWhole, no_item, not_connected, good, Accepted}
use Rattle.query.proofs.Names.{named_in, in_named}
use Rattle.query.proofs.Fits.{accepted_records_fit}

-- ---- maximal objects that contain a set

module _ (sets : List ℕ) (X : ℕ) where
  pub containing_only : (Ms : List ℕ) {M : ℕ} → Memᴰ M (containing sets Ms X) → Memᴰ M Ms × Contains sets X M
  unfolding containing
  containing_only [] m = absurd (Memᴰ.not-nil m)
  containing_only (N ∷ Ms) {M} m = by (within X (attributes_of sets N)) refl (λ p. containing_only Ms p) m
    where
      by : (t : Bool) → within X (attributes_of sets N) ≡ t
          → (Memᴰ M (containing sets Ms X) → Memᴰ M Ms × Contains sets X M)
          → Memᴰ M (elim t [ true ↦ N ∷ containing sets Ms X | false ↦ containing sets Ms X ])
          → Memᴰ M (N ∷ Ms) × Contains sets X M
      by true y later p =
          ⊎_elim
          (λ e. (Memᴰ.head e, subst (Contains sets X) (sym e) (yes_within X (attributes_of sets N) y)))
          (λ q. (Memᴰ.tail (later q).0, (later q).1)) (Memᴰ.cases_cons p)
      by false y later p = (Memᴰ.tail (later p).0, (later p).1)

  pub containing_has : {M : ℕ} {Ms : List ℕ} → Memᴰ M Ms → Contains sets X M → Memᴰ M (containing sets Ms X)
  unfolding containing
  containing_has {M = M} (Memᴰ.head {x = N} {xs = Ms} e) c = by (within X (attributes_of sets N)) refl
    where
      by : (t : Bool) → within X (attributes_of sets N) ≡ t
          → Memᴰ M (elim t [ true ↦ N ∷ containing sets Ms X | false ↦ containing sets Ms X ])
      by true y = Memᴰ.head e
      by false n = absurd (no_within n (subst (Contains sets X) e c))
  containing_has {M = M} (Memᴰ.tail {x = N} {xs = Ms} m) c =
      by (within X (attributes_of sets N)) (containing_has m c)
    where
      by : (t : Bool) → Memᴰ M (containing sets Ms X)
          → Memᴰ M (elim t [ true ↦ N ∷ containing sets Ms X | false ↦ containing sets Ms X ])
      by true p = Memᴰ.tail p
      by false p = p

  pub containing_ordered : (Ms : List ℕ) → LeavesOut (containing sets Ms X) Ms
  unfolding containing
  containing_ordered [] = ended
  containing_ordered (N ∷ Ms) = by (within X (attributes_of sets N)) (containing_ordered Ms)
    where
      by : (t : Bool) → LeavesOut (containing sets Ms X) Ms
          → LeavesOut (elim t [ true ↦ N ∷ containing sets Ms X | false ↦ containing sets Ms X ]) (N ∷ Ms)
      by true p = kept N p
      by false p = out N p

-- ---- a variable's X in no maximal object

nil_none : (l : List ℕ) {x : ℕ} → is_nil l ≡ true → Memᴰ x l → ⊥
unfolding is_nil
nil_none [] e m = Memᴰ.not-nil m
nil_none (y ∷ l) e m = yes_no e refl

none_nil : (l : List ℕ) → ((x : ℕ) → Memᴰ x l → ⊥) → is_nil l ≡ true
unfolding is_nil
none_nil [] n = refl
none_nil (y ∷ l) n = absurd (n y (Memᴰ.head refl))

module _ (sets Ms : List ℕ) (q : Asking) (v : ℕ) where
  yes_unconnected : unconnected sets Ms (attributes_named q v) ≡ true → Unconnected sets Ms q v
  unfolding unconnected
  yes_unconnected e =
      let X = attributes_named q v in
      let p = yes_and (not (is_empty X)) (is_nil (containing sets Ms X)) e in
      let i = no_is_empty X (not-true (is_empty X) p.0) in
      record {
        named = (i.0, named_in q v i.1);
        nowhere = λ M m c.
            nil_none (containing sets Ms X) p.1
            (containing_has sets X m (record { each = λ {k} j. c k (named_in q v j) }));
      }

  unconnected_yes : Unconnected sets Ms q v → unconnected sets Ms (attributes_named q v) ≡ true
  unfolding unconnected
  unconnected_yes u =
      let X = attributes_named q v in
      and_yes (ap not (is_empty_no (in_named q v u.named.1)))
      (none_nil (containing sets Ms X) (λ M m.
      let c = containing_only sets X Ms m in
      u.nowhere M c.0 (λ a n. c.1.each (in_named q v n))))

-- ---- the X of all variables: "variables 0 to 3"

some_asks : (sets Ms : List ℕ) → Asks (unconnected sets Ms) (some_unconnected sets Ms)
unfolding some_unconnected
some_asks sets Ms = record { none = refl; more = λ X Xs. refl }

attributes_there : (q : Asking) (v : ℕ) → v < 4 → Memᴰ (attributes_named q v) (asked_of q).attributes
unfolding asked_of
attributes_there q zero h = Memᴰ.head refl
attributes_there q (suc zero) h = Memᴰ.tail (Memᴰ.head refl)
attributes_there q (suc (suc zero)) h = Memᴰ.tail (Memᴰ.tail (Memᴰ.head refl))
attributes_there q (suc (suc (suc zero))) h =
    Memᴰ.tail (Memᴰ.tail (Memᴰ.tail (Memᴰ.head refl)))
attributes_there q (suc (suc (suc (suc v)))) h = absurd (omega arith)

there_attributes : (q : Asking) {X : ℕ} → Memᴰ X (asked_of q).attributes
    → (v : ℕ) × (X ≡ attributes_named q v)
unfolding asked_of
there_attributes q (Memᴰ.head e) = (0, e)
there_attributes q (Memᴰ.tail (Memᴰ.head e)) = (1, e)
there_attributes q (Memᴰ.tail (Memᴰ.tail (Memᴰ.head e))) = (2, e)
there_attributes q (Memᴰ.tail (Memᴰ.tail (Memᴰ.tail (Memᴰ.head e)))) = (3, e)
there_attributes q (Memᴰ.tail (Memᴰ.tail (Memᴰ.tail (Memᴰ.tail m)))) =
    absurd (Memᴰ.not-nil m)

-- "variables 0 to 3"
abbrev FourVariables : Asking → Type 0
FourVariables q = (v a : ℕ) → Named q v a → v < 4

module _ (sets Ms : List ℕ) (q : Asking) where
  yes_some_unconnected : some_unconnected sets Ms (asked_of q).attributes ≡ true
      → (v : ℕ) × Unconnected sets Ms q v
  yes_some_unconnected e =
      let p = yes_some (some_asks sets Ms) (asked_of q).attributes e in
      let x = there_attributes q p.there in
      (x.0, yes_unconnected sets Ms q x.0 (ap (unconnected sets Ms) (sym x.1) ∙ p.passing))

  no_some_unconnected : FourVariables q → some_unconnected sets Ms (asked_of q).attributes ≡ false → (v : ℕ)
      → Unconnected sets Ms q v → ⊥
  no_some_unconnected w e v u =
      yes_no
      (some_yes (some_asks sets Ms) (attributes_there q v (w v u.named.0 u.named.1))
      (unconnected_yes sets Ms q v u)) e

-- ---- the number

length_zero : {A : Type 0} (l : List A) → length l ≡ 0 → l ≡ []
length_zero [] e = refl
length_zero (x ∷ l) e = absurd (omega arith)

whole_means : (s : Scheme) (Ms : List ℕ) (q : Asking) → FourVariables q → OfWhole s Ms q (whole_number s Ms (asked_of q))
unfolding whole_number asked_of
whole_means s Ms q w =
    choose (eqb (length q.items) 0) refl (some_unconnected s.sets Ms (asked_of q).attributes) refl
  where
    choose : (t : Bool) → eqb (length q.items) 0 ≡ t → (u : Bool)
        → some_unconnected s.sets Ms (asked_of q).attributes ≡ u
        → OfWhole s Ms q (elim t [ true ↦ 10 | false ↦ elim u [ true ↦ 12 | false ↦ 0 ] ])
    choose true y u z = no_item (length_zero q.items (eqb-true (length q.items) 0 y))
    choose false n true z =
        let p = yes_some_unconnected s.sets Ms q z in
        not_connected (λ e. eqb-false (length q.items) 0 n (ap length e)) p.0 p.1
    choose false n false z =
        good (λ e. eqb-false (length q.items) 0 n (ap length e)) (no_some_unconnected s.sets Ms q w z)

whole_unique : {s : Scheme} {Ms : List ℕ} {q : Asking} {n m : ℕ} → OfWhole s Ms q n → OfWhole s Ms q m → n ≡ m
whole_unique (no_item e) (no_item f) = refl
whole_unique (no_item e) (not_connected d v u) = absurd (d e)
whole_unique (no_item e) (good d c) = absurd (d e)
whole_unique (not_connected d v u) (no_item e) = absurd (d e)
whole_unique (not_connected d v u) (not_connected d2 v2 u2) = refl
whole_unique (not_connected d v u) (good d2 c) = absurd (c v u)
whole_unique (good d c) (no_item e) = absurd (d e)
whole_unique (good d c) (not_connected d2 v u) = absurd (c v u)
whole_unique (good d c) (good d2 c2) = refl

-- at the end of a query, behind accepted records
module _ (s : Scheme) (Ms : List ℕ) {b : List ℕ} {rs : List Record} {at : ℕ} (a : Accepted s b rs at) where
  pub whole_at_end : OfWhole s Ms (asks rs) (whole_number s Ms (asked_of (asks rs)))
  whole_at_end = whole_means s Ms (asks rs) (λ v a' n. ((accepted_records_fit s a).named n).variable)

  pub at_end_whole : {n : ℕ} → OfWhole s Ms (asks rs) n → whole_number s Ms (asked_of (asks rs)) ≡ n
  at_end_whole w = whole_unique whole_at_end w

-- the numbers
pub whole_numbers : {s : Scheme} {Ms : List ℕ} {q : Asking} {n : ℕ} → OfWhole s Ms q n
    → (n ≡ 0) ⊎ ((n ≡ 10) ⊎ (n ≡ 12))
whole_numbers (no_item e) = inr (inl refl)
whole_numbers (not_connected d v u) = inr (inr refl)
whole_numbers (good d c) = inl refl
