-- What records ask: items and comparisons are the fields of the records, and X has the attributes named.
-- In order: items, comparisons, names, the attributes of a variable, lists in arrays.
-- Assumes nothing.
use mathlib.Core.Path.{◌≡◌, refl, sym, ap, ap₂, subst}
use mathlib.Core.Bool.{Bool, true, false}
use mathlib.Core.Logic.{◌⊎◌, inl, inr, ⊎_elim}
use mathlib.Core.List.Memᴰ
use mathlib.Core.List.{List, [], ◌∷◌, ◌++◌, Memᴰ}
use Prim.Native.Nat.{ℕ, zero, suc, ◌≤◌, ◌<◌}
use native.Mathlib.Omega.{arith}
use borrow.Author.Tests.{eqb-true, eqb-false}
use lib.Dec.{eqb}
use lib.ListN.{length, get_or, take}
use Rattle.sets.specs.Sets.{◌∈◌, insert, single}
use Rattle.sets.proofs.Tests.{yes_no}
use Rattle.sets.proofs.Bits.{in_out}
use Rattle.sets.proofs.Sets.{∪_left, ∪_cases, in_single, insert_in, zero_out}
use Rattle.records.specs.Gathered.{Gathered, ended, taken, passed_over}
use Rattle.records.specs.Records.{kinds, whose, of_book, kind_of}
use Rattle.records.proofs.Records.{of_book_kind}
use Rattle.records.specs.declared.Record.{Record}
use Rattle.records.specs.declared.BookRecord.{BookRecord}
use Rattle.records.specs.declared.Record.TheVariants.{OfBook, OfQuery}
use Rattle.records.specs.declared.QueryRecord.TheVariants.{Item, CompareTwo, CompareConstant, End}
use Rattle.query.specs.declared.QueryItem.{QueryItem}
use Rattle.query.specs.declared.Comparison.{Comparison}
use Rattle.query.specs.Asking.{pair, item_of, items_of, of_two, comparison_of, comparisons_of, name_of, names_of}
use Rattle.query.specs.Asking.{naming, comparisons_in, conjunction, Asking, Named, NamesWhole, attributes_named}
use Rattle.query.specs.Asking.{asks, filled, asked_of}
use Rattle.query.specs.Accepting.{Names, item, left, right, of_constant, NamedIn}
use Rattle.query.specs.Statements.{SaysItem, SaysComparison, two, constant, AskedWhole}
use Rattle.query.proofs.Asking.{conjunction_of}

-- ---- items

-- a record of another kind is no item
no_item : (r : Record) → (kind_of r ≡ 7 → ⊥) → (i : QueryItem) → SaysItem r i → ⊥
unfolding kind_of
no_item r n i e = n (ap kind_of e)

no_item_of_a_book : {r : BookRecord} {i : QueryItem} → SaysItem (OfBook r) i → ⊥
unfolding kind_of of_book whose kinds
no_item_of_a_book {r} e = yes_no (of_book_kind r) (ap (λ (x : Record). of_book (kind_of x)) e)

pub items_gathered : (rs : List Record) → Gathered SaysItem rs (items_of rs)
unfolding items_of item_of kind_of
items_gathered [] = ended
items_gathered (r ∷ rs) = more r (items_gathered rs)
  where
    more : (r : Record) {xs : List QueryItem} → Gathered SaysItem rs xs → Gathered SaysItem (r ∷ rs) (item_of r ++ xs)
    more (OfBook r) g = passed_over (λ i e. no_item_of_a_book e) g
    more (OfQuery (Item v a)) g = taken refl g
    more (OfQuery (CompareTwo v a operator v2 a2)) g =
        passed_over (no_item (OfQuery (CompareTwo v a operator v2 a2)) (λ z. omega arith)) g
    more (OfQuery (CompareConstant v a operator cell)) g =
        passed_over (no_item (OfQuery (CompareConstant v a operator cell)) (λ z. omega arith)) g
    more (OfQuery End) g = passed_over (no_item (OfQuery End) (λ z. omega arith)) g

-- ---- comparisons

-- a record of another kind than 8 and 9 is no comparison
no_comparison : (r : Record) → (8 ≤ kind_of r → kind_of r ≤ 9 → ⊥) → (c : Comparison) → SaysComparison r c → ⊥
unfolding kind_of
no_comparison _ n c two = n (omega arith) (omega arith)
no_comparison _ n c constant = n (omega arith) (omega arith)

no_comparison_of_a_book : {r : BookRecord} (c : Comparison) → SaysComparison (OfBook r) c → ⊥
no_comparison_of_a_book c s = elim s [ ]

pub comparisons_gathered : (rs : List Record) → Gathered SaysComparison rs (comparisons_of rs)
unfolding comparisons_of comparison_of kind_of
comparisons_gathered [] = ended
comparisons_gathered (r ∷ rs) = more r (comparisons_gathered rs)
  where
    more : (r : Record) {xs : List Comparison} → Gathered SaysComparison rs xs
        → Gathered SaysComparison (r ∷ rs) (comparison_of r ++ xs)
    more (OfBook r) g = passed_over no_comparison_of_a_book g
    more (OfQuery (Item v a)) g = passed_over (no_comparison (OfQuery (Item v a)) (λ l u. omega arith)) g
    more (OfQuery (CompareTwo v a operator v2 a2)) g = taken two g
    more (OfQuery (CompareConstant v a operator cell)) g = taken constant g
    more (OfQuery End) g = passed_over (no_comparison (OfQuery End) (λ l u. omega arith)) g

-- ---- names

-- a record names what its names are
name_in : {v a : ℕ} {r : Record} → Names v a r → Memᴰ (pair v a) (name_of r)
unfolding name_of
name_in item = Memᴰ.head refl
name_in left = Memᴰ.head refl
name_in right = Memᴰ.tail (Memᴰ.head refl)
name_in of_constant = Memᴰ.head refl

same_name : {v a w b : ℕ} (P : ℕ → ℕ → Type 0) → pair v a ≡ pair w b → P w b → P v a
same_name {v} {a} {w} {b} P e p =
    let q : v ≡ w = ap (λ (i : QueryItem). i.variable) e in
    let t : a ≡ b = ap (λ (i : QueryItem). i.attribute) e in
    subst (λ (x : ℕ). P x a) (sym q) (subst (P w) (sym t) p)

pub in_name : {v a : ℕ} (r : Record) → Memᴰ (pair v a) (name_of r) → Names v a r
unfolding name_of
in_name (OfBook r) m = absurd (Memᴰ.not-nil m)
in_name (OfQuery (Item w b)) m = same_name (λ x y. Names x y (OfQuery (Item w b))) (Memᴰ.eq_of_singleton m) item
in_name (OfQuery (CompareTwo w b operator w2 b2)) m =
    ⊎_elim (λ e. same_name (λ x y. Names x y (OfQuery (CompareTwo w b operator w2 b2))) e left)
    (λ n. same_name (λ x y. Names x y (OfQuery (CompareTwo w b operator w2 b2))) (Memᴰ.eq_of_singleton n) right)
    (Memᴰ.cases_cons m)
in_name (OfQuery (CompareConstant w b operator cell)) m =
    same_name (λ x y. Names x y (OfQuery (CompareConstant w b operator cell))) (Memᴰ.eq_of_singleton m) of_constant
in_name (OfQuery End) m = absurd (Memᴰ.not-nil m)

-- so do records
pub names_in : {v a : ℕ} {r : Record} {rs : List Record} → Memᴰ r rs → Names v a r
    → Memᴰ (pair v a) (names_of rs)
unfolding names_of
names_in {v} {a} {r} (Memᴰ.head {xs = rs} e) n =
    Memᴰ.append_left (names_of rs) (name_in (subst (Names v a) e n))
names_in (Memᴰ.tail {x = x} m) n = Memᴰ.append_right (name_of x) (names_in m n)

pub in_names : {v a : ℕ} (rs : List Record) → Memᴰ (pair v a) (names_of rs) → NamedIn rs v a
unfolding names_of
in_names [] m = absurd (Memᴰ.not-nil m)
in_names {v} {a} (r ∷ rs) m = here (λ p. in_names rs p) (Memᴰ.append_cases (name_of r) m)
  where
    here : (Memᴰ (pair v a) (names_of rs) → NamedIn rs v a)
        → Memᴰ (pair v a) (name_of r) ⊎ Memᴰ (pair v a) (names_of rs) → NamedIn (r ∷ rs) v a
    here later (inl p) = record { by = r; there = Memᴰ.head refl; names = in_name r p }
    here later (inr p) =
        let n = later p in
        record { by = n.by; there = Memᴰ.tail n.there; names = n.names }

-- items and comparisons are named: what was gathered is what one of the records says
record Said {A : Type 0} (Says : Record → A → Type 0) (rs : List Record) (x : A) : Type 0 where
  by : Record
  there : Memᴰ by rs
  says : Says by x

gathered_said : {A : Type 0} {Says : Record → A → Type 0} {rs : List Record} {xs : List A} {x : A} → Gathered Says rs xs
    → Memᴰ x xs → Said Says rs x
gathered_said ended m = absurd (Memᴰ.not-nil m)
gathered_said {Says = Says} (taken {r = r} s g) (Memᴰ.head e) =
    record { by = r; there = Memᴰ.head refl; says = subst (Says r) (sym e) s }
gathered_said (taken s g) (Memᴰ.tail m) =
    let p = gathered_said g m in
    record { by = p.by; there = Memᴰ.tail p.there; says = p.says }
gathered_said (passed_over n g) m =
    let p = gathered_said g m in
    record { by = p.by; there = Memᴰ.tail p.there; says = p.says }

says_left : {r : Record} {c : Comparison} → SaysComparison r c → Names c.variable c.attribute r
says_left two = left
says_left constant = of_constant

says_right : {r : Record} {c : Comparison} → SaysComparison r c → c.constant ≡ false
    → Names c.variable2 c.attribute2 r
says_right two e = right
says_right constant e = absurd (yes_no refl e)

pub names_whole : (rs : List Record) → NamesWhole (asks rs)
names_whole rs = record {
  items = λ i m.
      let p = gathered_said (items_gathered rs) m in
      names_in p.there (subst (Names i.variable i.attribute) (sym p.says) item);
  lefts = λ c m. let p = compared m in names_in p.there (says_left p.says);
  rights = λ c m e. let p = compared m in names_in p.there (says_right p.says e);
}
  where
    compared : {c : Comparison} → Memᴰ c (comparisons_in (conjunction (comparisons_of rs))) → Said SaysComparison rs c
    compared {c} m =
        gathered_said (comparisons_gathered rs) (subst (λ (l : List Comparison). Memᴰ c l) (conjunction_of (comparisons_of rs)) m)

-- ---- the attributes of a variable

module _ (v : ℕ) {a : ℕ} where
  -- what X has, it keeps
  naming_keeps : (X : ℕ) (ns : List QueryItem) → a ∈ X → a ∈ naming v X ns
  unfolding naming
  naming_keeps X [] i = i
  naming_keeps X (n ∷ ns) i =
      naming_keeps (elim (eqb n.variable v) [ true ↦ insert X n.attribute | false ↦ X ]) ns
      (by (eqb n.variable v))
    where
      by : (t : Bool) → a ∈ elim t [ true ↦ insert X n.attribute | false ↦ X ]
      by true = ∪_left (single n.attribute) i
      by false = i

  -- a name of v is taken
  naming_takes : (X : ℕ) {ns : List QueryItem} → Memᴰ (pair v a) ns → a ∈ naming v X ns
  unfolding naming
  naming_takes X (Memᴰ.head {x = n} {xs = ns} e) = by (eqb n.variable v) refl
    where
      by : (t : Bool) → eqb n.variable v ≡ t
          → a ∈ naming v (elim t [ true ↦ insert X n.attribute | false ↦ X ]) ns
      by true y =
          naming_keeps (insert X n.attribute) ns
          (subst (λ (x : ℕ). a ∈ insert X x) (ap (λ (i : QueryItem). i.attribute) e) (insert_in X a))
      by false y = absurd (eqb-false n.variable v y (sym (ap (λ (i : QueryItem). i.variable) e)))
  naming_takes X (Memᴰ.tail {x = n} m) =
      naming_takes (elim (eqb n.variable v) [ true ↦ insert X n.attribute | false ↦ X ]) m

  -- nothing else is there
  naming_only : (X : ℕ) (ns : List QueryItem) → a ∈ naming v X ns → (a ∈ X) ⊎ Memᴰ (pair v a) ns
  unfolding naming
  naming_only X [] i = inl i
  naming_only X (n ∷ ns) i = by (eqb n.variable v) refl (λ Y. naming_only Y ns) i
    where
      by : (t : Bool) → eqb n.variable v ≡ t
          → ((Y : ℕ) → a ∈ naming v Y ns → (a ∈ Y) ⊎ Memᴰ (pair v a) ns)
          → a ∈ naming v (elim t [ true ↦ insert X n.attribute | false ↦ X ]) ns
          → (a ∈ X) ⊎ Memᴰ (pair v a) (n ∷ ns)
      by true y later p =
          let w : n.variable ≡ v = eqb-true n.variable v y in
          ⊎_elim
          (λ q. ⊎_elim (λ o. inl o)
          (λ o. inr (Memᴰ.head (ap₂ (λ (x y : ℕ). pair x y) (sym w) (in_single o))))
          (∪_cases X (single n.attribute) q))
          (λ m. inr (Memᴰ.tail m)) (later (insert X n.attribute) p)
      by false y later p = ⊎_elim (λ q. inl q) (λ m. inr (Memᴰ.tail m)) (later X p)

pub named_in : (q : Asking) (v : ℕ) {a : ℕ} → a ∈ attributes_named q v → Named q v a
unfolding attributes_named
named_in q v {a} i = ⊎_elim (λ z. absurd (in_out z (zero_out a))) (λ m. m) (naming_only v 0 q.names i)

pub in_named : (q : Asking) (v : ℕ) {a : ℕ} → Named q v a → a ∈ attributes_named q v
unfolding attributes_named
in_named q v n = naming_takes v 0 n

-- ---- lists in arrays

take_filled : {A : Type 0} (d : A) (n : ℕ) (l : List A) → length l ≤ n → take (length l) (filled d n l) ≡ l
unfolding filled
take_filled d n [] h = refl
take_filled d zero (x ∷ l) h = absurd (omega arith)
take_filled d (suc n) (x ∷ l) h = ap (λ m. x ∷ m) (take_filled d n l (omega arith))

pub asked_attributes : (q : Asking) (v : ℕ) → v < 4 → get_or (asked_of q).attributes v 0 ≡ attributes_named q v
unfolding asked_of
asked_attributes q zero h = refl
asked_attributes q (suc zero) h = refl
asked_attributes q (suc (suc zero)) h = refl
asked_attributes q (suc (suc (suc zero))) h = refl
asked_attributes q (suc (suc (suc (suc v)))) h = absurd (omega arith)

pub asked_whole : (q : Asking) → length q.items ≤ 8 → length (comparisons_in q.condition) ≤ 16 → AskedWhole q
unfolding asked_of
asked_whole q i c = record {
  items = take_filled (pair 0 0) 8 q.items i;
  comparisons = take_filled (of_two 0 0 0 0 0) 16 (comparisons_in q.condition) c;
  attributes = asked_attributes q;
}
