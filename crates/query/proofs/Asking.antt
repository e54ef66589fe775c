-- What one record more adds to what records ask, as the definitions have it and as the code adds it.
-- In order: what a record without a fault has, lists of records with one more, arrays with one more, names with one
-- more, what the code has with one record more, records by their variant.
-- Assumes nothing.
use mathlib.Core.Path.{◌≡◌, refl, sym, ap, ◌∙◌}
use mathlib.Core.Bool.{true, false, ◌||◌}
use mathlib.Core.List.{List, [], ◌∷◌, ◌++◌, append-nil, append_assoc}
use Prim.Native.Nat.{ℕ, zero, suc, ◌+◌, ◌<◌}
use native.Mathlib.Nat.{le_of_suc-le-suc, not-suc-le-zero}
use native.Mathlib.Omega.{arith}
use borrow.Author.Tests.{eqb-true, ltb-false, leb-false}
use lib.Dec.{eqb, ltb, leb}
use lib.ListN.{length, get_or, set, length-append}
use Rattle.sets.specs.Sets.{insert, ATTRIBUTES}
use Rattle.sets.proofs.Tests.{yes_no, no_or}
use Rattle.records.specs.Records.{kinds, whose, of_book, kind_of}
use Rattle.records.proofs.Records.{of_book_kind}
use Rattle.records.proofs.Checks.{none_first}
use Rattle.records.specs.declared.Record.{Record}
use Rattle.records.specs.declared.QueryRecord.{QueryRecord}
use Rattle.records.specs.declared.Record.TheVariants.{OfBook, OfQuery}
use Rattle.records.specs.declared.QueryRecord.TheVariants.{Item, CompareTwo, CompareConstant, End}
use Rattle.scheme.specs.declared.Scheme.{Scheme}
use Rattle.query.specs.declared.Asked.{Asked}
use Rattle.query.specs.declared.QueryItem.{QueryItem}
use Rattle.query.specs.declared.Comparison.{Comparison}
use Rattle.query.specs.Asking.{pair, item_of, items_of, of_two, with_cell, comparison_of, comparisons_of, name_of}
use Rattle.query.specs.Asking.{names_of, comparisons_in, conjunction, asks}
use Rattle.query.specs.Asking.{naming, attributes_named, filled, asked_of, nothing_asked, with_name, with_item}
use Rattle.query.specs.Asking.{with_comparison, with_record}
use Rattle.query.specs.Faults.{checks, fault_of}
use Rattle.query.specs.Reading.{is_end}

-- ---- what a record without a fault has

-- the code has the record by its variant
pub same_fault : (s : Scheme) (asked : Asked) {r q : QueryRecord} → r ≡ q
    → fault_of s asked (OfQuery r) ≡ 0 → fault_of s asked (OfQuery q) ≡ 0
same_fault s asked e f = ap (λ (r : QueryRecord). fault_of s asked (OfQuery r)) (sym e) ∙ f

-- room for one more, and a name within range
pub record NewName (before bound v a : ℕ) : Type 0 where
  pub room : before < bound
  pub variable : v < 4
  pub attribute : a < ATTRIBUTES

module _ (s : Scheme) (asked : Asked) where
  pub item_accepted : (v a : ℕ) → fault_of s asked (OfQuery (Item v a)) ≡ 0 → NewName asked.retrieved 8 v a
  unfolding fault_of checks
  item_accepted v a e =
      let room = none_first (leb 8 asked.retrieved) 4 _ (λ z. omega arith) e in
      let range = none_first (ltb 3 v || leb ATTRIBUTES a) 5 _ (λ z. omega arith) room.1 in
      let small = no_or (ltb 3 v) (leb ATTRIBUTES a) range.0 in
      record {
        room = leb-false 8 asked.retrieved room.0;
        variable = omega (arith, ltb-false 3 v small.0);
        attribute = omega (arith, leb-false ATTRIBUTES a small.1);
      }

  pub two_accepted : (v a operator v2 a2 : ℕ) → fault_of s asked (OfQuery (CompareTwo v a operator v2 a2))
      ≡ 0
      → NewName asked.compared 16 v a × NewName asked.compared 16 v2 a2
  unfolding fault_of checks
  two_accepted v a operator v2 a2 e =
      let room = none_first (leb 16 asked.compared) 4 _ (λ z. omega arith) e in
      let range = none_first (ltb 3 v
      || (leb ATTRIBUTES a || (ltb 5 operator || (ltb 3 v2 || leb ATTRIBUTES a2)))) 5 _ (λ z. omega
      arith) room.1 in
      let first = no_or (ltb 3 v) (leb ATTRIBUTES a || (ltb 5 operator || (ltb 3 v2 || leb ATTRIBUTES a2)))
      range.0 in
      let second = no_or (leb ATTRIBUTES a) (ltb 5 operator || (ltb 3 v2 || leb ATTRIBUTES a2)) first.1 in
      let third = no_or (ltb 5 operator) (ltb 3 v2 || leb ATTRIBUTES a2) second.1 in
      let fourth = no_or (ltb 3 v2) (leb ATTRIBUTES a2) third.1 in (
        record {
          room = leb-false 16 asked.compared room.0;
          variable = omega (arith, ltb-false 3 v first.0);
          attribute = omega (arith, leb-false ATTRIBUTES a second.0);
        },
        record {
          room = leb-false 16 asked.compared room.0;
          variable = omega (arith, ltb-false 3 v2 fourth.0);
          attribute = omega (arith, leb-false ATTRIBUTES a2 fourth.1);
        },
      )

  pub constant_accepted : (v a operator cell : ℕ)
      → fault_of s asked (OfQuery (CompareConstant v a operator cell)) ≡ 0
      → NewName asked.compared 16 v a
  unfolding fault_of checks
  constant_accepted v a operator cell e =
      let room = none_first (leb 16 asked.compared) 4 _ (λ z. omega arith) e in
      let range = none_first (ltb 3 v || (leb ATTRIBUTES a || ltb 5 operator)) 5 _ (λ z. omega arith) room.1 in
      let first = no_or (ltb 3 v) (leb ATTRIBUTES a || ltb 5 operator) range.0 in
      let second = no_or (leb ATTRIBUTES a) (ltb 5 operator) first.1 in
      record {
        room = leb-false 16 asked.compared room.0;
        variable = omega (arith, ltb-false 3 v first.0);
        attribute = omega (arith, leb-false ATTRIBUTES a second.0);
      }

-- ---- lists of records with one more

-- f is what each record gives, one after another
record Each {A : Type 0} (give : Record → List A) (f : List Record → List A) : Type 0 where
  none : f [] ≡ []
  more : (r : Record) (rs : List Record) → f (r ∷ rs) ≡ give r ++ f rs

each_more : {A : Type 0} (give : Record → List A) (f : List Record → List A) → Each give f → (rs : List Record)
    (r : Record) → f (rs ++ r ∷ []) ≡ f rs ++ give r
each_more give f e [] r =
    e.more r [] ∙ ap (λ l. give r ++ l) e.none ∙ append-nil (give r) ∙ ap (λ l. l ++ give r) (sym e.none)
each_more give f e (x ∷ rs) r =
    e.more x (rs ++ r ∷ []) ∙ ap (λ l. give x ++ l) (each_more give f e rs r)
    ∙ sym (append_assoc (give x) (f rs) (give r)) ∙ ap (λ l. l ++ give r) (sym (e.more x rs))

pub items_more : (rs : List Record) (r : Record) → items_of (rs ++ r ∷ []) ≡ items_of rs ++ item_of r
unfolding items_of
items_more = each_more item_of items_of (record { none = refl; more = λ r rs. refl })

pub comparisons_more : (rs : List Record) (r : Record)
    → comparisons_of (rs ++ r ∷ []) ≡ comparisons_of rs ++ comparison_of r
unfolding comparisons_of
comparisons_more = each_more comparison_of comparisons_of (record { none = refl; more = λ r rs. refl })

pub names_more : (rs : List Record) (r : Record) → names_of (rs ++ r ∷ []) ≡ names_of rs ++ name_of r
unfolding names_of
names_more = each_more name_of names_of (record { none = refl; more = λ r rs. refl })

-- the comparisons of a conjunction are those that it is of
pub conjunction_of : (cs : List Comparison) → comparisons_in (conjunction cs) ≡ cs
unfolding comparisons_in conjunction
conjunction_of [] = refl
conjunction_of (c ∷ cs) = ap (λ (l : List Comparison). c ∷ l) (conjunction_of cs)

-- the end of a query asks nothing
pub asks_end : (rs : List Record) → asks (rs ++ OfQuery End ∷ []) ≡ asks rs
unfolding item_of comparison_of name_of
asks_end rs =
    let i : items_of (rs ++ OfQuery End ∷ []) ≡ items_of rs = items_more rs (OfQuery End) ∙ append-nil (items_of rs) in
    let c : comparisons_of (rs ++ OfQuery End ∷ []) ≡ comparisons_of rs =
    comparisons_more rs (OfQuery End) ∙ append-nil (comparisons_of rs) in
    let n : names_of (rs ++ OfQuery End ∷ []) ≡ names_of rs = names_more rs (OfQuery End) ∙ append-nil (names_of rs) in
    λ j. record { items = i j; condition = conjunction (c j); names = n j }

naming_append : (v X : ℕ) (ns ms : List QueryItem) → naming v X (ns ++ ms) ≡ naming v (naming v X ns) ms
unfolding naming
naming_append v X [] ms = refl
naming_append v X (n ∷ ns) ms =
    naming_append v (elim (eqb n.variable v) [ true ↦ insert X n.attribute | false ↦ X ]) ns ms

attributes_more : (rs : List Record) (r : Record) (v : ℕ)
    → attributes_named (asks (rs ++ r ∷ [])) v ≡ naming v (attributes_named (asks rs) v) (name_of r)
unfolding attributes_named
attributes_more rs r v = ap (naming v 0) (names_more rs r) ∙ naming_append v 0 (names_of rs) (name_of r)

-- ---- arrays with one more

filled_more : {A : Type 0} (d : A) (n : ℕ) (l : List A) (x : A) → length l < n
    → set (filled d n l) (length l) x ≡ filled d n (l ++ x ∷ [])
unfolding filled
filled_more d zero l x h = absurd (not-suc-le-zero h)
filled_more d (suc n) [] x h = refl
filled_more {A} d (suc n) (y ∷ l) x h = ap (λ (t : List A). y ∷ t) (filled_more d n l x (le_of_suc-le-suc h))

-- ---- names with one more

-- the sets of four variables, one of which has an attribute more
four_named : (v a x0 x1 x2 x3 : ℕ) → v < 4
    → set (x0 ∷ x1 ∷ x2 ∷ x3 ∷ []) v (insert (get_or (x0 ∷ x1 ∷ x2 ∷ x3 ∷ []) v 0) a)
    ≡ naming 0 x0 (pair v a ∷ []) ∷ naming 1 x1 (pair v a ∷ []) ∷ naming 2 x2 (pair v a ∷ [])
    ∷ naming 3 x3 (pair v a ∷ []) ∷ []
unfolding naming
four_named zero a x0 x1 x2 x3 h = refl
four_named (suc zero) a x0 x1 x2 x3 h = refl
four_named (suc (suc zero)) a x0 x1 x2 x3 h = refl
four_named (suc (suc (suc zero))) a x0 x1 x2 x3 h = refl
four_named (suc (suc (suc (suc v)))) a x0 x1 x2 x3 h = absurd (omega arith)

-- ---- what the code has with one record more

pub asked_nothing : nothing_asked ≡ asked_of (asks [])
unfolding nothing_asked asked_of items_of comparisons_of comparisons_in conjunction attributes_named names_of naming filled
asked_nothing = refl

-- the sets of the four variables
abbrev four : List Record → List ℕ
four rs = attributes_named (asks rs) 0 ∷ attributes_named (asks rs) 1 ∷ attributes_named (asks rs) 2 ∷ attributes_named (asks rs) 3 ∷ []

four_more : (rs : List Record) (r : Record)
    → four (rs ++ r ∷ []) ≡ naming 0 (attributes_named (asks rs) 0) (name_of r) ∷ naming 1 (attributes_named (asks rs) 1) (name_of r)
    ∷ naming 2 (attributes_named (asks rs) 2) (name_of r) ∷ naming 3 (attributes_named (asks rs) 3) (name_of r) ∷ []
four_more rs r =
    cc (attributes_more rs r 0, attributes_more rs r 1, attributes_more rs r 2, attributes_more rs r 3)

-- a record that asks nothing
asks_nothing : (rs : List Record) (r : Record) → item_of r ≡ [] → comparison_of r ≡ [] → name_of r ≡ []
    → asked_of (asks rs) ≡ asked_of (asks (rs ++ r ∷ []))
unfolding asked_of naming
asks_nothing rs r i c n =
    let e1 : items_of (rs ++ r ∷ []) ≡ items_of rs =
    items_more rs r ∙ ap (λ (l : List QueryItem). items_of rs ++ l) i ∙ append-nil (items_of rs) in
    let e2 : comparisons_of (rs ++ r ∷ []) ≡ comparisons_of rs =
    comparisons_more rs r ∙ ap (λ (l : List Comparison). comparisons_of rs ++ l) c ∙ append-nil (comparisons_of rs) in
    let same : (v : ℕ) → attributes_named (asks (rs ++ r ∷ [])) v ≡ attributes_named (asks rs) v =
    λ v. attributes_more rs r v ∙ ap (naming v (attributes_named (asks rs) v)) n in
    cc (same 0, same 1, same 2, same 3, conjunction_of (comparisons_of rs), conjunction_of (comparisons_of (rs ++ r ∷ [])))

module _ (rs : List Record) (v a : ℕ) (h : v < 4) where
  asked_item : length (items_of rs) < 8
      → with_name (with_item (asked_of (asks rs)) (pair v a)) v a ≡ asked_of (asks (rs ++ OfQuery (Item v a) ∷ []))
  unfolding asked_of with_name with_item item_of comparison_of name_of
  asked_item room =
      let r = OfQuery (Item v a) in
      let e1 : set (filled (pair 0 0) 8 (items_of rs)) (length (items_of rs)) (pair v a)
      ≡ filled (pair 0 0) 8 (items_of (rs
      ++ r ∷ [])) =
      filled_more (pair 0 0) 8 (items_of rs) (pair v a) room ∙ ap (filled (pair 0 0) 8) (sym (items_more rs r)) in
      let e2 : length (items_of rs) + 1 ≡ length (items_of (rs ++ r ∷ [])) =
      omega (arith, ap length (items_more rs r), length-append (items_of rs) (pair v a ∷ [])) in
      let e3 : comparisons_of (rs ++ r ∷ []) ≡ comparisons_of rs =
      comparisons_more rs r ∙ append-nil (comparisons_of rs) in
      let e4 = four_named v a (attributes_named (asks rs) 0) (attributes_named (asks rs) 1) (attributes_named (asks rs) 2)
      (attributes_named (asks rs) 3)
      h ∙ sym (four_more rs r) in
      cc (conjunction_of (comparisons_of rs), conjunction_of (comparisons_of (rs ++ r ∷ [])))

module _ (rs : List Record) (operator : ℕ) (room : length (comparisons_of rs) < 16) where
  -- a comparison more, in its array and counted
  compared_more : (r : Record) (c : Comparison) → comparison_of r ≡ c ∷ []
      → (set (filled (of_two 0 0 0 0 0) 16 (comparisons_of rs)) (length (comparisons_of rs)) c
      ≡ filled (of_two 0 0 0 0 0) 16 (comparisons_of (rs ++ r ∷ [])))
      × (length (comparisons_of rs) + 1 ≡ length (comparisons_of (rs ++ r ∷ [])))
  compared_more r c e =
      let more : comparisons_of (rs ++ r ∷ []) ≡ comparisons_of rs ++ c ∷ [] =
      comparisons_more rs r ∙ ap (λ (l : List Comparison). comparisons_of rs ++ l) e in (
        filled_more (of_two 0 0 0 0 0) 16 (comparisons_of rs) c room ∙ ap (filled (of_two 0 0 0 0 0) 16) (sym more),
        omega (arith, ap length more, length-append (comparisons_of rs) (c ∷ [])),
      )

  asked_constant : (v a cell : ℕ) → v < 4
      → with_name (with_comparison (asked_of (asks rs)) (with_cell v a operator cell)) v a
      ≡ asked_of (asks (rs ++ OfQuery (CompareConstant v a operator cell) ∷ []))
  unfolding asked_of with_name with_comparison item_of comparison_of name_of
  asked_constant v a cell h =
      let r = OfQuery (CompareConstant v a operator cell) in
      let e1 = compared_more r (with_cell v a operator cell) refl in
      let e2 : items_of (rs ++ r ∷ []) ≡ items_of rs = items_more rs r ∙ append-nil (items_of rs) in
      let e3 = four_named v a (attributes_named (asks rs) 0) (attributes_named (asks rs) 1) (attributes_named (asks rs) 2)
      (attributes_named (asks rs) 3)
      h ∙ sym (four_more rs r) in
      cc (e1.0, e1.1, conjunction_of (comparisons_of rs), conjunction_of (comparisons_of (rs ++ r ∷ [])))

  asked_two : (v a v2 a2 : ℕ) → v < 4 → v2 < 4
      → with_name (with_name (with_comparison (asked_of (asks rs)) (of_two v a operator v2 a2)) v a) v2 a2
      ≡ asked_of (asks (rs ++ OfQuery (CompareTwo v a operator v2 a2) ∷ []))
  unfolding asked_of with_name with_comparison item_of comparison_of name_of naming
  asked_two v a v2 a2 h h2 =
      let r = OfQuery (CompareTwo v a operator v2 a2) in
      let e1 = compared_more r (of_two v a operator v2 a2) refl in
      let e2 : items_of (rs ++ r ∷ []) ≡ items_of rs = items_more rs r ∙ append-nil (items_of rs) in
      let once = four_named v a (attributes_named (asks rs) 0) (attributes_named (asks rs) 1) (attributes_named (asks rs) 2)
      (attributes_named (asks rs) 3) h in
      let twice = ap (λ (l : List ℕ). set l v2 (insert (get_or l v2 0) a2)) once ∙ four_named v2 a2 _ _ _ _ h2
      ∙ sym (four_more rs r) in
      cc (e1.0, e1.1, twice, conjunction_of (comparisons_of rs), conjunction_of (comparisons_of (rs ++ r ∷ [])))

-- as many comparisons as the code counts
fewer : (rs : List Record) {n : ℕ} → length (comparisons_in (conjunction (comparisons_of rs))) < n
    → length (comparisons_of rs) < n
fewer rs h = omega (arith, h, ap length (conjunction_of (comparisons_of rs)))

pub asked_record : (s : Scheme) (rs : List Record) (r : Record) → fault_of s (asked_of (asks rs)) r ≡ 0
    → with_record (asked_of (asks rs)) r ≡ asked_of (asks (rs ++ r ∷ []))
unfolding asked_of with_record item_of comparison_of name_of
asked_record s rs (OfBook r) f = asks_nothing rs (OfBook r) refl refl refl
asked_record s rs (OfQuery (Item v a)) f =
    let n = item_accepted s (asked_of (asks rs)) v a f in
    asked_item rs v a n.variable n.room
asked_record s rs (OfQuery (CompareTwo v a operator v2 a2)) f =
    let n = two_accepted s (asked_of (asks rs)) v a operator v2 a2 f in
    asked_two rs operator (fewer rs n.0.room) v a v2 a2 n.0.variable n.1.variable
asked_record s rs (OfQuery (CompareConstant v a operator cell)) f =
    let n = constant_accepted s (asked_of (asks rs)) v a operator cell f in
    asked_constant rs operator (fewer rs n.room) v a cell n.variable
asked_record s rs (OfQuery End) f = asks_nothing rs (OfQuery End) refl refl refl

pub last_is_end : (r : Record) → is_end r ≡ true → r ≡ OfQuery End
unfolding is_end kind_of of_book whose kinds
last_is_end (OfBook r) e = absurd (yes_no (of_book_kind r) (ap of_book (eqb-true (kind_of (OfBook r)) 10 e)))
last_is_end (OfQuery (Item v a)) e = absurd (yes_no e refl)
last_is_end (OfQuery (CompareTwo v a operator v2 a2)) e = absurd (yes_no e refl)
last_is_end (OfQuery (CompareConstant v a operator cell)) e = absurd (yes_no e refl)
last_is_end (OfQuery End) e = refl

-- ---- records by their variant

pub of_variant : (s : Scheme) (asked : Asked) {n : ℕ} {r q : QueryRecord}
    → n ≡ fault_of s asked (OfQuery q) → r ≡ q → n ≡ fault_of s asked (OfQuery r)
of_variant s asked e p =
    e ∙ ap (λ (r : QueryRecord). fault_of s asked (OfQuery r)) (sym p)

pub with_variant : (q : Asked) {d : Asked} {r p : QueryRecord} → d ≡ with_record q (OfQuery p) → r ≡ p
    → d ≡ with_record q (OfQuery r)
with_variant q e p = e ∙ ap (λ (r : QueryRecord). with_record q (OfQuery r)) (sym p)

-- what the code needs of a record without a fault
module _ (s : Scheme) (asked : Asked) {r : QueryRecord} (f : fault_of s asked (OfQuery r) ≡ 0) where
  pub item_room : (v a : ℕ) → r ≡ Item v a → asked.retrieved < 8
  item_room v a e = (item_accepted s asked v a (same_fault s asked e f)).room

  pub item_named : (v a : ℕ) → r ≡ Item v a → (v < 4) × (a < ATTRIBUTES)
  item_named v a e =
      let n = item_accepted s asked v a (same_fault s asked e f) in (n.variable, n.attribute)

  pub two_fits : (v a operator v2 a2 : ℕ) → r ≡ CompareTwo v a operator v2 a2
      → (asked.compared < 16) × ((v < 4) × (a < ATTRIBUTES)) × ((v2 < 4) × (a2 < ATTRIBUTES))
  two_fits v a operator v2 a2 e =
      let n = two_accepted s asked v a operator v2 a2 (same_fault s asked e f) in
      (n.0.room, (n.0.variable, n.0.attribute), (n.1.variable, n.1.attribute))

  pub constant_fits : (v a operator cell : ℕ) → r ≡ CompareConstant v a operator cell
      → (asked.compared < 16) × (v < 4) × (a < ATTRIBUTES)
  constant_fits v a operator cell e =
      let n = constant_accepted s asked v a operator cell (same_fault s asked e f) in
      (n.room, n.variable, n.attribute)

pub with_item_record : (q : Asked) {d q' : Asked} {r : QueryRecord} (v a : ℕ) → q' ≡ with_item q (pair v a)
    → d ≡ with_name q' v a → r ≡ Item v a → d ≡ with_record q (OfQuery r)
unfolding with_record
with_item_record q v a e d p = with_variant q (d ∙ ap (λ (x : Asked). with_name x v a) e) p
