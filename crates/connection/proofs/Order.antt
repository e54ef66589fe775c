-- The combinations as a list: their number, which they are, the rows that they give, their order.
-- In order: their number, variables named, one thing for each variable of a list, which they are, the rows that they
-- give, their order.
-- Assumes nothing.
use mathlib.Core.Path.{◌≡◌, refl, sym, ap, ap₂, ◌∙◌, subst}
use mathlib.Core.Bool.{Bool, true, false}
use mathlib.Core.Logic.{⊎_elim, ◌↔◌}
use mathlib.Core.List.Memᴰ
use mathlib.Core.List.{List, [], ◌∷◌, map, tail, Memᴰ}
use Prim.Native.Nat.{ℕ, ◌<◌}
use native.Mathlib.Nat.{lt_trans}
use native.Mathlib.Omega.{arith}
use borrow.Author.Tests.{eq-eqb, ne_eqb}
use lib.Dec.{eqb}
use lib.ListN.{length, get_or}
use Rattle.sets.specs.Sets.{is_empty}
use Rattle.sets.proofs.Sets.{is_empty_no, no_is_empty}
use Rattle.sets.proofs.Tests.{yes_no}
use Rattle.relation.specs.Tables.{Row}
use Rattle.relation.specs.Joins.{together}
use Rattle.relation.proofs.Tables.{map_same}
use Rattle.book.specs.Reading.{Outcome, read}
use Rattle.scheme.specs.Statements.{LeavesOut, ended, kept, out}
use Rattle.query.specs.Asking.{Asking, Named, attributes_named}
use Rattle.query.proofs.Theorems.{attributes_are}
use Rattle.connection.specs.Connection.{objects_for}
use Rattle.connection.specs.Answers.{shown_tables, Combination, combined}
use Rattle.connection.specs.Order.{Way, ways_of, with_attributes, variables_named, sets_named}
use Rattle.connection.specs.Order.{combinations_of, ways_picked, GivesRow, objects_sum, combination_count}
use Rattle.connection.specs.Order.{CombinationBefore}
use Rattle.connection.specs.Statements.{NamesInRange}
use Rattle.connection.proofs.Named.{AgreeOnNames, items_agree}
use Rattle.connection.proofs.Answered.{variables, of_four}
use Rattle.connection.proofs.Picks.{Each, none, one, of_picks, picks_have, picks_counted, InOrder, more}
use Rattle.connection.proofs.Picks.{order_at, at_order, picks_in_order, before_not_both, order_once, order_only}
use Rattle.connection.proofs.Ways.{ways_counted, order_leaves_out, IsWay, of_ways, ways_have, ways_in_order}
use Rattle.connection.proofs.Ways.{way_not_both}

-- ---- their number

pub combinations_size : (b : List ℕ) (o : Outcome) (Xs : List ℕ)
    → length (combinations_of b o Xs) ≡ combination_count b o Xs
unfolding combinations_of combination_count
combinations_size b o Xs =
    picks_counted (ways_of b o) (λ X. objects_sum b o X (objects_for o X)) (λ X. ways_counted b o X (objects_for o X)) Xs

-- ---- variables named

module _ (X : ℕ → ℕ) where
  with_only : (vs : List ℕ) {v : ℕ} → Memᴰ v (with_attributes X vs) → Memᴰ v vs × (is_empty (X v) ≡ false)
  unfolding with_attributes
  with_only [] m = absurd (Memᴰ.not-nil m)
  with_only (u ∷ vs) {v} m = by (is_empty (X u)) refl (λ i. with_only vs i) m
    where
      by : (t : Bool) → is_empty (X u) ≡ t
          → (Memᴰ v (with_attributes X vs) → Memᴰ v vs × (is_empty (X v) ≡ false))
          → Memᴰ v (elim t [ true ↦ with_attributes X vs | false ↦ u ∷ with_attributes X vs ])
          → Memᴰ v (u ∷ vs) × (is_empty (X v) ≡ false)
      by true e later i = (Memᴰ.tail (later i).0, (later i).1)
      by false e later (Memᴰ.head z) = (Memᴰ.head z, ap (λ (w : ℕ). is_empty (X w)) z ∙ e)
      by false e later (Memᴰ.tail i) = (Memᴰ.tail (later i).0, (later i).1)

  with_has : (vs : List ℕ) {v : ℕ} → Memᴰ v vs → is_empty (X v) ≡ false → Memᴰ v (with_attributes X vs)
  unfolding with_attributes
  with_has [] m n = absurd (Memᴰ.not-nil m)
  with_has (u ∷ vs) {v} m n = by (is_empty (X u)) refl (λ i. with_has vs i n) m
    where
      by : (t : Bool) → is_empty (X u) ≡ t → (Memᴰ v vs → Memᴰ v (with_attributes X vs)) → Memᴰ v (u ∷ vs)
          → Memᴰ v (elim t [ true ↦ with_attributes X vs | false ↦ u ∷ with_attributes X vs ])
      by true e later (Memᴰ.head z) = absurd (yes_no (ap (λ (w : ℕ). is_empty (X w)) z ∙ e) n)
      by true e later (Memᴰ.tail i) = later i
      by false e later (Memᴰ.head z) = Memᴰ.head z
      by false e later (Memᴰ.tail i) = Memᴰ.tail (later i)

  with_leaves : (vs : List ℕ) → LeavesOut (with_attributes X vs) vs
  unfolding with_attributes
  with_leaves [] = ended
  with_leaves (v ∷ vs) = by (is_empty (X v)) (with_leaves vs)
    where
      by : (t : Bool) → LeavesOut (with_attributes X vs) vs
          → LeavesOut (elim t [ true ↦ with_attributes X vs | false ↦ v ∷ with_attributes X vs ]) (v ∷ vs)
      by true p = out v p
      by false p = kept v p

-- a number below the first of an ascending list is below all of it
ascending_cons : {u v : ℕ} {vs : List ℕ} → u < v → InOrder ◌<◌ (v ∷ vs) → InOrder ◌<◌ (u ∷ v ∷ vs)
ascending_cons {u} h (more n a) =
    more
    (λ y m. ⊎_elim (λ e. subst (λ (w : ℕ). u < w) (sym e) h) (λ i. lt_trans h (n y i)) (Memᴰ.cases_cons m))
    (more n a)

four_ascending : InOrder ◌<◌ variables
four_ascending =
    ascending_cons (omega arith) (ascending_cons (omega arith) (ascending_cons (omega arith)
    (more (λ y m. absurd (Memᴰ.not-nil m)) none)))

module _ (q : Asking) where
  named_ascending : InOrder ◌<◌ (variables_named q)
  named_ascending = order_leaves_out (with_leaves (attributes_named q) variables) four_ascending

  of_named : {v : ℕ} → Memᴰ v (variables_named q) → (a : ℕ) × Named q v a
  of_named {v} m =
      let (a, i) = no_is_empty (attributes_named q v) (with_only (attributes_named q) variables m).1 in
      (a, ((attributes_are q).attributes v a).0 i)

  named_has : {v a : ℕ} → NamesInRange q → Named q v a → Memᴰ v (variables_named q)
  named_has {v} {a} range n =
      with_has (attributes_named q) variables (four v (range.each v a n).0)
      (is_empty_no (((attributes_are q).attributes v a).1 n))
    where
      four : (v : ℕ) → v < 4 → Memᴰ v variables
      four = of_four (λ v. Memᴰ v variables) (Memᴰ.head refl) (Memᴰ.tail (Memᴰ.head refl))
          (Memᴰ.tail (Memᴰ.tail (Memᴰ.head refl)))
          (Memᴰ.tail (Memᴰ.tail (Memᴰ.tail (Memᴰ.head refl))))

-- ---- one thing for each variable of a list

module _ {A : Type 0} where
  -- the thing x for v, the others as f has them
  unfoldable with_thing : ℕ → A → (ℕ → A) → ℕ → A
  with_thing v x f u = elim (eqb u v) [ true ↦ x | false ↦ f u ]

  at_thing : {v u : ℕ} (x : A) (f : ℕ → A) → u ≡ v → with_thing v x f u ≡ x
  unfolding with_thing
  at_thing {v} {u} x f e = ap (λ (t : Bool). elim t [ true ↦ x | false ↦ f u ]) (eq-eqb u v e)

  at_others : {v u : ℕ} (x : A) (f : ℕ → A) → (u ≡ v → ⊥) → with_thing v x f u ≡ f u
  unfolding with_thing
  at_others {v} {u} x f n = ap (λ (t : Bool). elim t [ true ↦ x | false ↦ f u ]) (ne_eqb u v n)

  -- the things of a list are those that a function has for its variables
  record Had (P : ℕ → A → Type 0) (vs : List ℕ) (l : List A) : Type 0 where
    thing : ℕ → A
    such : (v : ℕ) → Memᴰ v vs → P v (thing v)
    listed : l ≡ map thing vs

  each_had : (P : ℕ → A → Type 0) → A → {vs : List ℕ} {l : List A} → InOrder ◌<◌ vs → Each P vs l → Had P vs l
  each_had P d a none = record { thing = λ v. d; such = λ v m. absurd (Memᴰ.not-nil m); listed = refl }
  each_had P d (more n a) (one {i = v} {is = vs} {x} {l} p e) =
      let h = each_had P d a e in
      let f : ℕ → A = with_thing v x h.thing in
      let others : (u : ℕ) → Memᴰ u vs → f u ≡ h.thing u =
      λ u m. at_others x h.thing (λ z. omega (arith, n u m, z)) in
      record {
        thing = f;
        such = λ u m.
            ⊎_elim (λ z. subst (λ (w : ℕ). P w (f w)) (sym z) (subst (P v) (sym (at_thing x h.thing refl)) p))
            (λ i. subst (P u) (sym (others u i)) (h.such u i)) (Memᴰ.cases_cons m);
        listed =
            ap₂ (λ (y : A) (k : List A). y ∷ k) (sym (at_thing x h.thing refl))
            (h.listed ∙ sym (map_same f h.thing vs others));
      }

  of_each_map : {P : ℕ → A → Type 0} (f : ℕ → ℕ) (vs : List ℕ) {l : List A} → Each P (map f vs) l
      → Each (λ v x. P (f v) x) vs l
  of_each_map f [] none = none
  of_each_map f (v ∷ vs) (one p e) = one p (of_each_map f vs e)

  -- a function has a thing for each
  each_of : (P : ℕ → A → Type 0) (f : ℕ → ℕ) (thing : ℕ → A) (vs : List ℕ)
      → ((v : ℕ) → Memᴰ v vs → P (f v) (thing v)) → Each P (map f vs) (map thing vs)
  each_of P f thing [] h = none
  each_of P f thing (v ∷ vs) h =
      one (h v (Memᴰ.head refl)) (each_of P f thing vs (λ u m. h u (Memᴰ.tail m)))

-- functions that map a list to the same have the same for its elements
same_map : {A : Type 0} (f g : ℕ → A) {v : ℕ} {vs : List ℕ} → map f vs ≡ map g vs → Memᴰ v vs → f v ≡ g v
same_map f g {vs = []} e m = elim m [ ]
same_map {A} f g {vs = u ∷ vs} e (Memᴰ.head z) =
    ap f z ∙ ap (λ (l : List A). get_or l 0 (f u)) e ∙ ap g (sym z)
same_map f g {vs = u ∷ vs} e (Memᴰ.tail m) = same_map f g (ap tail e) m

-- ---- which they are

module _ (b : List ℕ) (q : Asking) where
  -- c is what a combination picks
  abbrev pub PickedBy : List Way → Type 0
  PickedBy c = (p : Combination b (read b) q) × (c ≡ ways_picked q p)

  pub of_combinations : NamesInRange q → {c : List Way}
      → Memᴰ c (combinations_of b (read b) (sets_named q)) → PickedBy c
  unfolding combinations_of ways_picked
  of_combinations range m =
      let e = of_each_map (attributes_named q) (variables_named q) (of_picks (ways_of b (read b)) (sets_named q) m) in
      let P : ℕ → Way → Type 0 = λ v w. Memᴰ w (ways_of b (read b) (attributes_named q v)) in
      let h = each_had P (record { object = 0; rows = [] }) (named_ascending q) e in
      let is : (v a : ℕ) → Named q v a → IsWay b (attributes_named q v) (h.thing v) =
      λ v a n. of_ways b (attributes_named q v) (h.such v (named_has q range n)) in (
        record {
          object = λ v. (h.thing v).object;
          rows = λ v. (h.thing v).rows;
          there = λ v a n. (is v a n).there;
          contains = λ v a n. (is v a n).contains;
          picked = λ v a n. (is v a n).picked;
        },
        h.listed,
      )

  pub combinations_have : (p : Combination b (read b) q)
      → Memᴰ (ways_picked q p) (combinations_of b (read b) (sets_named q))
  unfolding combinations_of ways_picked
  combinations_have p =
      picks_have (ways_of b (read b))
      (each_of (λ X w. Memᴰ w (ways_of b (read b) X)) (attributes_named q)
      (λ v. record { object = p.object v; rows = p.rows v }) (variables_named q)
      (λ v m.
      let (a, n) = of_named q m in
      ways_have b (attributes_named q v)
      (record { there = p.there v a n; contains = p.contains v a n; picked = p.picked v a n })))

  -- ---- the rows that they give

  module _ (range : NamesInRange q) where
    -- combinations that pick the same have the same cells at names
    same_cells : (p z : Combination b (read b) q) → ways_picked q p ≡ ways_picked q z
        → AgreeOnNames q (combined b (read b) q p) (combined b (read b) q z)
    unfolding ways_picked combined
    same_cells p z e = record {
      each = λ v a n.
          ap (λ (w : Way). together (shown_tables b (read b) w.object (attributes_named q v)) w.rows a)
          (same_map (λ u. record { object = p.object u; rows = p.rows u })
          (λ u. record { object = z.object u; rows = z.rows u }) e (named_has q range n));
    }

    pub one_row_law : {c : List Way} {row other : Row} → GivesRow b (read b) q c row → GivesRow b (read b) q c other
        → row ≡ other
    one_row_law g h =
        let s = same_cells g.combination h.combination (sym g.picked ∙ h.picked) in
        g.shows ∙ items_agree range s ∙ sym h.shows

-- ---- their order

module _ (b : List ℕ) (Xs : List ℕ) where
  abbrev listed : List (List Way)
  listed = combinations_of b (read b) Xs

  all_in_order : InOrder (CombinationBefore b (read b) Xs) listed
  unfolding combinations_of
  all_in_order = picks_in_order (ways_of b (read b)) Xs (λ X m. ways_in_order b X)

  not_both : (c d : List Way) → CombinationBefore b (read b) Xs c d → CombinationBefore b (read b) Xs d c → ⊥
  not_both c d = before_not_both (way_not_both b)

  pub combinations_once : (i j : ℕ) → i < length listed → j < length listed → get_or listed i [] ≡ get_or listed j []
      → i ≡ j
  combinations_once = order_once not_both [] all_in_order

  pub combinations_in_order : (i j : ℕ) → i < j → j < length listed
      → CombinationBefore b (read b) Xs (get_or listed i []) (get_or listed j [])
  combinations_in_order = order_at [] all_in_order

  pub combinations_only : (l : List (List Way)) → ((c : List Way) → Memᴰ c l ↔ Memᴰ c listed)
      → ((i j : ℕ) → i < j → j < length l → CombinationBefore b (read b) Xs (get_or l i []) (get_or l j [])) → l ≡ listed
  combinations_only l s h = order_only not_both l listed (at_order [] l h) all_in_order s
