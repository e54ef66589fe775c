-- What is named in a query: the condition and the items read named cells only, and something for each variable named can
-- be had for every variable.
-- In order: cells that agree on names, one thing for each variable.
-- Assumes nothing.
use mathlib.Core.Path.{◌≡◌, refl, ap, ap₂, ◌∙◌}
use mathlib.Core.Bool.{Bool, true, false, ◌&&◌}
use mathlib.Core.Logic.{◌⊎◌, inl, inr, ⊎_elim}
use mathlib.Core.List.Memᴰ
use mathlib.Core.List.{List, [], ◌∷◌, map, Memᴰ}
use Prim.Native.Nat.{ℕ}
use Rattle.sets.specs.Sets.{is_empty, members, ATTRIBUTES}
use Rattle.sets.proofs.Tests.{yes_or_no, yes_no}
use Rattle.sets.proofs.Sets.{is_empty_no, no_is_empty}
use Rattle.values.specs.Operators.{holds}
use Rattle.relation.specs.Tables.{Row, cell_of}
use Rattle.relation.proofs.Tables.{cell_of_map}
use Rattle.book.specs.Reading.{Outcome}
use Rattle.query.specs.declared.QueryItem.{QueryItem}
use Rattle.query.specs.declared.Comparison.{Comparison}
use Rattle.query.specs.Asking.{right_kind, Condition, always, compares, both, comparisons_in, Asking, Named}
use Rattle.query.specs.Asking.{attributes_named}
use Rattle.query.proofs.Theorems.{attributes_are}
use Rattle.connection.specs.Answers.{Cells, item_cells, right_cell, kind_at, is_true, meets, cells_of}
use Rattle.connection.specs.Statements.{NamesInRange}

-- ---- cells that agree on names

pub record AgreeOnNames (q : Asking) (f g : Cells) : Type 0 where
  pub each : (v a : ℕ) → Named q v a → f v a ≡ g v a

-- conditions whose comparisons are true alike are true alike
meets_same : (o : Outcome) (f g : Cells) (c : Condition)
    → ((x : Comparison) → Memᴰ x (comparisons_in c) → is_true o x f ≡ is_true o x g) → meets o c f ≡ meets o c g
unfolding meets comparisons_in
meets_same o f g always h = refl
meets_same o f g (compares x) h = h x (Memᴰ.head refl)
meets_same o f g (both c d) h =
    ap₂ ◌&&◌ (meets_same o f g c (λ x m. h x (Memᴰ.append_left (comparisons_in d) m)))
    (meets_same o f g d (λ x m. h x (Memᴰ.append_right (comparisons_in c) m)))

module _ {q : Asking} {f g : Cells} (range : NamesInRange q) (s : AgreeOnNames q f g) where
  items_same : (items : List QueryItem) → ((i : QueryItem) → Memᴰ i items → Memᴰ i q.items)
      → item_cells items f ≡ item_cells items g
  unfolding item_cells
  items_same [] h = refl
  items_same (i ∷ items) h =
      ap₂ (λ x xs. x ∷ xs) (s.each i.variable i.attribute (range.whole.items i (h i (Memᴰ.head refl))))
      (items_same items (λ j m. h j (Memᴰ.tail m)))

  -- they give the same items
  pub items_agree : item_cells q.items f ≡ item_cells q.items g
  items_agree = items_same q.items (λ i m. m)

  -- and make the same comparisons true
  true_agrees : (o : Outcome) (c : Comparison) → Memᴰ c (comparisons_in q.condition) → is_true o c f ≡ is_true o c g
  unfolding is_true right_cell
  true_agrees o c m =
      ap₂ (holds c.operator (kind_at o c.attribute) (right_kind o.scheme.kinds c))
      (s.each c.variable c.attribute (range.whole.lefts c m)) (right c.constant refl)
    where
      right : (t : Bool) → c.constant ≡ t
          → ◌≡◌ {A = ℕ} (elim t [ true ↦ c.cell | false ↦ f c.variable2 c.attribute2 ])
          (elim t [ true ↦ c.cell | false ↦ g c.variable2 c.attribute2 ])
      right true e = refl
      right false e = s.each c.variable2 c.attribute2 (range.whole.rights c m e)

  -- so the condition too
  pub condition_agrees : (o : Outcome) → meets o q.condition f ≡ meets o q.condition g
  condition_agrees o = meets_same o f g q.condition (true_agrees o)

-- rows that show cells at names have these cells there
pub shown_agree : {q : Asking} {picks : ℕ → Row} {at : Cells} → NamesInRange q
    → ((v a : ℕ) → Named q v a → picks v ≡ map (at v) (members ATTRIBUTES (attributes_named q v)))
    → AgreeOnNames q (cells_of q picks) at
unfolding cells_of
shown_agree {q} {at = at} range h = record {
  each = λ v a n.
      ap (λ (row : Row). cell_of (attributes_named q v) row a) (h v a n)
      ∙ cell_of_map (at v) (range.each v a n).1 (((attributes_are q).attributes v a).1 n);
}

-- ---- one thing for each variable: what there is for a variable that is named, else the thing d

module _ (q : Asking) {A : Type 0} (P : ℕ → A → Type 0) (d : A)
    (had : (v a : ℕ) → Named q v a → (x : A) × P v x) where
  abbrev Had : ℕ → Type 0
  Had v = (is_empty (attributes_named q v) ≡ true) ⊎ ((x : A) × P v x)

  had_or_not : (v : ℕ) → Had v
  had_or_not v =
      ⊎_elim inl
      (λ n. let (a, i) = no_is_empty (attributes_named q v) n in inr (had v a (((attributes_are q).attributes v a).0 i)))
      (yes_or_no (is_empty (attributes_named q v)))

  thing : {v : ℕ} → Had v → A
  thing (inl e) = d
  thing (inr x) = x.0

  thing_such : {v a : ℕ} → Named q v a → (h : Had v) → P v (thing h)
  unfolding thing
  thing_such {v} {a} n (inl e) = absurd (yes_no e (is_empty_no (((attributes_are q).attributes v a).1 n)))
  thing_such n (inr x) = x.1

  pub for_each_fact : ℕ → A
  for_each_fact v = thing (had_or_not v)

  pub for_each : (v a : ℕ) → Named q v a → P v (for_each_fact v)
  unfolding for_each_fact
  for_each v a n = thing_such n (had_or_not v)
