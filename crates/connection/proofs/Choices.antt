-- Choices of one row for each of some variables, and the rows that they give.
-- In order: choices, the condition, rows given.
-- Assumes nothing.
use mathlib.Core.Path.{◌≡◌, refl, sym, ap, ◌∙◌}
use mathlib.Core.Bool.{Bool, true, false}
use mathlib.Core.Logic.{⊎_elim}
use mathlib.Core.List.Memᴰ
use mathlib.Core.List.{List, [], ◌∷◌, Memᴰ}
use Prim.Native.Nat.{ℕ}
use lib.ListN.{get_or}
use Rattle.sets.proofs.Tests.{yes_and, and_yes, yes_no}
use Rattle.relation.specs.Tables.{Row}
use Rattle.book.specs.Reading.{Outcome}
use Rattle.query.specs.declared.Comparison.{Comparison}
use Rattle.query.specs.Asking.{Condition, always, compares, both, comparisons_in, Asking}
use Rattle.connection.specs.Answers.{Cells, item_cells, is_true, meets, cells_of, rows_for, choices, rows_chosen}
use Rattle.connection.proofs.Picks.{OneOfEach, of_picks, picks_have}

-- ---- choices

module _ (b : List ℕ) (o : Outcome) (q : Asking) where
  -- one row for each of some variables
  abbrev pub Chosen : List ℕ → List Row → Type 0
  Chosen = OneOfEach (rows_for b o q)

  pub of_choices : (vs : List ℕ) {l : List Row} → Memᴰ l (choices b o q vs) → Chosen vs l
  unfolding choices
  of_choices vs m = of_picks (rows_for b o q) vs m

  pub choices_have : {vs : List ℕ} {l : List Row} → Chosen vs l → Memᴰ l (choices b o q vs)
  unfolding choices
  choices_have c = picks_have (rows_for b o q) c

-- ---- the condition

module _ (o : Outcome) (at : Cells) where
  pub meets_each : (c : Condition) → meets o c at ≡ true → (x : Comparison) → Memᴰ x (comparisons_in c)
      → is_true o x at ≡ true
  unfolding meets comparisons_in
  meets_each always e x m = absurd (Memᴰ.not-nil m)
  meets_each (compares y) e x m = ap (λ (z : Comparison). is_true o z at) (Memᴰ.eq_of_singleton m) ∙ e
  meets_each (both c d) e x m =
      ⊎_elim (meets_each c (yes_and (meets o c at) (meets o d at) e).0 x)
      (meets_each d (yes_and (meets o c at) (meets o d at) e).1 x) (Memᴰ.append_cases (comparisons_in c) m)

  pub each_meets : (c : Condition) → ((x : Comparison) → Memᴰ x (comparisons_in c) → is_true o x at ≡ true)
      → meets o c at ≡ true
  unfolding meets comparisons_in
  each_meets always h = refl
  each_meets (compares y) h = h y (Memᴰ.head refl)
  each_meets (both c d) h =
      and_yes (each_meets c (λ x m. h x (Memᴰ.append_left (comparisons_in d) m)))
      (each_meets d (λ x m. h x (Memᴰ.append_right (comparisons_in c) m)))

-- ---- rows given

-- the cells of a choice
abbrev pub chosen_cells : Asking → List Row → Cells
chosen_cells q l = cells_of q (λ v. get_or l v [])

module _ (o : Outcome) (q : Asking) where
  -- a choice gives the row
  pub record Gives (ls : List (List Row)) (row : Row) : Type 0 where
    pub choice : List Row
    pub there : Memᴰ choice ls
    pub passes : meets o q.condition (chosen_cells q choice) ≡ true
    pub shows : row ≡ item_cells q.items (chosen_cells q choice)

  gives_later : {l : List Row} {ls : List (List Row)} {row : Row} → Gives ls row → Gives (l ∷ ls) row
  gives_later g =
      record { choice = g.choice; there = Memᴰ.tail g.there; passes = g.passes; shows = g.shows }

  pub of_rows_chosen : (ls : List (List Row)) {row : Row} → Memᴰ row (rows_chosen o q ls) → Gives ls row
  unfolding rows_chosen
  of_rows_chosen [] m = absurd (Memᴰ.not-nil m)
  of_rows_chosen (l ∷ ls) {row} m = by (meets o q.condition (chosen_cells q l)) refl m (λ i. of_rows_chosen ls i)
    where
      by : (t : Bool) → meets o q.condition (chosen_cells q l) ≡ t
          → Memᴰ row (elim t [
            | true ↦ item_cells q.items (chosen_cells q l) ∷ rows_chosen o q ls
            | false ↦ rows_chosen o q ls
          ])
          → (Memᴰ row (rows_chosen o q ls) → Gives ls row) → Gives (l ∷ ls) row
      by true e (Memᴰ.head z) ih = record { choice = l; there = Memᴰ.head refl; passes = e; shows = z }
      by true e (Memᴰ.tail i) ih = gives_later (ih i)
      by false e i ih = gives_later (ih i)

  pub rows_chosen_has : {l : List Row} {ls : List (List Row)} → Memᴰ l ls
      → meets o q.condition (chosen_cells q l) ≡ true
      → Memᴰ (item_cells q.items (chosen_cells q l)) (rows_chosen o q ls)
  unfolding rows_chosen
  rows_chosen_has {ls = []} m e = elim m [ ]
  rows_chosen_has {l} {ls = k ∷ ls} m e = by (meets o q.condition (chosen_cells q k)) refl m (λ i. rows_chosen_has i e)
    where
      row : Row
      row = item_cells q.items (chosen_cells q l)

      by : (t : Bool) → meets o q.condition (chosen_cells q k) ≡ t → Memᴰ l (k ∷ ls)
          → (Memᴰ l ls → Memᴰ row (rows_chosen o q ls))
          → Memᴰ row (elim t [
            | true ↦ item_cells q.items (chosen_cells q k) ∷ rows_chosen o q ls
            | false ↦ rows_chosen o q ls
          ])
      by true y (Memᴰ.head z) ih =
          Memᴰ.head (ap (λ (x : List Row). item_cells q.items (chosen_cells q x)) z)
      by true y (Memᴰ.tail i) ih = Memᴰ.tail (ih i)
      by false n (Memᴰ.head z) ih =
          absurd (yes_no (sym (ap (λ (x : List Row). meets o q.condition (chosen_cells q x)) z) ∙ e) n)
      by false n (Memᴰ.tail i) ih = ih i
