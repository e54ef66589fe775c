-- The answer as a list: it has exactly the answer rows, and its rows are of the items' columns.
-- In order: cells of items, variables 0 to 3, what a choice gives is an answer row, an answer row is given by a choice,
-- columns, the list in order.
-- Assumes nothing.
use mathlib.Core.Path.{◌≡◌, refl, sym, ap, ◌∙◌, subst}
use mathlib.Core.Bool.{Bool, true, false}
use mathlib.Core.Logic.{◌↔◌, inl, ⊎_elim}
use mathlib.Core.List.Memᴰ
use mathlib.Core.List.{List, [], ◌∷◌, map, Memᴰ}
use Prim.Native.Nat.{ℕ, zero, suc, ◌<◌, ◌^◌}
use native.Mathlib.Nat.{not-suc-le-zero, le_of_suc-le-suc}
use native.Mathlib.Omega.{arith}
use lib.ListN.{length, get_or, length-map}
use Rattle.sets.specs.Sets.{is_empty}
use Rattle.sets.proofs.Sets.{is_empty_no, no_is_empty}
use Rattle.values.specs.Values.{in_range}
use Rattle.reduction.specs.Statements.{OfAttributes}
use Rattle.relation.specs.Tables.{Row, cell_of}
use Rattle.scheme.specs.Growing.{family_of}
use Rattle.book.specs.Reading.{Outcome, read}
use Rattle.query.specs.declared.QueryItem.{QueryItem}
use Rattle.query.specs.Asking.{Asking, Named, attributes_named}
use Rattle.query.proofs.Theorems.{attributes_are}
use Rattle.sorted.specs.Rows.{OfKinds, Ascending, none, AllOfKinds}
use Rattle.sorted.proofs.Theorems.{rows_more, determined_by_members}
use Rattle.connection.specs.Connection.{connection}
use Rattle.connection.specs.Answers.{Cells, kind_of, item_cells, cells_of, InAnswer, rows_for, choices, rows_chosen}
use Rattle.connection.specs.Answers.{item_kinds}
use Rattle.connection.specs.Answers.{answer_rows}
use Rattle.connection.specs.Statements.{NamesInRange}
use Rattle.connection.proofs.Named.{AgreeOnNames, items_agree, condition_agrees}
use Rattle.connection.proofs.Connected.{of_connection_law, connection_has}
use Rattle.connection.proofs.Ranged.{connection_cell_lt, connection_cell_ranged}
use Rattle.connection.proofs.Choices.{Chosen, of_choices, choices_have, chosen_cells}
use Rattle.connection.proofs.Choices.{of_rows_chosen, rows_chosen_has}
use Rattle.connection.proofs.Picks as Picks
use Rattle.connection.proofs.Picks.{one}

-- ---- cells of items

-- cells below n give items below n
items_lt : (items : List QueryItem) (at : Cells) {n : ℕ} → 0 < n
    → ((i : QueryItem) → Memᴰ i items → at i.variable i.attribute < n) → (k : ℕ)
    → get_or (item_cells items at) k 0 < n
unfolding item_cells
items_lt [] at p h k = p
items_lt (i ∷ items) at p h zero = h i (Memᴰ.head refl)
items_lt (i ∷ items) at p h (suc k) = items_lt items at p (λ j m. h j (Memᴰ.tail m)) k

-- cells in range give items in range
items_ranged : (o : Outcome) (items : List QueryItem) (at : Cells)
    → ((i : QueryItem) → Memᴰ i items → in_range (kind_of o i) (at i.variable i.attribute) ≡ true) → (k : ℕ)
    → k < length items → in_range (get_or (map (kind_of o) items) k 0) (get_or (item_cells items at) k 0) ≡ true
unfolding item_cells
items_ranged o [] at h k l = absurd (not-suc-le-zero l)
items_ranged o (i ∷ items) at h zero l = h i (Memᴰ.head refl)
items_ranged o (i ∷ items) at h (suc k) l =
    items_ranged o items at (λ j m. h j (Memᴰ.tail m)) k (le_of_suc-le-suc l)

-- ---- variables 0 to 3

abbrev pub variables : List ℕ
variables = 0 ∷ 1 ∷ 2 ∷ 3 ∷ []

pub of_four : (P : ℕ → Type 0) → P 0 → P 1 → P 2 → P 3 → (v : ℕ) → v < 4 → P v
of_four P p t r s zero h = p
of_four P p t r s (suc zero) h = t
of_four P p t r s (suc (suc zero)) h = r
of_four P p t r s (suc (suc (suc zero))) h = s
of_four P p t r s (suc (suc (suc (suc v)))) h = absurd (omega arith)

module _ (b : List ℕ) (bounded : (M : ℕ) → OfAttributes (family_of (read b).scheme.sets M)) (q : Asking)
    (range : NamesInRange q) where
  -- ---- what a choice gives is an answer row

  chosen_row : {l : List Row} → Chosen b (read b) q variables l → (v : ℕ) → v < 4
      → Memᴰ (get_or l v []) (rows_for b (read b) q v)
  chosen_row (one {x = r0} m0 (one {x = r1} m1 (one {x = r2} m2 (one {x = r3} m3 Picks.none)))) v h =
      of_four (λ v. Memᴰ (get_or (r0 ∷ r1 ∷ r2 ∷ r3 ∷ []) v []) (rows_for b (read b) q v)) m0 m1 m2 m3 v h

  rows_for_named : {v a : ℕ} → Named q v a → rows_for b (read b) q v ≡ connection b (read b) (attributes_named q v)
  unfolding rows_for
  rows_for_named {v} {a} n =
      ap (λ (t : Bool). elim t [ true ↦ [] ∷ [] | false ↦ connection b (read b) (attributes_named q v) ])
      (is_empty_no (((attributes_are q).attributes v a).1 n))

  choice_answers : {row : Row} → Memᴰ row (rows_chosen (read b) q (choices b (read b) q variables))
      → InAnswer b (read b) q row
  choice_answers m =
      let g = of_rows_chosen (read b) q (choices b (read b) q variables) m in
      let c = of_choices b (read b) q variables g.there in
      record {
        picks = λ v. get_or g.choice v [];
        connected = λ v a n.
            of_connection_law b (read b) (attributes_named q v) bounded
            (subst (Memᴰ (get_or g.choice v [])) (rows_for_named n) (chosen_row c v (range.each v a n).0));
        holding = g.passes;
        shows = g.shows;
      }

  -- ---- an answer row is given by a choice

  module _ {row : Row} (i : InAnswer b (read b) q row) where
    -- the row picked for a variable, of one that is not named the row of no cells
    pick : ℕ → Row
    pick v = elim (is_empty (attributes_named q v)) [ true ↦ [] | false ↦ i.picks v ]

    pick_there : (v : ℕ) → Memᴰ (pick v) (rows_for b (read b) q v)
    unfolding pick rows_for
    pick_there v = by (is_empty (attributes_named q v)) refl
      where
        by : (t : Bool) → is_empty (attributes_named q v) ≡ t
            → Memᴰ {A = Row} (elim t [ true ↦ [] | false ↦ i.picks v ])
            (elim t [ true ↦ [] ∷ [] | false ↦ connection b (read b) (attributes_named q v) ])
        by true e = Memᴰ.head refl
        by false e =
            let (a, m) = no_is_empty (attributes_named q v) e in
            connection_has b (read b) (attributes_named q v) bounded
            (i.connected v a (((attributes_are q).attributes v a).0 m))

    pick_named : {v a : ℕ} → Named q v a → pick v ≡ i.picks v
    unfolding pick
    pick_named {v} {a} n =
        ap (λ (t : Bool). elim t [ true ↦ [] | false ↦ i.picks v ]) (is_empty_no (((attributes_are q).attributes v a).1 n))

    choice : List Row
    choice = pick 0 ∷ pick 1 ∷ pick 2 ∷ pick 3 ∷ []

    choice_chosen : Chosen b (read b) q variables choice
    unfolding choice
    choice_chosen =
        one (pick_there 0) (one (pick_there 1) (one (pick_there 2) (one (pick_there 3) Picks.none)))

    choice_picks : {v a : ℕ} → Named q v a → get_or choice v [] ≡ i.picks v
    unfolding choice
    choice_picks {v} {a} n =
        of_four (λ w. get_or choice w [] ≡ pick w) refl refl refl refl v (range.each v a n).0 ∙ pick_named n

    choice_agrees : AgreeOnNames q (chosen_cells q choice) (cells_of q i.picks)
    unfolding cells_of
    choice_agrees = record {
      each = λ v a n. ap (λ (r : Row). cell_of (attributes_named q v) r a) (choice_picks n);
    }

    answer_chosen : Memᴰ row (rows_chosen (read b) q (choices b (read b) q variables))
    answer_chosen =
        Memᴰ.cast (i.shows ∙ sym (items_agree range choice_agrees))
        (rows_chosen_has (read b) q (choices_have b (read b) q choice_chosen)
        (condition_agrees range choice_agrees (read b) ∙ i.holding))

  -- ---- columns

  answer_of_kinds : {row : Row} → InAnswer b (read b) q row → OfKinds (item_kinds (read b) q) row
  unfolding item_cells item_kinds cells_of
  answer_of_kinds i = record {
    wide = ap length i.shows ∙ length-map q.items _ ∙ sym (length-map q.items (kind_of (read b)));
    cells = λ k.
        subst (λ (r : Row). get_or r k 0 < 2 ^ 32) (sym i.shows)
        (items_lt q.items (cells_of q i.picks) (omega arith) (λ t m.
        let n = range.whole.items t m in
        connection_cell_lt b bounded (i.connected t.variable t.attribute n)
        (range.each t.variable t.attribute n).1
        (((attributes_are q).attributes t.variable t.attribute).1 n)) k);
  }

  answer_ranged : {row : Row} → InAnswer b (read b) q row → (j : ℕ) → j < length q.items
      → in_range (get_or (item_kinds (read b) q) j 0) (get_or row j 0) ≡ true
  unfolding item_cells item_kinds cells_of
  answer_ranged i j h =
      subst (λ (r : Row). in_range (get_or (map (kind_of (read b)) q.items) j 0) (get_or r j 0) ≡ true)
      (sym i.shows)
      (items_ranged (read b) q.items (cells_of q i.picks) (λ t m.
      let n = range.whole.items t m in
      connection_cell_ranged b bounded (i.connected t.variable t.attribute n)
      (range.each t.variable t.attribute n).1
      (((attributes_are q).attributes t.variable t.attribute).1 n)) j h)

  -- ---- the list in order

  given_of_kinds : AllOfKinds (item_kinds (read b) q) (rows_chosen (read b) q (choices b (read b) q variables))
  given_of_kinds = record { each = λ r m. answer_of_kinds (choice_answers m) }

  none_of_kinds : AllOfKinds (item_kinds (read b) q) []
  none_of_kinds = record { each = λ r m. absurd (Memᴰ.not-nil m) }

  pub answer_rows_fact : (row : Row) → Memᴰ row (answer_rows b (read b) q) ↔ InAnswer b (read b) q row
  unfolding answer_rows
  answer_rows_fact row =
      let m = (rows_more (item_kinds (read b) q)).members (rows_chosen (read b) q (choices b (read b) q variables)) []
      given_of_kinds none_of_kinds row in (
        λ k. ⊎_elim (λ j. choice_answers j) (λ j. absurd (Memᴰ.not-nil j)) (m.0 k),
        λ i. m.1 (inl (answer_chosen i)),
      )

  pub answer_ascending : Ascending (item_kinds (read b) q) (answer_rows b (read b) q)
  unfolding answer_rows
  answer_ascending = (rows_more (item_kinds (read b) q)).ascending _ [] given_of_kinds none

  pub answer_rows_of_kinds : AllOfKinds (item_kinds (read b) q) (answer_rows b (read b) q)
  answer_rows_of_kinds = record { each = λ r m. answer_of_kinds ((answer_rows_fact r).0 m) }

  pub answer_rows_ranged : (row : Row) → Memᴰ row (answer_rows b (read b) q) → (j : ℕ) → j < length q.items
      → in_range (get_or (item_kinds (read b) q) j 0) (get_or row j 0) ≡ true
  answer_rows_ranged row m = answer_ranged ((answer_rows_fact row).0 m)

  pub only_answer : (l : List Row) → Ascending (item_kinds (read b) q) l
      → ((row : Row) → Memᴰ row l ↔ InAnswer b (read b) q row) → l ≡ answer_rows b (read b) q
  only_answer l a h =
      (determined_by_members (item_kinds (read b) q)).same l (answer_rows b (read b) q) a answer_ascending
      (λ r. (λ m. (answer_rows_fact r).1 ((h r).0 m), λ m. (h r).1 ((answer_rows_fact r).0 m)))
