-- A query that is answered over a space of 8,192 cells: its answer is fit to print, and printed it is the text that the
-- definition has. In order: what is known of it, its items, its text, fit to print, room, bytes read.
-- Assumes nothing.
use mathlib.Core.Path.{◌≡◌, refl, sym, ap, ◌∙◌, subst}
use mathlib.Core.Bool.{true}
use mathlib.Core.Logic.{inl}
use mathlib.Core.List.{List, [], ◌∷◌, ◌++◌, map}
use Prim.Native.Nat.{ℕ, zero, suc, ◌+◌, ◌*◌, ◌≤◌, ◌<◌, ◌^◌}
use native.Mathlib.Nat.{not-suc-le-zero, le_of_suc-le-suc, mul-le-mul_left}
use native.Mathlib.Omega.{arith}
use lib.ListN.{length, get_or, length-map}
use Rattle.values.specs.Values.{in_range}
use Rattle.records.proofs.Reader.{whole_read_at, found_after}
use Rattle.relation.specs.Tables.{Row}
use Rattle.scheme.specs.OfScheme.{maximal_of}
use Rattle.book.specs.Reading.{Outcome, read}
use Rattle.book.proofs.Theorems.{scheme_well_formed}
use Rattle.query.specs.declared.QueryItem.{QueryItem}
use Rattle.query.specs.Reading as Query
use Rattle.query.specs.Asking as Askings
use Rattle.query.specs.Asking.{Asking}
use Rattle.query.specs.Accepting.{answered}
use Rattle.query.proofs.Theorems as Queries
use Rattle.sorted.specs.Rows.{rows_in}
use Rattle.connection.specs.Answers.{kind_of, item_kinds}
use Rattle.connection.specs.Answering.{query_read, rows_answered, number, space_after}
use Rattle.connection.specs.Outcomes.{Good, MoreSerials, item_count, cells_needed}
use Rattle.connection.proofs.Theorems.{names_in_range, answer_in_range, answer_number_means, demand1}
use Rattle.connection.proofs.Picks.{at_member}
use Rattle.answer.specs.Asked.{Asks}
use Rattle.answer.proofs.Asked.{query_asks, not_none}
use Rattle.printout.specs.Lines.{head_line, row_lines, answer_text, FitToPrint}
use Rattle.printout.proofs.Fit.{cell_at}
use Rattle.printout.proofs.Theorems.{room_enough}
use Rattle.run.specs.Running.{room, number_of, kinds_of, full_text}
use Rattle.run.specs.Statements.{AnsweredPrints}

-- ---- its items

kinds_known : (o : Outcome) → ((a : ℕ) → get_or o.scheme.kinds a 0 < 4) → (items : List QueryItem) (j : ℕ)
    → j < length items → get_or (map (kind_of o) items) j 0 < 4
kinds_known o f [] j h = absurd (not-suc-le-zero h)
kinds_known o f (i ∷ items) zero h = f i.attribute
kinds_known o f (i ∷ items) (suc j) h = kinds_known o f items j (le_of_suc-le-suc h)

-- as many rows as cells at most, where a row has a cell
rows_few : (rows items : ℕ) {n : ℕ} → 1 ≤ items → rows * items ≤ n → rows ≤ n
rows_few rows items h k = omega (arith, mul-le-mul_left rows h, k)

abbrev asked_in : List ℕ → List ℕ → Asking
asked_in b q = (query_read (read b) q).asking

module _ (b q : List ℕ) (serial : ℕ) (z : number_of b q serial ≡ 0) where
  known : Good b q × MoreSerials serial × (cells_needed b q ≤ room)
  known = (answer_number_means b q serial room).full.0 z

  asks : Asks (asked_in b q)
  asks = let (g, m, c) = known in query_asks b q g.1

  kinds_wide : length (kinds_of b q) ≡ item_count b q
  unfolding item_kinds
  kinds_wide = length-map (asked_in b q).items (kind_of (read b))

  some_items_fact : 1 ≤ item_count b q
  some_items_fact = not_none (asked_in b q).items asks.some

  cells_few : length (rows_answered b q) * item_count b q ≤ 8192
  cells_few = let (g, m, c) = known in c

  -- ---- its text

  module _ (space : List ℕ) (long : length space ≡ room) where
    answered_here : number b q serial (length space) ≡ 0
    answered_here = ap (number b q serial) long ∙ z

    rows_there : rows_in (length (kinds_of b q)) (length (rows_answered b q)) (space_after b q serial space) ≡ rows_answered b q
    rows_there =
        ap (λ (w : ℕ). rows_in w (length (rows_answered b q)) (space_after b q serial space)) kinds_wide
        ∙ (demand1 b q serial space).front answered_here

    text_same : full_text b q serial
        ≡ answer_text (serial + 1) (length (rows_answered b q)) (kinds_of b q) (space_after b q serial space)
    unfolding full_text answer_text
    text_same =
        ap (λ (l : List Row). head_line (serial + 1) (length (rows_answered b q)) ++ row_lines (kinds_of b q) l) (sym rows_there)

    -- ---- fit to print

    cell_ranged : (i j : ℕ) → i < length (rows_answered b q) → j < length (kinds_of b q)
        → in_range (get_or (kinds_of b q) j 0) (get_or (get_or (rows_answered b q) i []) j 0) ≡ true
    unfolding rows_answered
    cell_ranged i j h k =
        (answer_in_range b (asked_in b q) (names_in_range b q)).each (get_or (rows_answered b q) i [])
        (at_member (rows_answered b q) [] i h) j (omega (arith, k, kinds_wide))

    fit : FitToPrint (length (rows_answered b q)) (kinds_of b q) (space_after b q serial space)
    unfolding item_kinds
    fit = record {
      some_items = omega (arith, kinds_wide, some_items_fact);
      few_items = omega (arith, kinds_wide, asks.eight);
      known_kinds = λ j h.
          kinds_known (read b) (scheme_well_formed b).well_formed.kinds_below (asked_in b q).items j
          (omega (arith, h, kinds_wide));
      few_rows = omega (arith, rows_few (length (rows_answered b q)) (item_count b q) some_items_fact cells_few);
      enough_cells =
          subst (λ (w : ℕ). length (rows_answered b q) * w ≤ length (space_after b q serial space)) (sym kinds_wide)
          (omega (arith, cells_few, (demand1 b q serial space).as_many, long));
      in_ranges = λ i j h k.
          subst (λ (c : ℕ). in_range (get_or (kinds_of b q) j 0) c ≡ true)
          (ap (λ (l : List Row). get_or (get_or l i []) j 0) (sym rows_there)
          ∙ cell_at (length (rows_answered b q)) (kinds_of b q) (space_after b q serial space) i j h k)
          (cell_ranged i j h k);
    }

    -- ---- room

    text_fits : serial < 2 ^ 32 → length (full_text b q serial) ≤ 98327
    text_fits h =
        let (g, m, c) = known in
        subst (λ (t : List ℕ). length t ≤ 98327) (sym text_same)
        (room_enough.answer (serial + 1) (length (rows_answered b q)) (kinds_of b q) (space_after b q serial space)
        (omega (arith, h, m)) fit
        (subst (λ (w : ℕ). length (rows_answered b q) * w ≤ 8192) (sym kinds_wide) cells_few))

  -- ---- bytes read: the end of the query is one

  pub read_some : (1 ≤ (query_read (read b) q).read) × ((query_read (read b) q).read ≤ length q)
  read_some =
      let (g, m, c) = known in
      let (h, e) =
      ((Queries.number_means (read b).scheme (maximal_of (read b).scheme) q).of_whole 0 (inl refl)).0 g.1 in
      let o : Query.QueryOutcome = record { number = 0; asking = Askings.asks e.passed; read = e.next } in
      let w : query_read (read b) q ≡ o =
      ((Queries.read_exactly (read b).scheme (maximal_of (read b).scheme) q).exactly h o).1
      (answered e.accepted e.at_kind_ten e.whole) in
      subst (λ (x : Query.QueryOutcome). (1 ≤ x.read) × (x.read ≤ length q)) (sym w)
      (omega (arith, found_after q e.at e.at_kind_ten), (whole_read_at q e.at e.at_kind_ten).within)

pub answered_prints : (b q : List ℕ) (serial : ℕ) (space : List ℕ) → number_of b q serial ≡ 0 → serial < 2 ^ 32
    → length space ≡ room → AnsweredPrints b q serial space
answered_prints b q serial space z h long =
    let (some, inside) = read_some b q serial z in
    record {
      fit = fit b q serial z space long;
      text = text_same b q serial z space long;
      fits = text_fits b q serial z space long h;
      some = some;
      inside = inside;
      serials = let (g, m, c) = known b q serial z in omega (arith, h, m);
    }
