-- What the theorems of each request say, as typed lines, by their fields: one that says something else is refused here,
-- and so is a record that has lost a field.
-- In order: the requests by number.
-- Assumes nothing.
use mathlib.Core.List.{List}
use mathlib.Core.Path.{◌≡◌, refl}
use mathlib.Core.Logic.{◌↔◌, ◌⊎◌}
use mathlib.Core.Bool.{true, Bool, false, not}
use Prim.Native.Nat.{ℕ, ◌<◌, ◌^◌, ◌≤◌, ◌+◌, ◌*◌, ◌/◌, ◌%◌}
use lib.ListN.{get_or}
use lib.IntN.{negsuc}
use lib.Signed.{◌<ℤ◌}
use lib.Dec.{ltb}
use Rattle.sets.specs.Sets.{◌∈◌, ◌⊆◌, within_each, within, OBJECTS}
use Rattle.sets.proofs.Theorems.{plain_containment}
use Rattle.values.specs.Values.{missing, value_of, in_range, less_cell, key, matches, raised}
use Rattle.values.specs.Statements.{MatchesMean, OperatorsMean, BothStated, AllowedByItsByte, RulesTested}
use Rattle.values.specs.Statements.{BuiltInKeeps, OrderedAcross, AllowedMeans}
use Rattle.values.specs.Operators.{Operator, holds, operator_number, Means, mirror, opposite}
use Rattle.values.specs.Table.{allows, keeps_rules, TableRules, built_in}
use Rattle.values.proofs.Theorems.{missing_cells, ordered_by_value, ordered_across, matches_mean, operators_mean}
use Rattle.values.proofs.Theorems.{table_allows, rules_are_tested, built_in_table_keeps, allowed_means, turned}
use Rattle.values.proofs.Theorems.{allowed_by_its_byte, in_range_means}
use Rattle.reduction.specs.Statements.{OfAttributes}
use Rattle.reduction.specs.Steps.{at, Step, Complete, NodePermits, leaves, CoverPermits}
use Rattle.reduction.specs.Kept.{union}
use Rattle.relation.specs.Tables.{Row, Table, family}
use Rattle.relation.specs.Joins.{kept_sets, InPart, StandFor, InFullJoin, InKeptJoin, AgreePairwise, NoneMissing}
use Rattle.relation.specs.Joins.{InSomeChoice, InUnionJoin}
use Rattle.relation.proofs.Theorems.{no_other_row, union_of_choices, part_holds}
use Rattle.scheme.specs.MaximalObjects.{both_kinds}
use Rattle.scheme.proofs.Theorems.{both_is_a_fault}
use Rattle.records.specs.declared.Record.TheVariants.{OfBook}
use Rattle.records.specs.declared.BookRecord.TheVariants.{Declared, DeclaredWide}
use Rattle.scheme.specs.declared.Scheme.{Scheme}
use Rattle.book.specs.Faults.{fault_of}
use Rattle.book.specs.Declaring.{declare}
use Rattle.book.specs.Reading.{Outcome as BookOutcome}
use Rattle.book.proofs.Theorems.{kind_fifteen}
use Rattle.query.specs.Asking.{of_two, with_cell}
use Rattle.connection.specs.Answering.{number}
use Rattle.connection.specs.Answers.{Cells, is_true, kind_at}
use Rattle.connection.proofs.Theorems.{comparison_means}
use Rattle.printout.specs.Lines.{FitToPrint}
use Rattle.sheets.specs.Sheets.{sheet_count, sheet_lines, sheet_text, head_line, row_line, line_of, foot_line, sheet_rows}
use Rattle.sheets.specs.Sheets.{shown_to, answer_rows, field_of, sheet_number, after_sheet}
use lib.ListN.{length, take, drop}
use mathlib.Core.List.{Memᴰ, [], ◌++◌}
use Rattle.sheets.specs.Statements.{LineOf96, AnswerShown, SheetsRead}
use Prim.Native.Nat.{◌-◌}
use Rattle.sorted.specs.Rows.{row_at}
use Rattle.printout.specs.Decimal.{decimal, cell_text}
use Rattle.sheets.proofs.Theorems.{sheet_shaped, lines_say, rows_shown, answer_shown, sheets_counted, own_rows}
use Rattle.sheets.proofs.Theorems.{fields_read, sheets_read, sheet_given}

-- ---- request 2

module _ (kinds : List ℕ) (Ts : List Table) (X : ℕ) (o : OfAttributes (family Ts)) (inside : X ⊆ union (family Ts))
  where
    pub request_2_some_choice : (cs : List ℕ) × StandFor Ts (kept_sets Ts X) cs
    request_2_some_choice = (union_of_choices kinds Ts X o inside).some_choice

    pub request_2_of_kept : (row : Row) → InPart kinds Ts X row ↔ InSomeChoice kinds Ts (kept_sets Ts X) X row
    request_2_of_kept = (union_of_choices kinds Ts X o inside).of_kept

    pub request_2_node : (ms : List Step) → Complete (NodePermits X) (family Ts) ms → (row : Row)
        → (InUnionJoin kinds Ts (leaves (family Ts) ms) X row ↔ InPart kinds Ts X row) × (InSomeChoice kinds Ts
        (leaves (family Ts) ms) X row ↔ InPart kinds Ts X row)
    request_2_node = (union_of_choices kinds Ts X o inside).node

    pub request_2_cover : (ms : List Step) → Complete (CoverPermits X) (family Ts) ms → (row : Row)
        → (InUnionJoin kinds Ts (leaves (family Ts) ms) X row ↔ InPart kinds Ts X row) × (InSomeChoice kinds Ts
        (leaves (family Ts) ms) X row ↔ InPart kinds Ts X row)
    request_2_cover = (union_of_choices kinds Ts X o inside).cover

module _ (kinds : List ℕ) (Ts : List Table) (X : ℕ) (o : OfAttributes (family Ts)) (inside : X ⊆ union (family Ts))
    (some : (a : ℕ) × (a ∈ X)) where
  pub request_2_part_every_row : (row : Row) → InFullJoin kinds Ts X row → InPart kinds Ts X row
  request_2_part_every_row = (part_holds kinds Ts X o inside some).every_row

  pub request_2_part_equal : AgreePairwise Ts → NoneMissing kinds Ts → (row : Row)
      → InFullJoin kinds Ts X row ↔ InPart kinds Ts X row
  request_2_part_equal = (part_holds kinds Ts X o inside some).equal

-- ---- request 3

module _ (serial rows : ℕ) (kinds cells : List ℕ) (number : ℕ) (small : serial < 2 ^ 32) (fit : FitToPrint rows
    kinds cells) (some : 1 ≤ number) (last : number ≤ sheet_count rows) where
  pub request_3_shape_lines : length (sheet_lines serial rows kinds cells number) ≡ 40
  request_3_shape_lines = (sheet_shaped serial rows kinds cells number small fit some last).lines

  pub request_3_shape_each : (l : List ℕ) → Memᴰ l (sheet_lines serial rows kinds cells number) → LineOf96 l
  request_3_shape_each = (sheet_shaped serial rows kinds cells number small fit some last).each

  pub request_3_shape_bytes : length (sheet_text serial rows kinds cells number) ≡ 3880
  request_3_shape_bytes = (sheet_shaped serial rows kinds cells number small fit some last).bytes

module _ (serial rows : ℕ) (kinds cells : List ℕ) (number : ℕ) where
  pub request_3_line_head : get_or (sheet_lines serial rows kinds cells number) 0 [] ≡ head_line serial rows
  request_3_line_head = (lines_say serial rows kinds cells number).head

  pub request_3_line_row : (j : ℕ) → j < 38 → 38 * (number - 1) + j < rows
      → get_or (sheet_lines serial rows kinds cells number) (1 + j) [] ≡ row_line kinds (row_at (length kinds) (38 *
      (number - 1) + j) cells)
  request_3_line_row = (lines_say serial rows kinds cells number).row

  pub request_3_line_blank : (j : ℕ) → j < 38 → rows ≤ 38 * (number - 1) + j
      → get_or (sheet_lines serial rows kinds cells number) (1 + j) [] ≡ line_of []
  request_3_line_blank = (lines_say serial rows kinds cells number).blank

  pub request_3_line_foot : get_or (sheet_lines serial rows kinds cells number) 39 [] ≡ foot_line number
  request_3_line_foot = (lines_say serial rows kinds cells number).foot

module _ (rows : List Row) where
  pub request_3_rows_few : (number : ℕ) → length (sheet_rows number rows) ≤ 38
  request_3_rows_few = (rows_shown rows).few

  pub request_3_rows_front : (n : ℕ) → shown_to n rows ≡ take (38 * n) rows
  request_3_rows_front = (rows_shown rows).front

  pub request_3_rows_all : shown_to (sheet_count (length rows)) rows ≡ rows
  request_3_rows_all = (rows_shown rows).all

  pub request_3_rows_place : (i : ℕ) → i < length rows
      → (i / 38 + 1 ≤ sheet_count (length rows)) × (get_or (sheet_rows (i / 38 + 1) rows) (i % 38) [] ≡ get_or rows i [])
  request_3_rows_place = (rows_shown rows).place

pub request_3_answer : (rows : ℕ) (kinds cells : List ℕ)
    → shown_to (sheet_count rows) (answer_rows rows kinds cells) ≡ answer_rows rows kinds cells
unfolding AnswerShown
request_3_answer = answer_shown

module _ (rows : ℕ) where
  pub request_3_count_some : 1 ≤ sheet_count rows
  request_3_count_some = (sheets_counted rows).some

  pub request_3_count_enough : rows ≤ 38 * sheet_count rows
  request_3_count_enough = (sheets_counted rows).enough

  pub request_3_count_least : (n : ℕ) → 1 ≤ n → rows ≤ 38 * n → sheet_count rows ≤ n
  request_3_count_least = (sheets_counted rows).least

module _ (serial : ℕ) (kinds : List ℕ) (number : ℕ) where
  pub request_3_own_sheet : (rows : ℕ) (cells cells' : List ℕ) → ((i : ℕ) → 38 * (number - 1) ≤ i
      → i < 38 * (number - 1) + 38 → i < rows → row_at (length kinds) i cells ≡ row_at (length kinds) i cells')
      → sheet_text serial rows kinds cells number ≡ sheet_text serial rows kinds cells' number
  request_3_own_sheet = (own_rows serial kinds number).sheet

  pub request_3_own_but_head : (serial' rows rows' : ℕ) (cells cells' : List ℕ)
      → sheet_rows number (answer_rows rows kinds cells) ≡ sheet_rows number (answer_rows rows' kinds cells')
      → drop 1 (sheet_lines serial rows kinds cells number) ≡ drop 1 (sheet_lines serial' rows' kinds cells' number)
  request_3_own_but_head = (own_rows serial kinds number).but_head

pub request_3_field_number : (m n : ℕ) → field_of (decimal m) ≡ field_of (decimal n) → m ≡ n
request_3_field_number = fields_read.number

pub request_3_field_cell : (kind : ℕ) {a b : ℕ} → a < 2 ^ 32 → b < 2 ^ 32
    → field_of (cell_text kind a) ≡ field_of (cell_text kind b) → a ≡ b
request_3_field_cell = fields_read.cell

pub request_3_read : (kinds cells cells' : List ℕ) (serial rows number serial' rows' number' : ℕ)
    → serial < 2 ^ 32 → serial' < 2 ^ 32 → FitToPrint rows kinds cells → FitToPrint rows' kinds cells'
    → 1 ≤ number → number ≤ sheet_count rows → 1 ≤ number' → number' ≤ sheet_count rows'
    → sheet_text serial rows kinds cells number ≡ sheet_text serial' rows' kinds cells' number'
    → (serial ≡ serial') × ((rows ≡ rows') × ((number ≡ number') × (sheet_rows number (answer_rows rows kinds cells) ≡
    sheet_rows number' (answer_rows rows' kinds cells'))))
unfolding SheetsRead
request_3_read = sheets_read

module _ (serial rows : ℕ) (kinds cells : List ℕ) (number : ℕ) (bytes : List ℕ) where
  pub request_3_given_eighteen : (sheet_number rows kinds cells number bytes ≡ 18) ↔ ((length bytes < 3880) ⊎ (¬
      FitToPrint rows kinds cells))
  request_3_given_eighteen = (sheet_given serial rows kinds cells number bytes).eighteen

  pub request_3_given_nineteen : (sheet_number rows kinds cells number bytes ≡ 19) ↔ ((3880 ≤ length bytes) ×
      (FitToPrint rows kinds cells × ((number ≡ 0) ⊎ (sheet_count rows < number))))
  request_3_given_nineteen = (sheet_given serial rows kinds cells number bytes).nineteen

  pub request_3_given_given : (sheet_number rows kinds cells number bytes ≡ 0) ↔ ((3880 ≤ length bytes) × (FitToPrint
      rows kinds cells × ((1 ≤ number) × (number ≤ sheet_count rows))))
  request_3_given_given = (sheet_given serial rows kinds cells number bytes).given

  pub request_3_given_written : sheet_number rows kinds cells number bytes ≡ 0
      → after_sheet serial rows kinds cells number bytes ≡ sheet_text serial rows kinds cells number ++ drop 3880 bytes
  request_3_given_written = (sheet_given serial rows kinds cells number bytes).written

  pub request_3_given_unchanged : ¬ (sheet_number rows kinds cells number bytes ≡ 0)
      → after_sheet serial rows kinds cells number bytes ≡ bytes
  request_3_given_unchanged = (sheet_given serial rows kinds cells number bytes).unchanged

-- ---- request 4

module _ (w s t : ℕ) where
  pub request_4_plain : (within_each w s t ≡ true) ↔ ((k : ℕ) → k < w → k ∈ s → k ∈ t)
  request_4_plain = (plain_containment w s t).plain

  pub request_4_agree : s < 2 ^ w → within_each w s t ≡ within s t
  request_4_agree = (plain_containment w s t).agree

-- ---- request 5

pub request_5_lengths : (cell : ℕ) → (missing 1 cell ≡ true) ↔ (cell ≡ 2147483648)
request_5_lengths = missing_cells.lengths

pub request_5_others : (kind cell : ℕ) → ¬ (kind ≡ 1) → (missing kind cell ≡ true) ↔ (cell ≡ 4294967295)
request_5_others = missing_cells.others

pub request_5_least : value_of 1 2147483648 ≡ negsuc 2147483647
request_5_least = missing_cells.least

pub request_5_minus_one : (value_of 1 4294967295 ≡ negsuc 0) × (missing 1 4294967295 ≡ false)
request_5_minus_one = missing_cells.minus_one

pub request_5_in_each_range : (kind cell : ℕ) → kind < 4 → missing kind cell ≡ true → in_range kind cell ≡ true
request_5_in_each_range = missing_cells.in_each_range

module _ (kind : ℕ) where
  pub request_5_order_agrees : (a b : ℕ)
      → (less_cell kind a b ≡ true) ↔ ((missing kind b ≡ false) × ((missing kind a ≡ true) ⊎ (value_of kind a <ℤ
      value_of kind b)))
  request_5_order_agrees = (ordered_by_value kind).agrees

  pub request_5_order_irreflexive : (a : ℕ) → less_cell kind a a ≡ false
  request_5_order_irreflexive = (ordered_by_value kind).irreflexive

  pub request_5_order_transitive : (a b c : ℕ) → less_cell kind a b ≡ true → less_cell kind b c ≡ true
      → less_cell kind a c ≡ true
  request_5_order_transitive = (ordered_by_value kind).transitive

  pub request_5_order_total : {a b : ℕ} → a < 2 ^ 32 → b < 2 ^ 32
      → (less_cell kind a b ≡ true) ⊎ ((a ≡ b) ⊎ (less_cell kind b a ≡ true))
  request_5_order_total = (ordered_by_value kind).total

  pub request_5_order_keyed : {a b : ℕ} → a < 2 ^ 32 → b < 2 ^ 32 → ltb (key kind a) (key kind b) ≡ less_cell kind a b
  request_5_order_keyed = (ordered_by_value kind).keyed

  pub request_5_order_apart : {a b : ℕ} → a < 2 ^ 32 → b < 2 ^ 32 → key kind a ≡ key kind b → a ≡ b
  request_5_order_apart = (ordered_by_value kind).apart

pub request_5_matches : (kind a b : ℕ) → (matches kind a b ≡ true) ↔ ((missing kind a ≡ false) × (a ≡ b))
unfolding MatchesMean
request_5_matches = matches_mean

pub request_5_operators : (o : Operator) (kind kind2 a b : ℕ)
    → (holds (operator_number o) kind kind2 a b ≡ true) ↔ (BothStated kind kind2 a b × Means o (value_of kind a)
    (value_of kind2 b))
unfolding OperatorsMean
request_5_operators = operators_mean

pub request_5_range_angles : (cell : ℕ) → (in_range 2 cell ≡ true) ↔ ((cell ≤ 35999) ⊎ (cell ≡ 4294967295))
request_5_range_angles = in_range_means.angles

pub request_5_range_others : (kind cell : ℕ) → kind < 4 → ¬ (kind ≡ 2) → cell < 2 ^ 32 → in_range kind cell ≡ true
request_5_range_others = in_range_means.others

module _ (kinds : List ℕ) (Ts : List Table) (X : ℕ) (o : OfAttributes (family Ts)) (inside : X ⊆ union (family Ts))
    (some : (a : ℕ) × (a ∈ X)) where
  pub request_5_rows_agreed : AgreePairwise Ts → NoneMissing kinds Ts → (cs : List ℕ)
      → StandFor Ts (kept_sets Ts X) cs → (row : Row) → InKeptJoin kinds Ts X cs row → InFullJoin kinds Ts X row
  request_5_rows_agreed = (no_other_row kinds Ts X o inside some).agreed

-- ---- request 7

pub request_7_byte : (table : List ℕ) (operator left right : ℕ) → operator < 6 → left < 4 → right < 4
    → (allows table operator left right ≡ true) ↔ (get_or table (4 * left + right) 0 / 2 ^ operator % 2 ≡ 1)
unfolding AllowedByItsByte
request_7_byte = allowed_by_its_byte

pub request_7_rules : (table : List ℕ) → (keeps_rules table ≡ true) ↔ TableRules table
unfolding RulesTested
request_7_rules = rules_are_tested

pub request_7_built_in : TableRules built_in
unfolding BuiltInKeeps
request_7_built_in = built_in_table_keeps

pub request_7_across : (kind kind2 a b : ℕ) → a < 2 ^ 32 → b < 2 ^ 32
    → (raised kind a < raised kind2 b) ↔ (value_of kind a <ℤ value_of kind2 b)
unfolding OrderedAcross
request_7_across = ordered_across

pub request_7_allowed : (table : List ℕ) (operator left right a b : ℕ) → allows table operator left right ≡ true
    → (o : Operator) × (operator_number o ≡ operator) × ((holds operator left right a b ≡ true) ↔ (BothStated left
    right a b × Means o (value_of left a) (value_of right b)))
unfolding AllowedMeans
request_7_allowed = allowed_means

pub request_7_turned_allowed : (table : List ℕ) → TableRules table → (operator left right : ℕ)
    → allows table (mirror operator) right left ≡ allows table operator left right
request_7_turned_allowed = turned.allowed

pub request_7_turned_held : (operator kind kind2 a b : ℕ)
    → holds (mirror operator) kind2 kind b a ≡ holds operator kind kind2 a b
request_7_turned_held = turned.held

pub request_7_turned_denied : (operator kind kind2 a b : ℕ) → operator < 6 → BothStated kind kind2 a b
    → holds (opposite operator) kind kind2 a b ≡ not (holds operator kind kind2 a b)
request_7_turned_denied = turned.denied

pub request_7_turned_neither : (operator kind kind2 a b : ℕ) → (missing kind a ≡ true) ⊎ (missing kind2 b ≡ true)
    → holds operator kind kind2 a b ≡ false
request_7_turned_neither = turned.neither

pub table_names : (operator : ℕ) → (allows built_in operator 0 0 ≡ true) ↔ ((operator ≡ 0) ⊎ (operator ≡ 1))
table_names = table_allows.names

pub table_angles : (operator : ℕ) → (allows built_in operator 2 2 ≡ true) ↔ ((operator ≡ 0) ⊎ (operator ≡ 1))
table_angles = table_allows.angles

pub table_lengths : (operator : ℕ)
    → (allows built_in operator 1 1 ≡ true) ↔ ((o : Operator) × (operator_number o ≡ operator))
table_lengths = table_allows.lengths

pub table_dates : (operator : ℕ)
    → (allows built_in operator 3 3 ≡ true) ↔ ((o : Operator) × (operator_number o ≡ operator))
table_dates = table_allows.dates

pub table_between : (operator left right : ℕ) → ¬ (left ≡ right) → allows built_in operator left right ≡ false
table_between = table_allows.between

pub table_no_kind : (operator kind : ℕ) → 3 < kind → allows built_in operator kind kind ≡ false
table_no_kind = table_allows.no_kind

module _ (o : BookOutcome) (at : Cells) where
  pub request_7_comparison_two : (x : Operator) (v a v2 a2 : ℕ)
      → (is_true o (of_two v a (operator_number x) v2 a2) at ≡ true) ↔ (BothStated (kind_at o a) (kind_at o a2) (at v a)
      (at v2 a2) × Means x (value_of (kind_at o a) (at v a)) (value_of (kind_at o a2) (at v2 a2)))
  request_7_comparison_two = (comparison_means o at).two

  pub request_7_comparison_constant : (x : Operator) (v a cell : ℕ)
      → (is_true o (with_cell v a (operator_number x) cell) at ≡ true) ↔ (BothStated (kind_at o a) (kind_at o a) (at v a)
      cell × Means x (value_of (kind_at o a) (at v a)) (value_of (kind_at o a) cell))
  request_7_comparison_constant = (comparison_means o at).constant

-- ---- request 8

module _ (only : Bool) (removals : ℕ) where
  pub request_8_exactly : (both_kinds only removals ≡ true) ↔ ((only ≡ true) × (1 ≤ removals))
  request_8_exactly = (both_is_a_fault only removals).exactly

-- ---- request 9

pub request_9_objects : OBJECTS ≡ 64
request_9_objects = refl

module _ (s : Scheme) (M : ℕ) where
  pub request_9_fault : fault_of s (OfBook (DeclaredWide M)) ≡ fault_of s (OfBook (Declared M))
  request_9_fault = (kind_fifteen s M).fault

  pub request_9_adds : declare s (OfBook (DeclaredWide M)) ≡ declare s (OfBook (Declared M))
  request_9_adds = (kind_fifteen s M).adds
