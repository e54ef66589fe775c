-- Worked examples: what the definitions give beside what the paper says, each from the bytes of a book and of a query.
-- In order: books, queries, the trials: what is returned and the space; the rows; the list of combinations. Three
-- lists, for the memory that checking them takes.
-- Assumes nothing.
use mathlib.Core.Path.{◌≡◌, refl}
use mathlib.Core.List.{List, [], ◌∷◌, ◌++◌, map}
use Prim.Native.Nat.{ℕ}
use lib.ListN.{length, drop, replicate}
use Rattle.numbers.specs.Numbers.{is_nil}
use Rattle.refusals.specs.Refusals.{number_of_any, refusals, refusal_of_number}
use Rattle.sets.specs.Sets.{bit, has, within, ◌∩◌, ◌∪◌, ◌∖◌, single, is_empty, rank, members}
use Rattle.values.specs.Values.{missing, in_range, signed, value_of, less_cell, matches}
use Rattle.values.specs.Operators.{compares, holds}
use Rattle.values.specs.Table.{built_in, allows, keeps_rules, entry_keeps, every_below, mirrored}
use Rattle.records.specs.Fields.{bytes, value, field}
use Rattle.records.specs.Records.{kinds, whose, is_kind, of_book, of_query, body_length, kind_of}
use Rattle.records.specs.Records.{bytes_of, bytes_of_all, bytes_of_book, bytes_of_query}
use Rattle.records.specs.Reader.{bodies, record_of, read_front, read_at}
use Rattle.records.specs.Checks.{first_of}
use Rattle.records.specs.Walking.{short_number, walk_from, walk}
use Rattle.records.specs.declared.BookRecord.{BookRecord}
use Rattle.records.specs.declared.QueryRecord.{QueryRecord}
use Rattle.records.specs.declared.BookRecord.TheVariants.{Attribute, Object, Dependency, Row, ComparisonTable}
use Rattle.records.specs.declared.BookRecord.TheVariants.{DeclaredWide}
use Rattle.records.specs.declared.QueryRecord.TheVariants.{Item, CompareTwo, CompareConstant, End}
use Rattle.reduction.specs.Kept.{union, around, some_holds, removable, stays, staying, settle, left, acyclic}
use Rattle.reduction.specs.Kept.{goes_for, goes, keeps, kept_of, kept}
use Rattle.relation.specs.Tables.{cell_of, projected, project}
use Rattle.relation.specs.Joins.{together, shown_rows}
use Rattle.relation.specs.Computed.{all_pass, rows_match, matches_all, each_passing, going_on, join_rows, part}
use Rattle.scheme.specs.Dependencies.{pass, passes, closure}
use Rattle.scheme.specs.Growing.{family_of, attributes_of, joins, holding, rounds, grown}
use Rattle.scheme.specs.MaximalObjects.{computed, is_one, removing, adding, counted}
use Rattle.scheme.specs.MaximalObjects.{maximal_objects, both_kinds, some_cyclic}
use Rattle.scheme.specs.OfScheme.{pairs, computed_of, maximal_of, both_of, cyclic_of}
use Rattle.book.specs.Faults.{some_non_zero, some_outside, wrong_cells, row_checks, maximal_checks, checks}
use Rattle.book.specs.Faults.{fault_of}
use Rattle.book.specs.Declaring.{nothing_declared, with_attribute, with_object, with_dependency, with_declared, with_removed}
use Rattle.book.specs.Declaring.{with_maximal, with_table, with_only, with_masks, declare}
use Rattle.book.specs.Reading.{is_row, with_row, records, last_number, last_fault, after_last, read}
use Rattle.book.specs.TablesOf as Tables
use Rattle.book.specs.TablesOf.{tables_of}
use Rattle.book.proofs.Examples.{survey, ring, far}
use Rattle.query.specs.Asking.{item_of, items_of, comparison_of, comparisons_of, name_of, names_of, naming, attributes_named}
use Rattle.query.specs.Asking.{comparisons_in, conjunction, filled, asked_of}
use Rattle.query.specs.Faults as Queries
use Rattle.query.specs.Reading as Query
use Rattle.query.specs.Reading.{is_end, walk_query, containing, unconnected, some_unconnected, whole_number, at_end}
use Rattle.sorted.specs.Rows as Sorted
use Rattle.sorted.specs.Rows.{less_row, insert_row, insert_rows, with_rows}
use Rattle.connection.specs.declared.Answer.{Answer}
use Rattle.connection.specs.Picks.{in_front, picks_of, product}
use Rattle.connection.specs.Connection.{parts, connection}
use Rattle.connection.specs.Answers.{item_cells, right_cell, is_true, meets, cells_of, rows_for}
use Rattle.connection.specs.Answers.{choices}
use Rattle.connection.specs.Answers.{item_kinds, answer_rows}
use Rattle.connection.specs.Answers as Answers
use Rattle.connection.specs.Order.{distinct_rows, Way, ways_by, ways_among, with_attributes, sets_named}
use Rattle.connection.specs.Order.{combinations_of, rows_product, objects_sum, combination_count}
use Rattle.connection.specs.Answering.{query_read, rows_answered, space_number, asked_number, number, refused}
use Rattle.connection.specs.Answering.{answer_of}
use Rattle.connection.specs.Answering.{space_after}

-- ---- books

-- the unit's book is `survey` of `book`. With it a table of a name, joined with no other, with no row
unfoldable pub with_empty : List BookRecord
with_empty = survey ++ Attribute 4 0 ∷ Object 3 16 ∷ []

-- one table of lengths: 5, -900 and -2500 millimetres
unfoldable pub lengths : List BookRecord
lengths =
    Attribute 0 1 ∷ Object 0 1
    ∷ Row 0 5 0 0 0 0 0 ∷ Row 0 4294966396 0 0 0 0 0 ∷ Row 0 4294964796 0 0 0 0 0 ∷ []

-- two maximal objects that share attribute 1: no dependency joins them
unfoldable pub two_objects : List BookRecord
two_objects =
    Attribute 0 0 ∷ Attribute 1 0 ∷ Attribute 2 0 ∷ Object 0 3 ∷ Object 1 6
    ∷ Row 0 1 20 0 0 0 0 ∷ Row 0 2 30 0 0 0 0 ∷ Row 1 10 5 0 0 0 0 ∷ Row 1 20 6 0 0 0 0 ∷ []

-- objects 31 {0, 1}, 32 {1, 2} and 63 {2, 3}, declared as one maximal object, with rows that join under 1 and 2
unfoldable pub far_rows : List BookRecord
far_rows =
    far
    ++ DeclaredWide 9223372043297226752
    ∷ Row 31 1 10 0 0 0 0 ∷ Row 31 2 20 0 0 0 0 ∷ Row 32 10 100 0 0 0 0 ∷ Row 32 20 200 0 0 0 0
    ∷ Row 63 100 7 0 0 0 0 ∷ Row 63 200 8 0 0 0 0 ∷ Row 63 300 9 0 0 0 0 ∷ []

-- two maximal objects that share object 1: objects 0 {0, 1}, 1 {1, 2} and 2 {1, 3}, attribute 1 determines 2; objects 0
-- and 1 are one, the set 3, objects 1 and 2 the other, the set 6
unfoldable pub overlapping : List BookRecord
overlapping =
    Attribute 0 0 ∷ Attribute 1 0 ∷ Attribute 2 0 ∷ Attribute 3 0
    ∷ Object 0 3 ∷ Object 1 6 ∷ Object 2 10 ∷ Dependency 2 4
    ∷ Row 0 8 10 0 0 0 0 ∷ Row 0 7 20 0 0 0 0 ∷ Row 1 20 6 0 0 0 0 ∷ Row 1 10 5 0 0 0 0 ∷ []

-- a length beside a date, over a table that allows all six operators between the two: -5 and 3, 7 and 3
unfoldable pub beside : List BookRecord
beside =
    Attribute 0 1 ∷ Attribute 1 3 ∷ Object 0 3 ∷ ComparisonTable 3 1056980736 196608 1056980736
    ∷ Row 0 4294967291 3 0 0 0 0 ∷ Row 0 7 3 0 0 0 0 ∷ []

-- ---- queries

-- "Queries, variable 0: LEAD, TRIP; the same where DEPTH is at most -1000; STATION.": their bytes, one query behind the
-- other
unfoldable pub queries : List ℕ
queries =
    7 ∷ 0 ∷ 1 ∷ 7 ∷ 0 ∷ 2 ∷ 10
    ∷ 7 ∷ 0 ∷ 1 ∷ 7 ∷ 0 ∷ 2 ∷ 9 ∷ 0 ∷ 3 ∷ 3 ∷ 24 ∷ 252 ∷ 255 ∷ 255 ∷ 10
    ∷ 7 ∷ 0 ∷ 0 ∷ 10
    ∷ []

-- what is returned (number, rows, serial, bytes read), and the space afterwards
unfoldable pub outcome : List BookRecord → List ℕ → ℕ → List ℕ → List (List ℕ)
outcome book q serial space =
    let b : List ℕ = bytes_of_book book in
    let a : Answer = answer_of b q serial (length space) in
    (number_of_any a.refusal ∷ a.rows ∷ a.serial ∷ a.read ∷ []) ∷ space_after b q serial space ∷ []

-- the rows of a query's records with kind 10 behind them
unfoldable pub rows : List BookRecord → List QueryRecord → List (List ℕ)
rows book query = rows_answered (bytes_of_book book) (bytes_of_query (query ++ End ∷ []))

-- the combinations of a query's records with kind 10 behind them, in their order; of each variable the maximal object,
-- then the cells of the rows
unfoldable pub cells_of_ways : List Way → List ℕ
cells_of_ways [] = []
cells_of_ways (w ∷ ws) = w.object ∷ Sorted.cells_of w.rows ++ cells_of_ways ws

unfoldable pub sets_of : List BookRecord → List QueryRecord → List ℕ
sets_of book query =
    sets_named (query_read (read (bytes_of_book book)) (bytes_of_query (query ++ End ∷ []))).asking

unfoldable pub combinations : List BookRecord → List QueryRecord → List (List ℕ)
combinations book query =
    map cells_of_ways (combinations_of (bytes_of_book book) (read (bytes_of_book book)) (sets_of book query))

-- how many
unfoldable pub count : List BookRecord → List QueryRecord → List (List ℕ)
count book query =
    (combination_count (bytes_of_book book) (read (bytes_of_book book)) (sets_of book query) ∷ []) ∷ []

-- ---- the trials

pub record Trial : Type 0 where
  pub gives : List (List ℕ)
  pub says : List (List ℕ)

unfoldable pub outcomes : List Trial
outcomes =
    -- the printout: "Q 1 rows 2", "Q 2 rows 1"; request 2: "Query 3 of 01's printout then has `rows 4`"; each query
    -- begins where the one before it was read to.
    -- "cells past the answer keep what they held"
    record {
      gives = outcome survey queries 0 (replicate 7 99);
      says = (0 ∷ 2 ∷ 1 ∷ 7 ∷ []) ∷ (501 ∷ 7 ∷ 502 ∷ 7 ∷ 99 ∷ 99 ∷ 99 ∷ []) ∷ [];
    }
    ∷ record {
      gives = outcome survey (drop 7 queries) 1 (replicate 7 99);
      says = (0 ∷ 1 ∷ 2 ∷ 15 ∷ []) ∷ (501 ∷ 7 ∷ 99 ∷ 99 ∷ 99 ∷ 99 ∷ 99 ∷ []) ∷ [];
    }
    ∷ record {
      gives = outcome survey (drop 22 queries) 2 (replicate 7 99);
      says = (0 ∷ 4 ∷ 3 ∷ 4 ∷ []) ∷ (10 ∷ 11 ∷ 12 ∷ 13 ∷ 99 ∷ 99 ∷ 99 ∷ []) ∷ [];
    }
    -- "Space for exactly the rows: full; one cell less: 13.", which "sets all of it to zero"
    ∷ record {
      gives = outcome survey queries 5 (replicate 4 99);
      says = (0 ∷ 2 ∷ 6 ∷ 7 ∷ []) ∷ (501 ∷ 7 ∷ 502 ∷ 7 ∷ []) ∷ [];
    }
    ∷ record {
      gives = outcome survey queries 5 (replicate 3 99);
      says = (13 ∷ 0 ∷ 5 ∷ 0 ∷ []) ∷ (0 ∷ 0 ∷ 0 ∷ []) ∷ [];
    }
    -- "Serial 4,294,967,294 answers, the next is 14.", also where the space is too small; "The space is unchanged"
    ∷ record {
      gives = outcome survey queries 4294967294 (replicate 4 99);
      says = (0 ∷ 2 ∷ 4294967295 ∷ 7 ∷ []) ∷ (501 ∷ 7 ∷ 502 ∷ 7 ∷ []) ∷ [];
    }
    ∷ record {
      gives = outcome survey queries 4294967295 (replicate 4 99);
      says = (14 ∷ 0 ∷ 4294967295 ∷ 0 ∷ []) ∷ (99 ∷ 99 ∷ 99 ∷ 99 ∷ []) ∷ [];
    }
    ∷ record {
      gives = outcome survey queries 4294967295 (replicate 3 99);
      says = (14 ∷ 0 ∷ 4294967295 ∷ 0 ∷ []) ∷ (99 ∷ 99 ∷ 99 ∷ []) ∷ [];
    }
    -- "The book's refusals come first. Then, on the query", then the serial
    ∷ record {
      gives = outcome ring [] 4294967295 (99 ∷ []);
      says = (9 ∷ 0 ∷ 4294967295 ∷ 0 ∷ []) ∷ (99 ∷ []) ∷ [];
    }
    ∷ record {
      gives = outcome survey (10 ∷ []) 4294967295 (99 ∷ []);
      says = (10 ∷ 0 ∷ 4294967295 ∷ 0 ∷ []) ∷ (99 ∷ []) ∷ [];
    }
    ∷ []

pub outcomes_hold : map (λ t. t.gives) outcomes ≡ map (λ t. t.says) outcomes
unfolding outcomes outcome queries two_objects lengths with_empty survey ring space_after answer_of refused refusal_of_number refusals number
    space_number asked_number rows_answered answer_rows item_kinds choices picks_of in_front rows_for cells_of meets is_true right_cell
    item_cells Answers.rows_chosen connection parts with_rows Sorted.cells_of insert_rows insert_row less_row Query.read at_end
    whole_number some_unconnected unconnected is_nil containing walk_query is_end Queries.fault_of Queries.checks of_query
    asked_of comparisons_in conjunction filled attributes_named naming names_of name_of comparisons_of comparison_of items_of item_of tables_of
    Tables.rows_of Tables.row_of Tables.cells_of read after_last last_fault last_number records with_row is_row declare
    with_maximal with_only with_removed with_declared with_dependency with_object with_attribute nothing_declared fault_of checks
    maximal_checks row_checks wrong_cells some_outside some_non_zero of_book cyclic_of both_of maximal_of computed_of pairs
    some_cyclic counted both_kinds maximal_objects adding removing is_one computed grown rounds holding joins attributes_of
    family_of closure passes pass part join_rows going_on each_passing matches_all rows_match all_pass shown_rows
    together project projected cell_of kept kept_of keeps goes goes_for acyclic left settle staying stays
    removable some_holds around union walk walk_from short_number first_of read_at read_front record_of bodies bytes_of_all
    bytes_of kind_of body_length is_kind whose kinds field value bytes allows built_in holds compares matches less_cell
    value_of signed missing in_range members rank is_empty single ◌∖◌ ◌∪◌ ◌∩◌ within has bit
outcomes_hold = refl

unfoldable pub row_trials : List Trial
row_trials =
    -- a variable that only a comparison names is one of those that a row comes from: with no connection row of it, none
    record { gives = rows with_empty (Item 0 0 ∷ CompareTwo 1 4 0 1 4 ∷ []); says = [] }
    ∷ record {
      gives = rows (with_empty ++ Row 3 6 0 0 0 0 0 ∷ []) (Item 0 0 ∷ CompareTwo 1 4 0 1 4 ∷ []);
      says = (10 ∷ []) ∷ (11 ∷ []) ∷ (12 ∷ []) ∷ (13 ∷ []) ∷ [];
    }
    -- two variables, each with its own connection: leads of the same trip; two leads of the same trip
    ∷ record {
      gives = rows survey (Item 0 1 ∷ Item 1 1 ∷ CompareTwo 0 2 0 1 2 ∷ []);
      says = (501 ∷ 501 ∷ []) ∷ (501 ∷ 502 ∷ []) ∷ (502 ∷ 501 ∷ []) ∷ (502 ∷ 502 ∷ []) ∷ [];
    }
    ∷ record {
      gives = rows survey (Item 0 1 ∷ Item 1 1 ∷ CompareTwo 0 2 0 1 2 ∷ CompareTwo 0 1 1 1 1 ∷ []);
      says = (501 ∷ 502 ∷ []) ∷ (502 ∷ 501 ∷ []) ∷ [];
    }
    -- "ascending by the first item, then the next, by value": -2500 before -900 before 5
    ∷ record {
      gives = rows lengths (Item 0 0 ∷ []);
      says = (4294964796 ∷ []) ∷ (4294966396 ∷ []) ∷ (5 ∷ []) ∷ [];
    }
    -- comparisons: stations where DEPTH is at most -1000, of -2500 and -900; lengths less than the date beside them,
    -- and dates less than the length beside them
    ∷ record { gives = rows survey (Item 0 0 ∷ CompareConstant 0 3 3 4294966296 ∷ []); says = (10 ∷ []) ∷ [] }
    ∷ record { gives = rows beside (Item 0 0 ∷ CompareTwo 0 0 2 0 1 ∷ []); says = (4294967291 ∷ []) ∷ [] }
    ∷ record { gives = rows beside (Item 0 0 ∷ CompareTwo 0 1 2 0 0 ∷ []); says = (7 ∷ []) ∷ [] }
    -- "Rows are distinct": one trip of three stations
    ∷ record { gives = rows survey (Item 0 2 ∷ []); says = (7 ∷ []) ∷ [] }
    -- "the union of the parts over all such M": 20 is in both parts
    ∷ record {
      gives = rows two_objects (Item 0 1 ∷ []);
      says = (10 ∷ []) ∷ (20 ∷ []) ∷ (30 ∷ []) ∷ [];
    }
    -- request 9: objects 31, 32 and 63, which kind 15 declares together
    ∷ record {
      gives = rows far_rows (Item 0 0 ∷ Item 0 3 ∷ []);
      says = (1 ∷ 7 ∷ []) ∷ (2 ∷ 8 ∷ []) ∷ [];
    }
    ∷ []

pub rows_hold : map (λ t. t.gives) row_trials ≡ map (λ t. t.says) row_trials
unfolding row_trials rows beside with_table with_masks keeps_rules entry_keeps every_below mirrored two_objects far_rows far
    lengths with_empty survey ring space_after answer_of refused refusal_of_number refusals number space_number asked_number rows_answered answer_rows item_kinds
    choices picks_of in_front rows_for cells_of meets is_true right_cell item_cells Answers.rows_chosen connection parts
    with_rows Sorted.cells_of insert_rows insert_row less_row Query.read at_end whole_number some_unconnected unconnected
    is_nil containing walk_query is_end Queries.fault_of Queries.checks of_query asked_of comparisons_in conjunction filled attributes_named naming
    names_of name_of comparisons_of comparison_of items_of item_of tables_of Tables.rows_of Tables.row_of Tables.cells_of read
    after_last last_fault last_number records with_row is_row declare with_maximal with_only with_removed with_declared
    with_dependency with_object with_attribute nothing_declared fault_of checks maximal_checks row_checks wrong_cells
    some_outside some_non_zero of_book cyclic_of both_of maximal_of computed_of pairs some_cyclic counted both_kinds
    maximal_objects adding removing is_one computed grown rounds holding joins attributes_of family_of closure passes pass
    part join_rows going_on each_passing matches_all rows_match all_pass shown_rows together project projected cell_of kept
    kept_of keeps goes goes_for acyclic left settle staying stays removable some_holds around union walk walk_from
    short_number first_of read_at read_front record_of bodies bytes_of_all bytes_of kind_of body_length is_kind whose kinds field
    value bytes allows built_in holds compares matches less_cell value_of signed missing in_range members rank is_empty
    single ◌∖◌ ◌∪◌ ◌∩◌ within has bit
rows_hold = refl

unfoldable pub order_trials : List Trial
order_trials =
    -- variable 0 with attributes 0 and 2, kept sets {0, 1} and {1, 2} of the first maximal object; variable 1 with
    -- attribute 1, of both maximal objects the rows 10 and 20. The row of variable 1 changes fastest, then its maximal
    -- object, then the row of variable 0's second kept set, then that of its first
    record {
      gives = combinations overlapping (Item 0 0 ∷ Item 0 2 ∷ Item 1 1 ∷ []);
      says =
          (3 ∷ 7 ∷ 20 ∷ 10 ∷ 5 ∷ 3 ∷ 10 ∷ [])
          ∷ (3 ∷ 7 ∷ 20 ∷ 10 ∷ 5 ∷ 3 ∷ 20 ∷ [])
          ∷ (3 ∷ 7 ∷ 20 ∷ 10 ∷ 5 ∷ 6 ∷ 10 ∷ [])
          ∷ (3 ∷ 7 ∷ 20 ∷ 10 ∷ 5 ∷ 6 ∷ 20 ∷ [])
          ∷ (3 ∷ 7 ∷ 20 ∷ 20 ∷ 6 ∷ 3 ∷ 10 ∷ [])
          ∷ (3 ∷ 7 ∷ 20 ∷ 20 ∷ 6 ∷ 3 ∷ 20 ∷ [])
          ∷ (3 ∷ 7 ∷ 20 ∷ 20 ∷ 6 ∷ 6 ∷ 10 ∷ [])
          ∷ (3 ∷ 7 ∷ 20 ∷ 20 ∷ 6 ∷ 6 ∷ 20 ∷ [])
          ∷ (3 ∷ 8 ∷ 10 ∷ 10 ∷ 5 ∷ 3 ∷ 10 ∷ [])
          ∷ (3 ∷ 8 ∷ 10 ∷ 10 ∷ 5 ∷ 3 ∷ 20 ∷ [])
          ∷ (3 ∷ 8 ∷ 10 ∷ 10 ∷ 5 ∷ 6 ∷ 10 ∷ [])
          ∷ (3 ∷ 8 ∷ 10 ∷ 10 ∷ 5 ∷ 6 ∷ 20 ∷ [])
          ∷ (3 ∷ 8 ∷ 10 ∷ 20 ∷ 6 ∷ 3 ∷ 10 ∷ [])
          ∷ (3 ∷ 8 ∷ 10 ∷ 20 ∷ 6 ∷ 3 ∷ 20 ∷ [])
          ∷ (3 ∷ 8 ∷ 10 ∷ 20 ∷ 6 ∷ 6 ∷ 10 ∷ [])
          ∷ (3 ∷ 8 ∷ 10 ∷ 20 ∷ 6 ∷ 6 ∷ 20 ∷ [])
          ∷ [];
    }
    -- (2 times 2) times (2 plus 2)
    ∷ record { gives = count overlapping (Item 0 0 ∷ Item 0 2 ∷ Item 1 1 ∷ []); says = (16 ∷ []) ∷ [] }
    -- rows ascend by value: -2500 before -900 before 5
    ∷ record {
      gives = combinations lengths (Item 0 0 ∷ []);
      says = (1 ∷ 4294964796 ∷ []) ∷ (1 ∷ 4294966396 ∷ []) ∷ (1 ∷ 5 ∷ []) ∷ [];
    }
    -- none: the table of variable 1 has no row
    ∷ record { gives = combinations with_empty (Item 0 0 ∷ CompareTwo 1 4 0 1 4 ∷ []); says = [] }
    ∷ record { gives = count with_empty (Item 0 0 ∷ CompareTwo 1 4 0 1 4 ∷ []); says = (0 ∷ []) ∷ [] }
    ∷ []

pub order_holds : map (λ t. t.gives) order_trials ≡ map (λ t. t.says) order_trials
unfolding order_trials combinations count sets_of cells_of_ways combinations_of combination_count objects_sum rows_product
    product ways_among ways_by distinct_rows with_attributes overlapping lengths with_empty survey picks_of in_front
    Sorted.cells_of insert_rows insert_row less_row Query.read at_end whole_number some_unconnected unconnected is_nil
    containing walk_query is_end Queries.fault_of Queries.checks of_query asked_of comparisons_in conjunction filled attributes_named naming names_of
    name_of comparisons_of comparison_of items_of item_of tables_of Tables.rows_of Tables.row_of Tables.cells_of read after_last
    last_fault last_number records with_row is_row declare with_maximal with_only with_removed with_declared with_dependency
    with_object with_attribute nothing_declared fault_of checks maximal_checks row_checks wrong_cells some_outside some_non_zero
    of_book cyclic_of both_of maximal_of computed_of pairs some_cyclic counted both_kinds maximal_objects adding removing
    is_one computed grown rounds holding joins attributes_of family_of closure passes pass shown_rows project projected
    cell_of kept kept_of keeps goes goes_for acyclic left settle staying stays removable some_holds around union walk
    walk_from short_number first_of read_at read_front record_of bodies bytes_of_all bytes_of kind_of body_length is_kind whose
    kinds field value bytes allows built_in less_cell value_of signed missing in_range members rank is_empty single ◌∖◌ ◌∪◌
    ◌∩◌ within has bit
order_holds = refl
