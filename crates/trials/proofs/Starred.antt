-- The starred trials of the paper, in one list under one theorem, and runs of the unit that the requests change: what the
-- definitions give beside what the paper and the requests say.
-- In order: the books, the trials, runs of the unit, the theorems.
-- Assumes nothing.
use mathlib.Core.Path.{◌≡◌, refl}
use mathlib.Core.List.{List, [], ◌∷◌, ◌++◌, map}
use Prim.Native.Nat.{ℕ}
use Rattle.numbers.specs.Numbers.{is_nil}
use Rattle.sets.specs.Sets.{bit, has, within, ◌∩◌, ◌∪◌, ◌∖◌, single, is_empty, rank, count, members}
use Rattle.values.specs.Values.{missing, in_range}
use Rattle.records.specs.Fields.{bytes, value, field}
use Rattle.records.specs.Records.{kinds, whose, is_kind, of_book, of_query, body_length, kind_of}
use Rattle.records.specs.Records.{bytes_of, bytes_of_all, bytes_of_book, bytes_of_query}
use Rattle.records.specs.Reader.{bodies, record_of, read_front, read_at}
use Rattle.records.specs.Checks.{first_of}
use Rattle.records.specs.Walking.{short_number, walk_from, walk}
use Rattle.records.specs.declared.BookRecord.{BookRecord}
use Rattle.records.specs.declared.QueryRecord.{QueryRecord}
use Rattle.records.specs.declared.BookRecord.TheVariants.{Attribute, Object, Dependency, Row, Declared, Removed}
use Rattle.records.specs.declared.BookRecord.TheVariants.{ComparisonTable, OnlyDeclared}
use Rattle.records.specs.declared.QueryRecord.TheVariants.{Item, CompareTwo, CompareConstant, End}
use Rattle.reduction.specs.Kept.{union, around, some_holds, removable, stays, staying, settle, left, acyclic}
use Rattle.reduction.specs.Kept.{goes_for, goes, keeps, kept_of, kept}
use Rattle.relation.specs.Tables.{cell_of}
use Rattle.scheme.specs.Dependencies.{pass, passes, closure}
use Rattle.scheme.specs.Growing.{family_of, attributes_of, joins, holding, rounds, grown}
use Rattle.scheme.specs.MaximalObjects.{computed, is_one, removing, adding, counted}
use Rattle.scheme.specs.MaximalObjects.{maximal_objects, both_kinds, some_cyclic}
use Rattle.scheme.specs.OfScheme.{pairs, computed_of, maximal_of, both_of, cyclic_of}
use Rattle.book.specs.Faults.{some_non_zero, some_outside, wrong_cells, row_checks, maximal_checks, checks}
use Rattle.book.specs.Faults.{fault_of}
use Rattle.book.specs.Declaring.{nothing_declared, with_attribute, with_object, with_dependency, with_declared, with_removed}
use Rattle.book.specs.Declaring.{with_maximal, with_table, with_only, with_masks, declare}
use Rattle.book.specs.Reading.{Outcome, is_row, with_row, records, last_number, last_fault, after_last}
use Rattle.book.specs.Reading.{read}
use Rattle.book.specs.Reading.{maximals_of}
use Rattle.book.proofs.Examples.{survey, ring}
use Rattle.values.specs.Table.{built_in, allows, mirrored, entry_keeps, every_below, keeps_rules}
use Rattle.query.specs.Asking.{item_of, items_of, comparison_of, comparisons_of, name_of, names_of, naming, attributes_named}
use Rattle.query.specs.Asking.{comparisons_in, conjunction}
use Rattle.query.specs.Asking.{filled, asked_of}
use Rattle.query.specs.Faults as Queries
use Rattle.query.specs.Reading as Query
use Rattle.query.specs.Reading.{is_end, walk_query, containing, unconnected, some_unconnected, whole_number, at_end}
use Rattle.values.specs.Values.{signed, value_of, less_cell, matches}
use Rattle.values.specs.Operators.{compares, holds}
use Rattle.relation.specs.Tables.{projected, project}
use Rattle.relation.specs.Joins.{together, shown_rows}
use Rattle.relation.specs.Computed.{all_pass, rows_match, matches_all, each_passing, going_on, join_rows, part}
use Rattle.book.specs.TablesOf as Tables
use Rattle.book.specs.TablesOf.{tables_of}
use Rattle.sorted.specs.Rows.{less_row, insert_row, insert_rows}
use Rattle.connection.specs.Connection.{parts, connection}
use Rattle.connection.specs.Answers.{item_cells, right_cell, is_true, meets, cells_of, rows_for}
use Rattle.connection.specs.Picks.{in_front, picks_of}
use Rattle.connection.specs.Answers.{choices}
use Rattle.connection.specs.Answers.{item_kinds, answer_rows}
use Rattle.connection.specs.Answers as Answers
use Rattle.connection.specs.Answering.{rows_answered, space_number, asked_number, number}
use Rattle.connection.proofs.Examples.{queries}
use Rattle.printout.specs.Decimal.{decimal_within, decimal, integer_text, value_text, cell_text}
use Rattle.printout.specs.Lines.{behind, line, cell_texts, row_lines, head_line, query_refused, book_refused}
use Rattle.run.specs.Running.{full_text, answers_within, answers, printout}

-- ---- the books

-- "Document 000's banking scheme, seven objects in the order of its example 3": 0 BANK, 1 ACCT, 2 BALANCE, 3 CUST, 4
-- ADDR, 5 LOAN, 6 AMT; objects ACCT-BALANCE, ACCT-CUST, ACCT-BANK, CUST-ADDR, CUST-LOAN, LOAN-BANK, LOAN-AMT;
-- dependencies ACCT to BANK, ACCT to BALANCE, LOAN to AMT, CUST to ADDR
unfoldable pub banking : List BookRecord
banking =
    Attribute 0 0 ∷ Attribute 1 0 ∷ Attribute 2 1 ∷ Attribute 3 0 ∷ Attribute 4 0 ∷ Attribute 5 0 ∷ Attribute 6 1
    ∷ Object 0 6 ∷ Object 1 10 ∷ Object 2 3 ∷ Object 3 24 ∷ Object 4 40 ∷ Object 5 33 ∷ Object 6 96
    ∷ Dependency 2 1 ∷ Dependency 2 4 ∷ Dependency 32 64 ∷ Dependency 8 16 ∷ []

-- the number that a book is refused with or 0, and how many objects each maximal object has
unfoldable pub sizes : List BookRecord → List ℕ
sizes rs = let o : Outcome = read (bytes_of_book rs) in o.number ∷ map (count 32) (maximals_of o)

-- the number that a query over a book is refused with, or 0
unfoldable pub refusal : List BookRecord → List QueryRecord → List ℕ
refusal book query =
    let o : Outcome = read (bytes_of_book book) in
    (Query.read o.scheme (maximals_of o) (bytes_of_query query)).number ∷ []

-- ---- the trials

pub record Trial : Type 0 where
  pub gives : List ℕ
  pub says : List ℕ

-- "Whole output:" of the paper, its bytes. Request 2: query 3 "then has `rows 4`, with 13 as its last row"
unfoldable pub output : List ℕ
output =
    81 ∷ 32 ∷ 49 ∷ 32 ∷ 114 ∷ 111 ∷ 119 ∷ 115 ∷ 32 ∷ 50 ∷ 10  -- Q 1 rows 2
    ∷ 53 ∷ 48 ∷ 49 ∷ 32 ∷ 55 ∷ 10  -- 501 7
    ∷ 53 ∷ 48 ∷ 50 ∷ 32 ∷ 55 ∷ 10  -- 502 7
    ∷ 81 ∷ 32 ∷ 50 ∷ 32 ∷ 114 ∷ 111 ∷ 119 ∷ 115 ∷ 32 ∷ 49 ∷ 10  -- Q 2 rows 1
    ∷ 53 ∷ 48 ∷ 49 ∷ 32 ∷ 55 ∷ 10  -- 501 7
    ∷ 81 ∷ 32 ∷ 51 ∷ 32 ∷ 114 ∷ 111 ∷ 119 ∷ 115 ∷ 32 ∷ 52 ∷ 10  -- Q 3 rows 4
    ∷ 49 ∷ 48 ∷ 10  -- 10
    ∷ 49 ∷ 49 ∷ 10  -- 11
    ∷ 49 ∷ 50 ∷ 10  -- 12
    ∷ 49 ∷ 51 ∷ 10  -- 13
    ∷ []

unfoldable pub starred : List Trial
starred =
    record { gives = printout (bytes_of_book survey) queries; says = output }  -- "The three queries above."
    ∷ record { gives = kept 6 (3 ∷ 5 ∷ 9 ∷ []); says = 3 ∷ 5 ∷ [] }  -- "Sacred {1,2} keeps {0,1} and {0,2}."
    ∷ record { gives = kept 1 (3 ∷ 5 ∷ 9 ∷ []); says = 1 ∷ [] }  -- "Sacred {0} keeps {0}."
    ∷ record { gives = sizes (banking ++ Dependency 32 1 ∷ []); says = 0 ∷ 4 ∷ 4 ∷ [] }  -- "two maximal objects of four"
    ∷ record { gives = sizes banking; says = 0 ∷ 4 ∷ 3 ∷ 2 ∷ [] }  -- "Without loan to bank: three, of four, three and two."
    ∷ record { gives = sizes ring; says = 9 ∷ 3 ∷ [] }  -- "Objects AB, BC, CA with A to B and B to C: 9."
    ∷ record { gives = sizes (ring ++ Object 3 7 ∷ []); says = 0 ∷ 4 ∷ [] }  -- "With object ABC also: accepted."
    ∷ record { gives = sizes survey; says = 0 ∷ 3 ∷ [] }  -- the book of the three queries: one maximal object of all three
    ∷ record { gives = sizes []; says = 0 ∷ [] }  -- an empty book is good
    -- "No objects: an item on a declared attribute is 12."
    ∷ record { gives = refusal (Attribute 0 0 ∷ []) (Item 0 0 ∷ End ∷ []); says = 12 ∷ [] }
    -- "Only kind 10: 10."
    ∷ record { gives = refusal survey (End ∷ []); says = 10 ∷ [] }
    ∷ []

-- ---- runs of the unit, by request 8

-- attributes 0 and 1, objects 0 {0} and 1 {1} with a row each, no dependency: two computed maximal objects, of one object
unfoldable pub apart : List BookRecord
apart = Attribute 0 0 ∷ Attribute 1 0 ∷ Object 0 1 ∷ Object 1 2 ∷ Row 0 7 0 0 0 0 0 ∷ Row 1 9 0 0 0 0 0 ∷ []

-- what the unit prints with these records behind them, for a query of attribute 0, then one of both attributes
unfoldable pub run : List BookRecord → List ℕ
run rs = printout (bytes_of_book (apart ++ rs)) (bytes_of_query (Item 0 0 ∷ End ∷ Item 0 0 ∷ Item 0 1 ∷ End ∷ []))

-- "Q 1 rows 1" and "7"
unfoldable pub first : List ℕ
first = 81 ∷ 32 ∷ 49 ∷ 32 ∷ 114 ∷ 111 ∷ 119 ∷ 115 ∷ 32 ∷ 49 ∷ 10 ∷ 55 ∷ 10 ∷ []

-- "Q 2 rows 1" and "7 9"
unfoldable pub second : List ℕ
second = 81 ∷ 32 ∷ 50 ∷ 32 ∷ 114 ∷ 111 ∷ 119 ∷ 115 ∷ 32 ∷ 49 ∷ 10 ∷ 55 ∷ 32 ∷ 57 ∷ 10 ∷ []

-- "query refused" with the digits of a number
unfoldable pub refused : List ℕ → List ℕ
refused digits =
    113 ∷ 117 ∷ 101 ∷ 114 ∷ 121 ∷ 32 ∷ 114 ∷ 101 ∷ 102 ∷ 117 ∷ 115 ∷ 101 ∷ 100 ∷ 32 ∷ (digits ++ 10 ∷ [])

unfoldable pub twelve : List ℕ
twelve = refused (49 ∷ 50 ∷ [])

-- "book refused" with the digits of a number
unfoldable pub stopped : List ℕ → List ℕ
stopped digits =
    98 ∷ 111 ∷ 111 ∷ 107 ∷ 32 ∷ 114 ∷ 101 ∷ 102 ∷ 117 ∷ 115 ∷ 101 ∷ 100 ∷ 32 ∷ (digits ++ 10 ∷ [])

unfoldable pub runs : List Trial
runs =
    record { gives = run []; says = first ++ twelve }  -- the computed ones
    ∷ record { gives = run (Declared 3 ∷ []); says = first ++ second }  -- and a declared one
    ∷ record { gives = run (OnlyDeclared ∷ []); says = twelve }  -- kind 14 alone: no maximal object
    ∷ record { gives = run (OnlyDeclared ∷ Declared 3 ∷ []); says = first ++ second }  -- before kind 5
    ∷ record { gives = run (Declared 3 ∷ OnlyDeclared ∷ []); says = first ++ second }  -- behind it
    ∷ record { gives = run (OnlyDeclared ∷ Declared 2 ∷ OnlyDeclared ∷ []); says = twelve }  -- twice
    ∷ record { gives = run (OnlyDeclared ∷ Removed 1 ∷ []); says = stopped (50 ∷ 49 ∷ []) }  -- 21
    ∷ record { gives = run (Removed 1 ∷ OnlyDeclared ∷ []); says = stopped (50 ∷ 49 ∷ []) }  -- 21
    ∷ record { gives = run (OnlyDeclared ∷ Removed 0 ∷ []); says = stopped (53 ∷ []) }  -- its own number first: 5
    ∷ record { gives = run (OnlyDeclared ∷ Removed 4 ∷ []); says = stopped (55 ∷ []) }  -- 7
    ∷ record { gives = run (Removed 3 ∷ []); says = first ++ twelve }  -- it matches nothing
    ∷ record { gives = run (Removed 1 ∷ Removed 3 ∷ []); says = twelve }  -- one that matches, and one that does not
    ∷ []

-- ---- runs of the unit, by request 7

-- attributes 0, a name, and 1, a date; object 0 of both, with a row whose name is its date and one where it is not
unfoldable pub dated : List BookRecord
dated = Attribute 0 0 ∷ Attribute 1 3 ∷ Object 0 3 ∷ Row 0 7 7 0 0 0 0 ∷ Row 0 8 9 0 0 0 0 ∷ []

-- the built-in table, with all six operators between names and dates
unfoldable pub club : BookRecord
club = ComparisonTable 1056964611 16128 196608 1056964671

-- what the unit prints with these records behind them, for the names that equal their dates
unfoldable pub asked : List BookRecord → List ℕ
asked rs =
    printout (bytes_of_book (dated ++ rs)) (bytes_of_query (Item 0 0 ∷ CompareTwo 0 0 0 0 1 ∷ End ∷ []))

unfoldable pub dated_runs : List Trial
dated_runs =
    record { gives = asked []; says = refused (49 ∷ 49 ∷ []) }  -- the built-in table: 11
    ∷ record { gives = asked (club ∷ []); says = first }  -- the club's
    -- dates without their mirrors, 20; two tables, 4
    ∷ record { gives = asked (ComparisonTable 1056964611 16128 196608 1056964608 ∷ []); says = stopped (50 ∷ 48 ∷ []) }
    ∷ record { gives = asked (club ∷ club ∷ []); says = stopped (52 ∷ []) }
    ∷ []

-- ---- runs of the unit, by request 5

-- attributes 0, a name, 1, a length, and 2, a date; objects 0 {0, 1} and 1 {0, 2}, each with a row that nobody noted
-- and one of name 7; both in one maximal object
unfoldable pub gaps : List BookRecord
gaps =
    Attribute 0 0 ∷ Attribute 1 1 ∷ Attribute 2 3 ∷ Object 0 3 ∷ Object 1 5 ∷ Declared 3
    ∷ Row 0 7 9 0 0 0 0 ∷ Row 0 4294967295 2147483648 0 0 0 0 ∷ Row 1 4294967295 4294967295 0 0 0 0 ∷ Row 1 7 8 0 0 0 0
    ∷ []

-- lengths and dates; names and lengths; lengths unequal to 5; then one query more
unfoldable pub noting : QueryRecord → List ℕ
noting r =
    printout (bytes_of_book gaps) (bytes_of_query
    (Item 0 1 ∷ Item 0 2 ∷ End
    ∷ Item 0 0 ∷ Item 0 1 ∷ End
    ∷ Item 0 1 ∷ CompareConstant 0 1 1 5 ∷ End
    ∷ Item 0 1 ∷ r ∷ End ∷ []))

-- "matches nothing, itself included", "prints as `-` and sorts first", "each of the six operators is false"
unfoldable pub noted : List ℕ
noted =
    81 ∷ 32 ∷ 49 ∷ 32 ∷ 114 ∷ 111 ∷ 119 ∷ 115 ∷ 32 ∷ 49 ∷ 10  -- Q 1 rows 1
    ∷ 57 ∷ 32 ∷ 56 ∷ 10  -- 9 8
    ∷ 81 ∷ 32 ∷ 50 ∷ 32 ∷ 114 ∷ 111 ∷ 119 ∷ 115 ∷ 32 ∷ 50 ∷ 10  -- Q 2 rows 2
    ∷ 45 ∷ 32 ∷ 45 ∷ 10  -- - -
    ∷ 55 ∷ 32 ∷ 57 ∷ 10  -- 7 9
    ∷ 81 ∷ 32 ∷ 51 ∷ 32 ∷ 114 ∷ 111 ∷ 119 ∷ 115 ∷ 32 ∷ 49 ∷ 10  -- Q 3 rows 1
    ∷ 57 ∷ 10  -- 9
    ∷ []

-- "A constant may not be missing (5, after 11)"
unfoldable pub gap_runs : List Trial
gap_runs =
    record { gives = noting (CompareConstant 0 1 0 2147483648); says = noted ++ refused (53 ∷ []) }
    ∷ record { gives = noting (CompareConstant 0 0 1 4294967295); says = noted ++ refused (53 ∷ []) }
    ∷ record { gives = noting (CompareConstant 0 0 2 4294967295); says = noted ++ refused (49 ∷ 49 ∷ []) }
    ∷ []

-- ---- the theorems

all_hold :
    (map (λ t. t.gives) starred ≡ map (λ t. t.says) starred)
    × (map (λ t. t.gives) runs ≡ map (λ t. t.says) runs)
    × (map (λ t. t.gives) dated_runs ≡ map (λ t. t.says) dated_runs)
    × (map (λ t. t.gives) gap_runs ≡ map (λ t. t.says) gap_runs)
unfolding gap_runs noted noting gaps dated_runs asked club dated refused keeps_rules entry_keeps every_below mirrored
    with_table with_masks runs run apart first second twelve stopped output queries printout answers answers_within full_text head_line
    row_lines cell_texts line behind book_refused query_refused cell_text value_text integer_text decimal decimal_within number
    space_number asked_number rows_answered answer_rows item_kinds choices picks_of in_front rows_for cells_of meets is_true right_cell item_cells
    Answers.rows_chosen connection parts insert_rows insert_row less_row tables_of Tables.rows_of Tables.row_of Tables.cells_of part
    join_rows going_on each_passing matches_all rows_match all_pass shown_rows together project projected holds compares
    matches less_cell value_of signed refusal Query.read at_end whole_number some_unconnected unconnected is_nil containing
    walk_query is_end Queries.fault_of Queries.checks of_query asked_of comparisons_in conjunction filled attributes_named naming names_of name_of
    comparisons_of comparison_of items_of item_of allows built_in starred banking sizes survey ring read after_last last_fault
    last_number records walk walk_from short_number with_row is_row maximals_of declare with_maximal with_only with_removed with_declared
    with_dependency with_object with_attribute nothing_declared fault_of checks maximal_checks row_checks wrong_cells
    some_outside some_non_zero first_of of_book cyclic_of both_of maximal_of computed_of pairs some_cyclic counted both_kinds
    maximal_objects adding removing is_one computed grown rounds holding joins attributes_of family_of closure passes pass
    cell_of read_at read_front record_of bodies bytes_of_all bytes_of kind_of body_length whose kinds is_kind field value bytes
    kept kept_of keeps goes goes_for acyclic left settle staying stays removable some_holds around union missing in_range
    members rank is_empty single ◌∖◌ ◌∪◌ ◌∩◌ within has bit
all_hold = (refl, refl, refl, refl)

pub starred_hold : map (λ t. t.gives) starred ≡ map (λ t. t.says) starred
starred_hold = all_hold.0

pub runs_hold : map (λ t. t.gives) runs ≡ map (λ t. t.says) runs
runs_hold = all_hold.1

pub dated_runs_hold : map (λ t. t.gives) dated_runs ≡ map (λ t. t.says) dated_runs
dated_runs_hold = all_hold.2

pub gap_runs_hold : map (λ t. t.gives) gap_runs ≡ map (λ t. t.says) gap_runs
gap_runs_hold = all_hold.3
