-- Worked examples: what reading gives beside what the paper says, in one list under one theorem.
-- In order: schemes of books, a good query, as many records as the bounds allow, results, the trials.
-- Assumes nothing.
use mathlib.Core.Path.{◌≡◌, refl}
use mathlib.Core.Bool.{true, false}
use mathlib.Core.List.{List, [], ◌∷◌, ◌++◌, map, flat_map}
use Prim.Native.Nat.{ℕ, ◌+◌}
use lib.ListN.{take, replicate}
use Rattle.numbers.specs.Numbers.{is_nil}
use Rattle.refusals.specs.Refusals.{number_of_any, refusals, refusal_of_number}
use Rattle.sets.specs.Sets.{bit, has, within, ◌∪◌, single, is_empty, members}
use Rattle.values.specs.Values.{missing, in_range}
use Rattle.values.specs.Table.{built_in, allows}
use Rattle.reduction.specs.Kept.{union}
use Rattle.records.specs.Checks.{first_of}
use Rattle.records.specs.Fields.{bytes, value, field}
use Rattle.records.specs.Records.{kinds, whose, is_kind, of_query, body_length, kind_of, bytes_of, bytes_of_all}
use Rattle.records.specs.Records.{bytes_of_book, bytes_of_query}
use Rattle.records.specs.Reader.{bodies, record_of, read_front, read_at}
use Rattle.records.specs.Walking.{short_number, walk_from, walk}
use Rattle.records.specs.declared.QueryRecord.{QueryRecord}
use Rattle.records.specs.declared.BookRecord.TheVariants.{Attribute}
use Rattle.records.specs.declared.QueryRecord.TheVariants.{Item, CompareTwo, CompareConstant, End}
use Rattle.scheme.specs.declared.Scheme.{Scheme}
use Rattle.scheme.specs.Growing.{family_of, attributes_of}
use Rattle.query.specs.declared.QueryItem.{QueryItem}
use Rattle.query.specs.declared.Comparison.{Comparison}
use Rattle.query.specs.declared.Asked.{Asked}
use Rattle.query.specs.declared.Query.{Query}
use Rattle.query.specs.Asking.{item_of, items_of, comparison_of, comparisons_of, name_of, names_of, naming}
use Rattle.query.specs.Asking.{comparisons_in, conjunction, attributes_named, filled, asked_of}
use Rattle.query.specs.Faults.{checks, fault_of}
use Rattle.query.specs.Reading.{is_end, walk_query, containing, unconnected, some_unconnected, whole_number}
use Rattle.query.specs.Reading.{at_end, read, query_of}

-- ---- the scheme of a book: attributes 0 name, 1 length, 2 angle, 3 date, 4 length; objects 0 {0,1}, 1 {0,2}, 2 {3,4}

unfoldable pub book : Scheme
book = record {
  kinds = 0 ∷ 1 ∷ 2 ∷ 3 ∷ 1 ∷ replicate 27 0;
  attributes = 31;
  sets = 3 ∷ 5 ∷ 24 ∷ replicate 29 0;
  objects = 7;
  left = replicate 64 0;
  right = replicate 64 0;
  dependencies = 0;
  maximal = record {
    declared = replicate 8 0;
    declarations = 0;
    removed = replicate 8 0;
    removals = 0;
    only = false;
  };
  table = record { masks = built_in; given = 0 };
}

-- the same with a comparison table of its own
unfoldable pub comparing : List ℕ → Scheme
comparing masks = record {
  kinds = book.kinds;
  attributes = book.attributes;
  sets = book.sets;
  objects = book.objects;
  left = book.left;
  right = book.right;
  dependencies = book.dependencies;
  maximal = book.maximal;
  table = record { masks = masks; given = 1 };
}

-- one with equal and unequal within each kind but dates, all six within dates and between lengths and dates; one that
-- has less one way only: lengths less than dates, and so dates greater than lengths
unfoldable pub of_club : Scheme
of_club = comparing (3 ∷ 0 ∷ 0 ∷ 0 ∷ 0 ∷ 3 ∷ 0 ∷ 63 ∷ 0 ∷ 0 ∷ 3 ∷ 0 ∷ 0 ∷ 63 ∷ 0 ∷ 63 ∷ [])

unfoldable pub one_way : Scheme
one_way = comparing (3 ∷ 0 ∷ 0 ∷ 0 ∷ 0 ∷ 63 ∷ 0 ∷ 4 ∷ 0 ∷ 0 ∷ 3 ∷ 0 ∷ 0 ∷ 16 ∷ 0 ∷ 63 ∷ [])

-- its maximal objects: one of objects 0 and 1, one of object 2
unfoldable pub maximals : List ℕ
maximals = 3 ∷ 4 ∷ []

-- ---- a good query: items, both kinds of comparison, and two variables

unfoldable pub good : List QueryRecord
good = Item 0 2 ∷ CompareTwo 0 1 3 1 4 ∷ Item 1 3 ∷ CompareConstant 1 3 5 12345 ∷ Item 0 0 ∷ []

-- ---- as many records as the bounds allow: comparisons, eight of each kind, and eight items

unfoldable pub eight_of_two : List QueryRecord
eight_of_two =
    CompareTwo 0 0 0 0 0 ∷ CompareTwo 0 0 0 0 0 ∷ CompareTwo 0 0 0 0 0 ∷ CompareTwo 0 0 0 0 0
    ∷ CompareTwo 0 0 0 0 0 ∷ CompareTwo 0 0 0 0 0 ∷ CompareTwo 0 0 0 0 0 ∷ CompareTwo 0 0 0 0 0 ∷ []

unfoldable pub eight_with_constant : List QueryRecord
eight_with_constant =
    CompareConstant 0 0 0 9 ∷ CompareConstant 0 0 0 9 ∷ CompareConstant 0 0 0 9 ∷ CompareConstant 0 0 0 9
    ∷ CompareConstant 0 0 0 9 ∷ CompareConstant 0 0 0 9 ∷ CompareConstant 0 0 0 9 ∷ CompareConstant 0 0 0 9 ∷ []

unfoldable pub eight_items : List QueryRecord
eight_items = Item 0 0 ∷ Item 0 1 ∷ Item 0 2 ∷ Item 1 3 ∷ Item 1 4 ∷ Item 2 0 ∷ Item 3 0 ∷ Item 0 0 ∷ []

-- ---- results

unfoldable pub result_of : Query → List ℕ
result_of q = number_of_any q.refusal ∷ q.read ∷ []

-- the number and the bytes read
unfoldable pub result : List ℕ → List ℕ
result b = result_of (query_of (read book maximals b))

-- of records, with kind 10 behind them
abbrev pub query : List QueryRecord → List ℕ
query rs = result (bytes_of_query (rs ++ End ∷ []))

-- the same over the book with a comparison table of its own
abbrev pub club_query : List QueryRecord → List ℕ
club_query rs = result_of (query_of (read of_club maximals (bytes_of_query (rs ++ End ∷ []))))

abbrev pub one_way_query : List QueryRecord → List ℕ
one_way_query rs = result_of (query_of (read one_way maximals (bytes_of_query (rs ++ End ∷ []))))

abbrev pub unended_query : List QueryRecord → List ℕ
unended_query rs = result (bytes_of_query rs)

unfoldable pub fields_of : Comparison → List ℕ
fields_of c =
    c.variable ∷ c.attribute ∷ c.operator ∷ elim c.constant [ true ↦ 1 | false ↦ 0 ]
    ∷ c.variable2 ∷ c.attribute2 ∷ c.cell ∷ []

-- what is asked: the items and the comparisons, each with a place more, and the X of each variable
unfoldable pub asked_by : Asked → List (List ℕ)
asked_by q =
    (q.retrieved ∷ q.compared ∷ [])
    ∷ flat_map (λ (i : QueryItem). i.variable ∷ i.attribute ∷ []) (take (q.retrieved + 1) q.items)
    ∷ q.attributes
    ∷ map fields_of (take (q.compared + 1) q.comparisons)

unfoldable pub asks : List QueryRecord → List (List ℕ)
asks rs = asked_by (query_of (read book maximals (bytes_of_query rs))).asked

-- ---- the trials

pub record Trial : Type 0 where
  pub gives : List (List ℕ)
  pub says : List (List ℕ)

-- a query that is refused with a number: "0 query bytes read"
abbrev pub refuses : List ℕ → ℕ → Trial
refuses r n = record { gives = r ∷ []; says = (n ∷ 0 ∷ []) ∷ [] }

-- a query that is answered, with the bytes read
abbrev pub answers : List ℕ → ℕ → Trial
answers r n = record { gives = r ∷ []; says = (0 ∷ n ∷ []) ∷ [] }

unfoldable pub trials : List Trial
trials =
    answers (query good) 24
    ∷ record {
      gives = asks (good ++ End ∷ []);
      says =
          (3 ∷ 2 ∷ []) ∷ (0 ∷ 2 ∷ 1 ∷ 3 ∷ 0 ∷ 0 ∷ 0 ∷ 0 ∷ []) ∷ (7 ∷ 24 ∷ 0 ∷ 0 ∷ [])
          ∷ (0 ∷ 1 ∷ 3 ∷ 0 ∷ 1 ∷ 4 ∷ 0 ∷ []) ∷ (1 ∷ 3 ∷ 5 ∷ 1 ∷ 0 ∷ 0 ∷ 12345 ∷ [])
          ∷ (0 ∷ 0 ∷ 0 ∷ 0 ∷ 0 ∷ 0 ∷ 0 ∷ []) ∷ [];
    }
    -- "a query ends at its first kind 10, and bytes after that aren't read"
    ∷ answers (result
    (bytes_of_query (Item 0 0 ∷ End ∷ []) ++ bytes_of_book (Attribute 5 0 ∷ []) ++ bytes_of_query (Item 4 31 ∷ []))) 4
    ∷ answers (result (7 ∷ 3 ∷ 2 ∷ 10 ∷ 255 ∷ 7 ∷ [])) 4
    -- "Only kind 10: 10."
    ∷ refuses (query []) 10
    -- comparisons alone, also where a variable is unconnected
    ∷ refuses (query (CompareConstant 0 0 0 9 ∷ [])) 10
    ∷ refuses (query (CompareTwo 0 1 2 0 4 ∷ [])) 10
    -- "Some variable's X in no maximal object: 12."
    ∷ refuses (query (Item 0 1 ∷ Item 0 3 ∷ [])) 12
    ∷ refuses (query (Item 3 1 ∷ Item 3 3 ∷ [])) 12
    ∷ answers (query (Item 0 1 ∷ Item 1 3 ∷ [])) 7
    -- "No objects: an item on a declared attribute is 12.": there is no maximal object then
    ∷ refuses (result_of (query_of (read book [] (bytes_of_query (Item 0 0 ∷ End ∷ []))))) 12
    -- a variable named only in comparisons
    ∷ refuses (query (Item 0 0 ∷ CompareTwo 1 1 2 1 4 ∷ [])) 12
    ∷ refuses (query (Item 0 0 ∷ CompareTwo 0 1 2 0 4 ∷ [])) 12
    ∷ refuses (query (Item 0 0 ∷ CompareConstant 2 1 2 5 ∷ CompareConstant 2 3 2 5 ∷ [])) 12
    ∷ answers (query (Item 0 0 ∷ CompareTwo 1 1 2 2 4 ∷ [])) 10
    -- "Bytes ending without kind 10: 3."
    ∷ refuses (unended_query (Item 0 0 ∷ [])) 3
    ∷ refuses (unended_query (Item 0 1 ∷ Item 0 3 ∷ [])) 3
    ∷ refuses (unended_query good) 3
    ∷ refuses (result []) 3
    -- "kind not allowed 2"
    ∷ refuses (result (bytes_of_book (Attribute 5 0 ∷ []) ++ bytes_of_query (End ∷ []))) 2
    ∷ refuses (result (7 ∷ 0 ∷ 0 ∷ 1 ∷ [])) 2
    ∷ refuses (result (7 ∷ 0 ∷ 0 ∷ 6 ∷ [])) 2
    ∷ refuses (result (11 ∷ 10 ∷ [])) 2
    ∷ refuses (result (0 ∷ 10 ∷ [])) 2
    -- "body cut short 3"
    ∷ refuses (result (7 ∷ 4 ∷ [])) 3
    ∷ refuses (result (9 ∷ 0 ∷ 0 ∷ 0 ∷ 0 ∷ 0 ∷ 0 ∷ [])) 3
    -- "allows 0 and 1 within names and within angles, all six within lengths and within dates, and none between
    -- different kinds": 11
    ∷ refuses (query (Item 0 0 ∷ CompareConstant 0 0 2 9 ∷ [])) 11
    ∷ refuses (query (Item 0 0 ∷ CompareTwo 0 0 2 0 0 ∷ [])) 11
    ∷ refuses (query (Item 0 0 ∷ CompareTwo 0 1 0 0 0 ∷ [])) 11
    ∷ refuses (query (Item 0 0 ∷ CompareTwo 0 3 2 0 1 ∷ [])) 11
    ∷ answers (query (Item 0 0 ∷ CompareTwo 0 0 1 0 0 ∷ CompareConstant 0 1 5 9 ∷ [])) 18
    -- 11 is given by the table of the book
    ∷ refuses (club_query (Item 0 0 ∷ CompareConstant 0 1 5 9 ∷ [])) 11
    ∷ refuses (club_query (Item 0 0 ∷ CompareTwo 0 1 2 1 4 ∷ [])) 11
    ∷ refuses (club_query (Item 0 0 ∷ CompareTwo 0 1 0 0 0 ∷ [])) 11
    ∷ answers (club_query (Item 1 3 ∷ CompareTwo 1 3 2 1 4 ∷ [])) 10
    ∷ refuses (query (Item 1 3 ∷ CompareTwo 1 3 2 1 4 ∷ [])) 11
    -- "byte 4 times left kind plus right kind", "bit n for operator n": attribute 4 is a length, 3 a date
    ∷ answers (one_way_query (Item 1 3 ∷ CompareTwo 1 4 2 1 3 ∷ [])) 10
    ∷ answers (one_way_query (Item 1 3 ∷ CompareTwo 1 3 4 1 4 ∷ [])) 10
    ∷ refuses (one_way_query (Item 1 3 ∷ CompareTwo 1 3 2 1 4 ∷ [])) 11
    ∷ refuses (one_way_query (Item 1 3 ∷ CompareTwo 1 4 4 1 3 ∷ [])) 11
    ∷ refuses (one_way_query (Item 1 3 ∷ CompareTwo 1 4 3 1 3 ∷ [])) 11
    -- "an angle constant over 35,999 is then 5", after 11; of other kinds it is none
    ∷ refuses (query (Item 0 0 ∷ CompareConstant 0 2 0 36000 ∷ [])) 5
    ∷ refuses (query (Item 0 0 ∷ CompareConstant 0 2 2 36000 ∷ [])) 11
    ∷ answers (query (Item 0 0 ∷ CompareConstant 0 2 1 35999 ∷ CompareConstant 0 0 0 36000 ∷ [])) 20
    -- request 5: "A constant may not be missing (5, after 11)", in each kind; the length -1 is not missing
    ∷ refuses (query (Item 0 0 ∷ CompareConstant 0 0 1 4294967295 ∷ [])) 5
    ∷ refuses (query (Item 0 0 ∷ CompareConstant 0 0 2 4294967295 ∷ [])) 11
    ∷ refuses (query (Item 0 0 ∷ CompareConstant 0 1 3 2147483648 ∷ [])) 5
    ∷ refuses (query (Item 0 0 ∷ CompareConstant 0 2 0 4294967295 ∷ [])) 5
    ∷ refuses (query (Item 0 0 ∷ CompareConstant 0 2 5 4294967295 ∷ [])) 11
    ∷ refuses (query (Item 1 3 ∷ CompareConstant 1 3 2 4294967295 ∷ [])) 5
    ∷ answers (query (Item 0 0 ∷ CompareConstant 0 1 3 4294967295 ∷ CompareConstant 0 0 0 2147483648 ∷ [])) 20
    -- "attribute or object not declared 7", before 11
    ∷ refuses (query (Item 0 31 ∷ [])) 7
    ∷ refuses (query (CompareTwo 0 0 5 0 31 ∷ [])) 7
    ∷ refuses (query (CompareTwo 0 31 5 0 0 ∷ [])) 7
    ∷ refuses (query (CompareConstant 0 31 5 9 ∷ [])) 7
    -- "field outside its range .. 5", before 7: "variables 0 to 3"; attributes 0 to 31; an operator "one over 5 is 5"
    ∷ refuses (query (Item 4 31 ∷ [])) 5
    ∷ refuses (query (Item 0 32 ∷ [])) 5
    ∷ refuses (query (CompareTwo 4 31 0 0 0 ∷ [])) 5
    ∷ refuses (query (CompareTwo 0 32 0 0 31 ∷ [])) 5
    ∷ refuses (query (CompareTwo 0 31 0 4 0 ∷ [])) 5
    ∷ refuses (query (CompareTwo 0 31 0 0 32 ∷ [])) 5
    ∷ refuses (query (CompareTwo 0 31 6 0 0 ∷ [])) 5
    ∷ refuses (query (CompareConstant 0 31 6 0 ∷ [])) 5
    ∷ refuses (query (CompareConstant 4 31 0 0 ∷ [])) 5
    ∷ refuses (query (CompareConstant 0 32 0 0 ∷ [])) 5
    ∷ answers (query (Item 3 0 ∷ CompareTwo 3 1 5 3 1 ∷ CompareConstant 3 1 0 0 ∷ [])) 18
    -- "one more than its bound 4", before 5: "items 1 to 8; comparisons 0 to 16 in all"
    ∷ answers (query eight_items) 25
    ∷ refuses (query (eight_items ++ Item 4 0 ∷ [])) 4
    ∷ answers (query (eight_of_two ++ eight_with_constant ++ Item 0 0 ∷ [])) 116
    ∷ answers (query (eight_items ++ eight_with_constant ++ eight_of_two)) 137
    ∷ refuses (query (eight_of_two ++ eight_with_constant ++ CompareTwo 4 0 0 0 0 ∷ [])) 4
    ∷ refuses (query (eight_of_two ++ eight_with_constant ++ CompareConstant 4 0 0 0 ∷ [])) 4
    -- "the earliest faulty record"
    ∷ refuses (result (bytes_of_query (Item 0 31 ∷ []) ++ bytes_of_book (Attribute 5 0 ∷ []) ++ bytes_of_query (End ∷ []))) 7
    ∷ []

pub trials_hold : map (λ t. t.gives) trials ≡ map (λ t. t.says) trials
unfolding trials book comparing of_club one_way maximals good eight_of_two eight_with_constant eight_items result_of result
    refusals refusal_of_number fields_of
    asked_by asks flat_map query_of read at_end whole_number some_unconnected unconnected is_nil containing walk_query is_end
    kind_of
    fault_of checks of_query asked_of comparisons_in conjunction filled attributes_named naming names_of name_of comparisons_of comparison_of items_of
    item_of short_number walk_from walk first_of read_at read_front record_of bodies bytes_of_all bytes_of body_length is_kind whose
    kinds field value bytes attributes_of family_of union allows built_in missing in_range members is_empty single ◌∪◌ within
    has bit
trials_hold = refl
