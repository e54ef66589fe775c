-- Reading the bytes of a query over a book: the number that it is refused with or 0, the records accepted, the bytes
-- read.
-- In order: reading record after record, maximal objects that contain a set, faults of the whole query, the query, what
-- the code gives. Not here: the fault of a whole record (`Faults`), what it asks (`Asking`).
-- Assumes nothing.
use Rattle.std.specs.Prelude.{Bool, true, false, not, ◌&&◌, ◌||◌, List, [], ◌∷◌, ◌++◌, ℕ, eqb, ltb, length}
use Rattle.numbers.specs.Numbers.{is_nil}
use Rattle.refusals.specs.Refusals.{refusal_of_number}
use Rattle.sets.specs.Sets.{within, is_empty}
use Rattle.records.specs.Records.{of_query, kind_of}
use Rattle.records.specs.Walking.{Rules, Stop, short_number, walk}
use Rattle.records.specs.declared.Record.{Record}
use Rattle.records.specs.declared.Reading.{Reading}
use Rattle.records.specs.declared.Reading.TheVariants.{Nothing, Unknown, Short, Found}
use Rattle.scheme.specs.declared.Scheme.{Scheme}
use Rattle.scheme.specs.Growing.{attributes_of}
use Rattle.query.specs.declared.Asked.{Asked}
use Rattle.query.specs.declared.Walked.{Walked}
use Rattle.query.specs.declared.Query.{Query}
use Rattle.query.specs.Asking.{Asking, asks, asked_of}
use Rattle.query.specs.Faults.{fault_of}

-- ---- reading record after record

-- "a query ends at its first kind 10, and bytes after that aren't read"
unfoldable pub is_end : Record → Bool
is_end r = eqb (kind_of r) 10

-- the state is the records accepted; "Bytes ending without kind 10: 3."
abbrev pub query_rules : Scheme → Rules (List Record)
query_rules s = record {
  allowed = of_query;
  fault = λ rs r. fault_of s (asked_of (asks rs)) r;
  taken = λ rs r at. rs ++ r ∷ [];
  is_last = is_end;
  unended = 3;
}

unfoldable pub walk_query : Scheme → List ℕ → Stop (List Record)
walk_query s b = walk (query_rules s) b []

-- the number where no whole record stands
unfoldable pub stop_number : Reading → ℕ
stop_number Nothing = 3
stop_number Unknown = 2
stop_number (Short k) = short_number of_query k
stop_number (Found r next) = 0

-- what the code has of a walk
unfoldable pub walked_of : Stop (List Record) → Walked
walked_of w = record { refusal = refusal_of_number w.number; asked = asked_of (asks w.state); at = w.at }

-- ---- maximal objects that contain a set: "In each M that contains X"

-- those of the list whose objects have all of X among their attributes, in their order
unfoldable pub containing : List ℕ → List ℕ → ℕ → List ℕ
containing sets [] X = []
containing sets (M ∷ Ms) X =
    elim (within X (attributes_of sets M)) [ true ↦ M ∷ containing sets Ms X | false ↦ containing sets Ms X ]

-- ---- faults of the whole query: "No item: 10. Some variable's X in no maximal object: 12."

-- a variable that is named has an X that is not empty; in no maximal object is it contained
unfoldable pub unconnected : List ℕ → List ℕ → ℕ → Bool
unconnected sets Ms X = not (is_empty X) && is_nil (containing sets Ms X)

-- one of some sets is unconnected
unfoldable pub some_unconnected : List ℕ → List ℕ → List ℕ → Bool
some_unconnected sets Ms [] = false
some_unconnected sets Ms (X ∷ Xs) = unconnected sets Ms X || some_unconnected sets Ms Xs

-- by the count of items and the X of each variable
unfoldable pub whole_number : Scheme → List ℕ → Asked → ℕ
whole_number s Ms q =
    elim (eqb q.retrieved 0) [
      | true ↦ 10
      | false ↦ elim (some_unconnected s.sets Ms q.attributes) [ true ↦ 12 | false ↦ 0 ]
    ]

-- ---- the query

-- what reading gives: a refused query has what the records before the fault ask, and 0 bytes read
pub record QueryOutcome : Type 0 where
  pub number : ℕ
  pub asking : Asking
  pub read : ℕ

abbrev pub refused_with : ℕ → Asking → QueryOutcome
refused_with n q = record { number = n; asking = q; read = 0 }

-- after the end of the query
unfoldable pub at_end : ℕ → Asking → ℕ → QueryOutcome
at_end n q at = elim (eqb n 0) [ true ↦ record { number = 0; asking = q; read = at } | false ↦ refused_with n q ]

-- "on the query, 1; for each record 2, 3, 4, 5, 7 ..", then what is wrong with the whole
unfoldable pub read : Scheme → List ℕ → List ℕ → QueryOutcome
read s Ms b =
    elim (ltb 65536 (length b)) [
      | true ↦ refused_with 1 (asks [])
      | false ↦ elim (eqb (walk_query s b).number 0) [
        | true ↦ at_end (whole_number s Ms (asked_of (asks (walk_query s b).state))) (asks (walk_query s b).state) (walk_query s b).at
        | false ↦ refused_with (walk_query s b).number (asks (walk_query s b).state)
      ]
    ]

-- ---- what the code gives

unfoldable pub query_of : QueryOutcome → Query
query_of o = record { refusal = refusal_of_number o.number; asked = asked_of o.asking; read = o.read }
