-- What is proved of reading a query, for every list of bytes, every scheme and every list of maximal objects. The
-- proofs are in `proofs/Theorems.antt`.
-- In order: the fault of a record, what records ask, maximal objects that contain a set, where reading stops, the
-- number.
-- Assumes nothing.
use Rattle.std.specs.Prelude.{◌≡◌, ◌⊎◌, ◌↔◌, ℕ, ◌≤◌, ◌<◌, length, get_or, take}
use mathlib.Core.List.{List, [], Memᴰ}
use Rattle.refusals.specs.Refusals.{number_of_any}
use Rattle.sets.specs.Sets.{◌∈◌, ATTRIBUTES}
use Rattle.records.specs.Checks.{First}
use Rattle.records.specs.Gathered.{Gathered}
use Rattle.records.specs.Reader.{read_at}
use Rattle.records.specs.declared.Record.{Record}
use Rattle.records.specs.declared.Record.TheVariants.{OfQuery}
use Rattle.records.specs.declared.QueryRecord.TheVariants.{Item, CompareTwo, CompareConstant, End}
use Rattle.records.specs.declared.Reading.TheVariants.{Found}
use Rattle.scheme.specs.declared.Scheme.{Scheme}
use Rattle.scheme.specs.Statements.{LeavesOut}
use Rattle.query.specs.declared.QueryItem.{QueryItem}
use Rattle.query.specs.declared.Comparison.{Comparison}
use Rattle.query.specs.declared.Asked.{Asked}
use Rattle.query.specs.Asking.{of_two, with_cell, comparisons_in, Asking, Named, NamesWhole, attributes_named, asks}
use Rattle.query.specs.Asking.{asked_of}
use Rattle.query.specs.Faults.{fault_of}
use Rattle.query.specs.Conditions.{conditions}
use Rattle.query.specs.Reading.{containing, QueryOutcome, refused_with, read, query_of}
use Rattle.query.specs.Accepting.{NamedIn, Contains, OfWhole, Accepted, Faulty, StopsWith}

-- ---- the fault of a record

-- a number is given exactly if its condition holds and none before it does; 0 exactly if none holds
pub record FaultMeans (s : Scheme) (q : Asked) (r : Record) : Type 0 where
  pub exactly : (n : ℕ) → (fault_of s q r ≡ n) ↔ First (conditions s q r) n

-- ---- what records ask

abbrev pub SaysItem : Record → QueryItem → Type 0
SaysItem r i = r ≡ OfQuery (Item i.variable i.attribute)

-- "comparison of two", "comparison with a constant"
pub data SaysComparison : Record → Comparison → Type 0 where
  two : {v a operator v2 a2 : ℕ} → SaysComparison (OfQuery (CompareTwo v a operator v2 a2)) (of_two v a operator v2 a2)
  constant : {v a operator cell : ℕ}
      → SaysComparison (OfQuery (CompareConstant v a operator cell)) (with_cell v a operator cell)

-- the items and the comparisons are the fields of the records, in their order, all of them and no other; the names are
-- those that a record has; "X is every attribute named with it"
pub record RecordsAsk (rs : List Record) : Type 0 where
  pub items : Gathered SaysItem rs (asks rs).items
  pub comparisons : Gathered SaysComparison rs (comparisons_in (asks rs).condition)
  pub names : (v a : ℕ) → Named (asks rs) v a ↔ NamedIn rs v a
  pub whole : NamesWhole (asks rs)
  pub attributes : (v a : ℕ) → (a ∈ attributes_named (asks rs) v) ↔ NamedIn rs v a

-- "X is every attribute named with it", for whatever a query asks
pub record AttributesAre (q : Asking) : Type 0 where
  pub attributes : (v a : ℕ) → (a ∈ attributes_named q v) ↔ Named q v a

-- what the code has of it is whole
pub record AskedWhole (q : Asking) : Type 0 where
  pub items : take (asked_of q).retrieved (asked_of q).items ≡ q.items
  pub comparisons : take (asked_of q).compared (asked_of q).comparisons ≡ comparisons_in q.condition
  pub attributes : (v : ℕ) → v < 4 → get_or (asked_of q).attributes v 0 ≡ attributes_named q v

-- ---- maximal objects that contain a set

-- the list has those of the maximal objects that contain X, in their order
pub record ContainingList (sets Ms : List ℕ) (X : ℕ) : Type 0 where
  pub IsIn : (M : ℕ) → Memᴰ M (containing sets Ms X) ↔ (Memᴰ M Ms × Contains sets X M)
  pub ordered : LeavesOut (containing sets Ms X) Ms

-- ---- where reading stops

pub record ReadExactly (s : Scheme) (Ms b : List ℕ) : Type 0 where
  -- "Then, on the query, 1": "bytes after a query's kind 10 counted"
  pub over : 65536 < length b → read s Ms b ≡ refused_with 1 (asks [])
  pub exactly : length b ≤ 65536 → (o : QueryOutcome) → (read s Ms b ≡ o) ↔ StopsWith s Ms b o

-- what accepted records ask fits: "items 1 to 8; comparisons 0 to 16 in all"
pub record AcceptedFits (s : Scheme) (b : List ℕ) : Type 0 where
  pub whole : (rs : List Record) (at : ℕ) → Accepted s b rs at → AskedWhole (asks rs)
  -- "variables 0 to 3"; "attribute, id 0..31"
  pub named : (rs : List Record) (at v a : ℕ) → Accepted s b rs at → Named (asks rs) v a → (v < 4) × (a < ATTRIBUTES)

-- ---- the number

-- behind some accepted records stands one with the fault n
pub record FaultyRecord (s : Scheme) (b : List ℕ) (n : ℕ) : Type 0 where
  pub passed : List Record
  pub at : ℕ
  pub accepted : Accepted s b passed at
  pub faulty : Faulty s b passed at n

-- the records are accepted to the end of the bytes, and none is kind 10
pub record Unended (s : Scheme) (b : List ℕ) : Type 0 where
  pub passed : List Record
  pub at : ℕ
  pub accepted : Accepted s b passed at
  pub ended : length b ≤ at

-- the records are accepted up to kind 10, and the whole query gets the number n
pub record Ended (s : Scheme) (Ms b : List ℕ) (n : ℕ) : Type 0 where
  pub passed : List Record
  pub at : ℕ
  pub next : ℕ
  pub accepted : Accepted s b passed at
  pub at_kind_ten : read_at b at ≡ Found (OfQuery End) next
  pub whole : OfWhole s Ms (asks passed) n

pub record NumberMeans (s : Scheme) (Ms b : List ℕ) : Type 0 where
  pub one_of : (n : ℕ) → (read s Ms b).number ≡ n
      → (n ≤ 5) ⊎ ((n ≡ 7) ⊎ ((n ≡ 10) ⊎ ((n ≡ 11) ⊎ (n ≡ 12))))
  pub one : ((read s Ms b).number ≡ 1) ↔ (65536 < length b)
  pub three : ((read s Ms b).number ≡ 3) ↔ ((length b ≤ 65536) × (FaultyRecord s b 3 ⊎ Unended s b))
  pub of_record : (n : ℕ) → (n ≡ 2) ⊎ ((n ≡ 4) ⊎ ((n ≡ 5) ⊎ ((n ≡ 7) ⊎ (n ≡ 11))))
      → ((read s Ms b).number ≡ n) ↔ ((length b ≤ 65536) × FaultyRecord s b n)
  pub of_whole : (n : ℕ) → (n ≡ 0) ⊎ ((n ≡ 10) ⊎ (n ≡ 12))
      → ((read s Ms b).number ≡ n) ↔ ((length b ≤ 65536) × Ended s Ms b n)

-- the refusal in the query has the number of the outcome, and none is in it where that is 0
pub record RefusalNumbered (s : Scheme) (Ms b : List ℕ) : Type 0 where
  pub numbered : number_of_any (query_of (read s Ms b)).refusal ≡ (read s Ms b).number
