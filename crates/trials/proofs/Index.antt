-- What the main theorems say, as typed lines: one that says something else is refused here, and so is a record that has
-- lost a field. `Names` has the names of all others that docs/STATEMENTS.md gives.
-- In order: the three demands, each as one statement of the whole program; each by its fields; what books and queries
-- say; what the unit prints. The requests are in `Requests`.
-- Assumes nothing.
use mathlib.Core.List.{List, Memᴰ, [], ◌++◌, map}
use mathlib.Core.Path.{◌≡◌}
use mathlib.Core.Logic.{◌↔◌, ◌⊎◌}
use mathlib.Core.Bool.{true, Bool, false}
use Prim.Native.Nat.{ℕ, ◌<◌, ◌^◌, ◌≤◌, ◌+◌}
use lib.ListN.{length, drop, get_or}
use Rattle.sets.specs.Sets.{◌∈◌, ◌⊆◌, single, members, OBJECTS}
use Rattle.values.specs.Operators.{holds}
use Rattle.records.specs.declared.Record.{Record}
use Rattle.records.specs.Checks.{First}
use Rattle.reduction.specs.Statements.{LiesIn, OfAttributes, KeptByEveryList}
use Rattle.reduction.specs.Steps.{NoneTwice, at, Family, Step, Complete, NodePermits, SameSets, leaves, CoverPermits}
use Rattle.reduction.specs.Kept.{kept, union}
use Rattle.reduction.proofs.Theorems.{kept_by_every_list}
use Rattle.relation.specs.Tables.{Row, project, Table, family}
use Rattle.relation.specs.Demand3.{Demand3}
use Rattle.relation.specs.Joins.{kept_sets, shown_rows, InPart, StandFor, InFullJoin, InKeptJoin, AgreePairwise}
use Rattle.relation.specs.Joins.{NoneMissing}
use Rattle.relation.specs.Statements.{UnionOfChoices, PartHolds}
use Rattle.relation.proofs.Theorems.{demand3}
use Rattle.scheme.specs.Statements.{JoinsByTheRule, GrownInEveryOrder, ComputedList, MaximalObjectList, Bounded}
use Rattle.scheme.specs.Statements.{Shared, LowestStart, LeavesOut, ByFirstPlace, SomeObjects}
use Rattle.scheme.specs.OfScheme.{dependencies_of, declared_of, removed_of, maximal_of}
use Rattle.scheme.specs.Dependencies.{Dependency, LeastClosed}
use Rattle.scheme.specs.Growing.{joins, Holding, grown, attributes_of}
use Rattle.scheme.specs.MaximalObjects.{computed, maximal_objects}
use Rattle.scheme.specs.declared.Scheme.{Scheme}
use Rattle.scheme.proofs.Theorems.{object_joins_by_the_rule, grown_is_the_same_in_every_order, computed_is_the_list}
use Rattle.scheme.proofs.Theorems.{maximal_objects_are_the_list}
use Rattle.book.specs.Statements.{NineMeans, StopsWith, RecordNumber, FaultyRecord, AcceptedWhole, OnlyACycle}
use Rattle.book.specs.Statements.{ReadExactly, NumberMeans, AcceptedSay, RowInBytes, MaximalObjectsRead, TablesOfBook}
use Rattle.book.specs.Statements.{MaximalObjectsOfBook}
use Rattle.book.specs.Reading.{read, Outcome as BookOutcome}
use Rattle.book.specs.Faults.{fault_of}
use Rattle.book.specs.Conditions.{conditions}
use Rattle.book.specs.Declaring.{nothing_declared}
use Rattle.book.specs.TablesOf.{tables_of}
use Rattle.book.specs.Accepting.{Accepted}
use Rattle.book.proofs.Theorems.{fault_means, read_exactly, number_means, accepted_say, row_in_bytes}
use Rattle.book.proofs.Theorems.{maximal_objects_read, tables_of_book, maximal_objects_of_book, nine_means}
use Rattle.query.specs.declared.Asked.{Asked}
use Rattle.query.specs.Asking.{Asking, Named, asks}
use Rattle.query.specs.Accepting.{StopsWith as QueryStopsWith}
use Rattle.query.specs.Faults.{fault_of as queryFault}
use Rattle.query.specs.Conditions.{conditions as queryConditions}
use Rattle.query.specs.Reading.{read as readQuery, refused_with, QueryOutcome}
use Rattle.query.specs.Statements.{FaultyRecord as QueryFaultyRecord, Unended, Ended}
use Rattle.query.proofs.Theorems.{records_ask, attributes_are, containing_is_the_list}
use Rattle.sorted.specs.Rows.{rows_in, Ascending, AllOfKinds}
use Rattle.scheme.specs.KeptSets.{kept_for, Shows}
use Rattle.connection.specs.Outcomes.{AnswerOutcome, item_count, cells_needed, Good, MoreSerials, AnswerNumberMeans}
use Rattle.connection.specs.Outcomes.{Demand1}
use Rattle.connection.specs.Outcomes.{PromiseE}
use Rattle.connection.specs.Answering.{answer_of, space_after, number, rows_answered, query_read, last_serial}
use Rattle.connection.specs.declared.Answer.{Answer}
use Rattle.connection.specs.Statements.{NamesInRange, AnswerListed, CombinationsGive, ConditionMeans}
use Rattle.connection.specs.Answers.{answer_rows, InAnswer, item_kinds, Combination, Passes, item_cells, combined, Cells}
use Rattle.connection.specs.Order.{Way, sets_named, combinations_of, ways_picked, GivesRow, combination_count}
use Rattle.connection.specs.Order.{CombinationBefore}
use Rattle.connection.specs.Fitting.{table_of, FitsObject}
use Rattle.connection.proofs.Theorems.{names_in_range, answer_listed, condition_means, combinations_give}
use Rattle.connection.proofs.Theorems.{answer_number_means, demand1}
use Rattle.connection.proofs.Theorems.{combinations_counted, combinations_listed, combinations_ordered, promise_e}
use Rattle.printout.specs.Lines.{book_refused, query_refused}
use Rattle.run.specs.Running.{opening_of, printout, opening_text, text_of, full_text, step_of}
use Rattle.run.specs.Statements.{Steps}
use Rattle.run.proofs.Theorems.{run_prints}
use Rattle.query.specs.Statements as QueryStatements
use Rattle.query.proofs.Theorems as Queries

-- ---- the three demands, for the bytes b of any book and q of any query

-- 1. "comes to an end with either a full answer or one refusal of the fixed list, chosen by the fixed order, and every
-- cell of the answer space is accounted for in both"
pub demand_1 : (b q : List ℕ) (serial : ℕ) (space : List ℕ) → Demand1 b q serial space
demand_1 = demand1

-- 2. "The maximal objects, the sets kept by Graham reduction with sacred columns, and the answer rows are exactly those
-- of the definitions"; "A refusal is given exactly where its stated condition holds and that of none before it in the
-- fixed order does; everywhere else the answer is full."
pub record Demand2 (b q : List ℕ) (serial room : ℕ) : Type 0 where
  pub maximal_objects : MaximalObjectsRead b
  pub kept_sets : (X : ℕ) (F : Family) → OfAttributes F → KeptByEveryList X F
  pub answer_rows : AnswerListed b (query_read (read b) q).asking
  pub combinations : CombinationsGive b (query_read (read b) q).asking
  pub refusals_of_books : ReadExactly b × NumberMeans b
  pub cycles : NineMeans b
  pub refusals_of_queries : QueryStatements.ReadExactly (read b).scheme (maximal_of (read b).scheme) q
      × QueryStatements.NumberMeans (read b).scheme (maximal_of (read b).scheme) q
  pub refusals : AnswerNumberMeans b q serial room

pub demand_2 : (b q : List ℕ) (serial room : ℕ) → Demand2 b q serial room
demand_2 b q serial room = record {
  maximal_objects = maximal_objects_read b;
  kept_sets = kept_by_every_list;
  answer_rows = answer_listed b (query_read (read b) q).asking (names_in_range b q);
  combinations = combinations_give b (query_read (read b) q).asking (names_in_range b q);
  refusals_of_books = (read_exactly b, number_means b);
  cycles = nine_means b;
  refusals_of_queries = (
    Queries.read_exactly (read b).scheme (maximal_of (read b).scheme) q,
    Queries.number_means (read b).scheme (maximal_of (read b).scheme) q,
  );
  refusals = answer_number_means b q serial room;
}

-- 3. "For every book that isn't refused, whatever rows its tables hold, each of its maximal objects and any wanted
-- columns of it, one at least": `PromiseE` has demand 3 for M and X, and that answering computes what it speaks of
pub demand_3 : (b : List ℕ) → (read b).number ≡ 0 → (M : ℕ) → Memᴰ M (maximal_of (read b).scheme) → (X : ℕ)
    → (a : ℕ) × (a ∈ X) → X ⊆ attributes_of (read b).scheme.sets M → PromiseE b M X
demand_3 = promise_e

-- ---- demand 1, for the bytes b of any book and q of any query, any serial and space

-- "comes to an end with either a full answer or one refusal of the fixed list, chosen by the fixed order, and every
-- cell of the answer space is accounted for in both"
module _ (b q : List ℕ) (serial : ℕ) (space : List ℕ) where
  pub demand_1_there : AnswerOutcome b q serial space (answer_of b q serial (length space)) (space_after b q serial space)
  demand_1_there = (demand1 b q serial space).there

  pub demand_1_only : (a : Answer) (after : List ℕ) → AnswerOutcome b q serial space a after
      → (a ≡ answer_of b q serial (length space)) × (after ≡ space_after b q serial space)
  demand_1_only = (demand1 b q serial space).only

  pub demand_1_as_many : length (space_after b q serial space) ≡ length space
  demand_1_as_many = (demand1 b q serial space).as_many

  pub demand_1_front : number b q serial (length space) ≡ 0
      → rows_in (item_count b q) (length (rows_answered b q)) (space_after b q serial space) ≡ rows_answered b q
  demand_1_front = (demand1 b q serial space).front

  pub demand_1_behind : number b q serial (length space) ≡ 0
      → drop (cells_needed b q) (space_after b q serial space) ≡ drop (cells_needed b q) space
  demand_1_behind = (demand1 b q serial space).behind

-- ---- demand 2: "The maximal objects, the sets kept by Graham reduction with sacred columns, and the answer rows are
-- exactly those of the definitions"

-- maximal objects, for the scheme of any book
module _ (b : List ℕ) where
  pub maximal_objects_joining : (H : ℕ) → H < 2 ^ OBJECTS → (k : ℕ)
      → JoinsByTheRule (dependencies_of (read b).scheme) (read b).scheme.sets H k
  maximal_objects_joining = (maximal_objects_read b).joining

  pub maximal_objects_growing : (start : ℕ) → start ∈ (read b).scheme.objects
      → GrownInEveryOrder (dependencies_of (read b).scheme) (read b).scheme.sets (read b).scheme.objects start
  maximal_objects_growing = (maximal_objects_read b).growing

  pub maximal_objects_computed : ComputedList (dependencies_of (read b).scheme) (read b).scheme.sets (read b
      ).scheme.objects
  maximal_objects_computed = (maximal_objects_read b).computed

  pub maximal_objects_list : MaximalObjectList (dependencies_of (read b).scheme) (read b).scheme.sets (read b
      ).scheme.objects (read b).scheme.maximal.only (declared_of (read b).scheme) (removed_of (read b).scheme)
  maximal_objects_list = (maximal_objects_read b).list

-- what these four say, by their fields, for dependencies D, objects and their sets
module _ (D : List Dependency) (sets : List ℕ) (objects : ℕ) (o : Bounded D sets objects) (H : ℕ) (below : H < 2 ^
    OBJECTS) (k : ℕ) where
  abbrev pub joins_shares : ℕ
  joins_shares = (object_joins_by_the_rule D sets objects o H below k).shares

  pub joins_is_shared : (a : ℕ) → (a ∈ joins_shares) ↔ Shared sets H k a
  joins_is_shared = (object_joins_by_the_rule D sets objects o H below k).is_shared

  pub joins_exactly : (C : ℕ) → LeastClosed D joins_shares C → (joins D sets H k ≡ true) ↔ (get_or sets k 0 ⊆ C)
  joins_exactly = (object_joins_by_the_rule D sets objects o H below k).exactly

  pub joins_some : (C : ℕ) × LeastClosed D joins_shares C
  joins_some = (object_joins_by_the_rule D sets objects o H below k).some

module _ (D : List Dependency) (sets : List ℕ) (objects : ℕ) (o : Bounded D sets objects) (start : ℕ) (there : start
    ∈ objects) where
  pub grown_every : (G : ℕ) → Holding D sets objects (single start) G → G ≡ grown D sets objects start
  grown_every = (grown_is_the_same_in_every_order D sets objects o start there).every

  pub grown_some : Holding D sets objects (single start) (grown D sets objects start)
  grown_some = (grown_is_the_same_in_every_order D sets objects o start there).some

module _ (D : List Dependency) (sets : List ℕ) (objects : ℕ) (o : Bounded D sets objects) where
  pub computed_has_start : (M : ℕ) → Memᴰ M (computed D sets objects) → (k : ℕ) × LowestStart D sets objects M k
  computed_has_start = (computed_is_the_list D sets objects o).has_start

  pub computed_in_no_other : (M k : ℕ) → Memᴰ M (computed D sets objects) → k ∈ objects
      → M ⊆ grown D sets objects k → M ≡ grown D sets objects k
  computed_in_no_other = (computed_is_the_list D sets objects o).in_no_other

  pub computed_around : (k : ℕ) → k ∈ objects → LiesIn (grown D sets objects k) (computed D sets objects)
  computed_around = (computed_is_the_list D sets objects o).around

  pub computed_none_twice : NoneTwice (computed D sets objects)
  computed_none_twice = (computed_is_the_list D sets objects o).none_twice

  pub computed_by_lowest_start : (i j a b : ℕ) → i < j → j < length (computed D sets objects)
      → LowestStart D sets objects (at (computed D sets objects) i) a
      → LowestStart D sets objects (at (computed D sets objects) j) b → a < b
  computed_by_lowest_start = (computed_is_the_list D sets objects o).by_lowest_start

  pub computed_at_most : length (computed D sets objects) ≤ OBJECTS
  computed_at_most = (computed_is_the_list D sets objects o).at_most

module _ (D : List Dependency) (sets : List ℕ) (objects : ℕ) (o : Bounded D sets objects) (only : Bool) (declared
    removed : List ℕ) where
  abbrev pub maximal_counting : List ℕ
  maximal_counting = (maximal_objects_are_the_list D sets objects o only declared removed).counting

  pub maximal_none_count : only ≡ true → maximal_counting ≡ []
  maximal_none_count = (maximal_objects_are_the_list D sets objects o only declared removed).none_count

  pub maximal_all_count : only ≡ false → maximal_counting ≡ computed D sets objects
  maximal_all_count = (maximal_objects_are_the_list D sets objects o only declared removed).all_count

  abbrev pub maximal_staying : List ℕ
  maximal_staying = (maximal_objects_are_the_list D sets objects o only declared removed).staying

  abbrev pub maximal_added : List ℕ
  maximal_added = (maximal_objects_are_the_list D sets objects o only declared removed).added

  pub maximal_whole : maximal_objects D sets objects only declared removed ≡ maximal_staying ++ maximal_added
  maximal_whole = (maximal_objects_are_the_list D sets objects o only declared removed).whole

  pub maximal_stays : (M : ℕ)
      → Memᴰ M maximal_staying ↔ (Memᴰ M maximal_counting × (Memᴰ M removed → ⊥))
  maximal_stays = (maximal_objects_are_the_list D sets objects o only declared removed).stays

  pub maximal_stay_in_order : LeavesOut maximal_staying maximal_counting
  maximal_stay_in_order = (maximal_objects_are_the_list D sets objects o only declared removed).stay_in_order

  pub maximal_adds : (M : ℕ) → Memᴰ M maximal_added ↔ (Memᴰ M declared × (Memᴰ M maximal_staying → ⊥))
  maximal_adds = (maximal_objects_are_the_list D sets objects o only declared removed).adds

  pub maximal_added_in_order : ByFirstPlace maximal_added declared
  maximal_added_in_order = (maximal_objects_are_the_list D sets objects o only declared removed).added_in_order

  pub maximal_some_objects : ((M : ℕ) → Memᴰ M declared → SomeObjects objects M) → (M : ℕ)
      → Memᴰ M (maximal_objects D sets objects only declared removed) → SomeObjects objects M
  maximal_some_objects = (maximal_objects_are_the_list D sets objects o only declared removed).some_objects

  pub maximal_none_twice : NoneTwice (maximal_objects D sets objects only declared removed)
  maximal_none_twice = (maximal_objects_are_the_list D sets objects o only declared removed).none_twice

  pub maximal_at_most : length (maximal_objects D sets objects only declared removed) ≤ OBJECTS + length declared
  maximal_at_most = (maximal_objects_are_the_list D sets objects o only declared removed).at_most

-- kept sets, for all families of sets of attributes 0 to 31
module _ (X : ℕ) (F : Family) (o : OfAttributes F) where
  pub kept_node : (ms : List Step) → Complete (NodePermits X) F ms → SameSets (leaves F ms) (kept X F)
  kept_node = (kept_by_every_list X F o).node

  pub kept_cover : (ms : List Step) → Complete (CoverPermits X) F ms → SameSets (leaves F ms) (kept X F)
  kept_cover = (kept_by_every_list X F o).cover

  pub kept_some_node : (ms : List Step) × Complete (NodePermits X) F ms
  kept_some_node = (kept_by_every_list X F o).some_node

  pub kept_some_cover : (ms : List Step) × Complete (CoverPermits X) F ms
  kept_some_cover = (kept_by_every_list X F o).some_cover

-- answer rows: "each row once, none left out, none extra, in the stated order"
module _ (b : List ℕ) (q : Asking) (range : NamesInRange q) where
  pub answer_rows_fact : (row : Row) → Memᴰ row (answer_rows b (read b) q) ↔ InAnswer b (read b) q row
  answer_rows_fact = (answer_listed b q range).rows

  pub answer_ascending : Ascending (item_kinds (read b) q) (answer_rows b (read b) q)
  answer_ascending = (answer_listed b q range).ascending

  pub answer_of_kinds : AllOfKinds (item_kinds (read b) q) (answer_rows b (read b) q)
  answer_of_kinds = (answer_listed b q range).of_kinds

  pub answer_only : (l : List Row) → Ascending (item_kinds (read b) q) l → ((row : Row)
      → Memᴰ row l ↔ InAnswer b (read b) q row) → l ≡ answer_rows b (read b) q
  answer_only = (answer_listed b q range).only

  pub combinations_rows : (row : Row)
      → InAnswer b (read b) q row ↔ ((p : Combination b (read b) q) × Passes b (read b) q p × (row ≡ item_cells
      q.items (combined b (read b) q p)))
  combinations_rows = (combinations_give b q range).rows

  -- "A *combination* picks, for every variable, an M that contains its X and one distinct row for each kept set of that
  -- M": the list of them
  pub combinations_each : (c : List Way) → Memᴰ c (combinations_of b (read b) (sets_named q))
      ↔ ((p : Combination b (read b) q) × (c ≡ ways_picked q p))
  combinations_each = (combinations_listed b q range).each

  pub combinations_answer : (row : Row) → Memᴰ row (answer_rows b (read b) q)
      ↔ ((c : List Way) × Memᴰ c (combinations_of b (read b) (sets_named q)) × GivesRow b (read b) q c row)
  combinations_answer = (combinations_listed b q range).rows

  pub combinations_one_row : (c : List Way) (row other : Row) → GivesRow b (read b) q c row
      → GivesRow b (read b) q c other → row ≡ other
  combinations_one_row = (combinations_listed b q range).one_row

-- "the order of combinations is fixed in docs/", and how many there are
module _ (b Xs : List ℕ) where
  pub combinations_size : (o : BookOutcome) → length (combinations_of b o Xs) ≡ combination_count b o Xs
  combinations_size o = (combinations_counted b o Xs).size

  pub combinations_once : (i j : ℕ) → i < length (combinations_of b (read b) Xs)
      → j < length (combinations_of b (read b) Xs)
      → get_or (combinations_of b (read b) Xs) i [] ≡ get_or (combinations_of b (read b) Xs) j [] → i ≡ j
  combinations_once = (combinations_ordered b Xs).once

  pub combinations_in_order : (i j : ℕ) → i < j → j < length (combinations_of b (read b) Xs)
      → CombinationBefore b (read b) Xs (get_or (combinations_of b (read b) Xs) i [])
      (get_or (combinations_of b (read b) Xs) j [])
  combinations_in_order = (combinations_ordered b Xs).in_order

  pub combinations_only : (l : List (List Way))
      → ((c : List Way) → Memᴰ c l ↔ Memᴰ c (combinations_of b (read b) Xs))
      → ((i j : ℕ) → i < j → j < length l → CombinationBefore b (read b) Xs (get_or l i []) (get_or l j []))
      → l ≡ combinations_of b (read b) Xs
  combinations_only = (combinations_ordered b Xs).only

module _ (b q : List ℕ) where
  pub names_each : (v a : ℕ) → Named (query_read (read b) q).asking v a → (v < 4) × (a < 32)
  names_each = (names_in_range b q).each

-- "A refusal is given exactly where its stated condition holds and that of none before it in the fixed order does": of
-- a book
module _ (s : Scheme) (r : Record) where
  pub book_fault_exactly : (n : ℕ) → (fault_of s r ≡ n) ↔ First (conditions s r) n
  book_fault_exactly = (fault_means s r).exactly

module _ (b : List ℕ) where
  pub book_read_over : 65536 < length b → read b ≡ record { number = 1; scheme = nothing_declared; rows = [] }
  book_read_over = (read_exactly b).over

  pub book_read_exactly : length b ≤ 65536 → (o : BookOutcome) → (read b ≡ o) ↔ StopsWith b o
  book_read_exactly = (read_exactly b).exactly

  pub book_number_one_of : ((read b).number ≤ 7) ⊎ (((read b).number ≡ 9) ⊎ (((read b).number ≡ 20) ⊎ ((read b).number ≡
      21)))
  book_number_one_of = (number_means b).one_of

  pub book_number_one : ((read b).number ≡ 1) ↔ (65536 < length b)
  book_number_one = (number_means b).one

  pub book_number_of_record : (n : ℕ) → RecordNumber n
      → ((read b).number ≡ n) ↔ ((length b ≤ 65536) × FaultyRecord b n)
  book_number_of_record = (number_means b).of_record

  pub book_number_zero : ((read b).number ≡ 0) ↔ ((length b ≤ 65536) × AcceptedWhole b 0)
  book_number_zero = (number_means b).zero

  pub book_number_twenty_one : ((read b).number ≡ 21) ↔ ((length b ≤ 65536) × AcceptedWhole b 21)
  book_number_twenty_one = (number_means b).twenty_one

  pub book_number_nine : ((read b).number ≡ 9) ↔ ((length b ≤ 65536) × AcceptedWhole b 9)
  book_number_nine = (number_means b).nine

  pub book_nine_node : ((read b).number ≡ 9) ↔ OnlyACycle NodePermits b
  book_nine_node = (nine_means b).node

  pub book_nine_cover : ((read b).number ≡ 9) ↔ OnlyACycle CoverPermits b
  book_nine_cover = (nine_means b).cover

-- of a query, over every scheme and every list of maximal objects
module _ (s : Scheme) (q : Asked) (r : Record) where
  pub query_fault_exactly : (n : ℕ)
      → (queryFault s q r ≡ n) ↔ First (queryConditions s q r) n
  query_fault_exactly = (Queries.fault_means s q r).exactly

module _ (s : Scheme) (Ms b : List ℕ) where
  pub query_read_over : 65536 < length b → readQuery s Ms b ≡ refused_with 1 (asks [])
  query_read_over = (Queries.read_exactly s Ms b).over

  pub query_read_exactly : length b ≤ 65536 → (o : QueryOutcome) → (readQuery s Ms b ≡ o) ↔ QueryStopsWith s Ms b o
  query_read_exactly = (Queries.read_exactly s Ms b).exactly

  pub query_number_one_of : (n : ℕ) → (readQuery s Ms b).number ≡ n
      → (n ≤ 5) ⊎ ((n ≡ 7) ⊎ ((n ≡ 10) ⊎ ((n ≡ 11) ⊎ (n ≡ 12))))
  query_number_one_of = (Queries.number_means s Ms b).one_of

  pub query_number_one : ((readQuery s Ms b).number ≡ 1) ↔ (65536 < length b)
  query_number_one = (Queries.number_means s Ms b).one

  pub query_number_three : ((readQuery s Ms b).number ≡ 3) ↔ ((length b ≤ 65536) × (QueryFaultyRecord s b 3 ⊎ Unended
      s b))
  query_number_three = (Queries.number_means s Ms b).three

  pub query_number_of_record : (n : ℕ) → (n ≡ 2) ⊎ ((n ≡ 4) ⊎ ((n ≡ 5) ⊎ ((n ≡ 7) ⊎ (n ≡ 11))))
      → ((readQuery s Ms b).number ≡ n) ↔ ((length b ≤ 65536) × QueryFaultyRecord s b n)
  query_number_of_record = (Queries.number_means s Ms b).of_record

  pub query_number_of_whole : (n : ℕ) → (n ≡ 0) ⊎ ((n ≡ 10) ⊎ (n ≡ 12))
      → ((readQuery s Ms b).number ≡ n) ↔ ((length b ≤ 65536) × Ended s Ms b n)
  query_number_of_whole = (Queries.number_means s Ms b).of_whole

-- of both together: "everywhere else the answer is full"
module _ (b q : List ℕ) (serial room : ℕ) where
  pub number_of_book : (n : ℕ) → 0 < n → (read b).number ≡ n → number b q serial room ≡ n
  number_of_book = (answer_number_means b q serial room).of_book

  pub number_of_query : (n : ℕ) → 0 < n → (read b).number ≡ 0 → (query_read (read b) q).number ≡ n
      → number b q serial room ≡ n
  number_of_query = (answer_number_means b q serial room).of_query

  pub number_fourteen : (number b q serial room ≡ 14) ↔ (Good b q × (serial ≡ last_serial))
  number_fourteen = (answer_number_means b q serial room).fourteen

  pub number_thirteen : (number b q serial room ≡ 13) ↔ (Good b q × MoreSerials serial × (room < cells_needed b q))
  number_thirteen = (answer_number_means b q serial room).thirteen

  pub number_full : (number b q serial room ≡ 0) ↔ (Good b q × MoreSerials serial × (cells_needed b q ≤ room))
  number_full = (answer_number_means b q serial room).full

  pub number_otherwise : (n : ℕ) → number b q serial room ≡ n → (n ≡ 0 → ⊥) → (n ≡ 13 → ⊥) → (n ≡ 14 → ⊥)
      → ((read b).number ≡ n) ⊎ (((read b).number ≡ 0) × ((query_read (read b) q).number ≡ n))
  number_otherwise = (answer_number_means b q serial room).otherwise

  pub number_one_of : (number b q serial room ≤ 14) ⊎ ((number b q serial room ≡ 20) ⊎ (number b q serial room ≡ 21))
  number_one_of = (answer_number_means b q serial room).one_of

  pub number_not_eight : number b q serial room ≡ 8 → ⊥
  number_not_eight = (answer_number_means b q serial room).not_eight

-- ---- demand 3: "For every book that isn't refused, whatever rows its tables hold, each of its maximal objects and any
-- wanted columns of it, one at least"

-- demand 3 for M and X, and that answering computes what it speaks of
module _ (b : List ℕ) (good : (read b).number ≡ 0) (M : ℕ) (m : Memᴰ M (maximal_of (read b).scheme)) (X : ℕ)
    (some : (a : ℕ) × (a ∈ X)) (inside : X ⊆ attributes_of (read b).scheme.sets M) where
  pub promise_e_demand3 : Demand3 (read b).scheme.kinds (tables_of b (read b) M) X
  promise_e_demand3 = (promise_e b good M m X some inside).demand3

  pub promise_e_kept : kept_sets (tables_of b (read b) M) X ≡ kept_for (read b).scheme.sets M X
  promise_e_kept = (promise_e b good M m X some inside).kept

  pub promise_e_shown : (K : ℕ) (row : Row)
      → Memᴰ row (shown_rows (tables_of b (read b) M) K) ↔ ((k : ℕ) × Shows (read b).scheme.sets M K k ×
      Memᴰ row (project K (table_of b (read b) k)).rows)
  promise_e_shown = (promise_e b good M m X some inside).shown

  pub promise_e_part : (row : Row) → InPart (read b).scheme.kinds (tables_of b (read b) M) X row ↔ ((at : ℕ
      → ℕ) × FitsObject b (read b) M X at × (row ≡ map at (members 32 X)))
  promise_e_part = (promise_e b good M m X some inside).part

-- demand 3 by its fields: for all tables over attributes 0 to 31, any rows, and any non-empty wanted columns of them
module _ (kinds : List ℕ) (Ts : List Table) (X : ℕ) (o : OfAttributes (family Ts)) (inside : X ⊆ union (family Ts))
    (some : (a : ℕ) × (a ∈ X)) where
  pub demand_3_every_list : KeptByEveryList X (family Ts)
  demand_3_every_list = (demand3 kinds Ts X o inside some).every_list

  pub demand_3_programs_union : UnionOfChoices kinds Ts X
  demand_3_programs_union = (demand3 kinds Ts X o inside some).programs_union

  pub demand_3_programs_part : PartHolds kinds Ts X
  demand_3_programs_part = (demand3 kinds Ts X o inside some).programs_part

  pub demand_3_every_row : (cs : List ℕ) → StandFor Ts (kept_sets Ts X) cs → (row : Row)
      → InFullJoin kinds Ts X row → InKeptJoin kinds Ts X cs row
  demand_3_every_row = (demand3 kinds Ts X o inside some).every_row

  pub demand_3_no_other : AgreePairwise Ts → NoneMissing kinds Ts → (cs : List ℕ)
      → StandFor Ts (kept_sets Ts X) cs → (row : Row) → InKeptJoin kinds Ts X cs row → InFullJoin kinds Ts X row
  demand_3_no_other = (demand3 kinds Ts X o inside some).no_other

  pub demand_3_equal : AgreePairwise Ts → NoneMissing kinds Ts → (cs : List ℕ) → StandFor Ts (kept_sets Ts X) cs
      → (row : Row) → InFullJoin kinds Ts X row ↔ InKeptJoin kinds Ts X cs row
  demand_3_equal = (demand3 kinds Ts X o inside some).equal

-- ---- what a book and a query say

-- what a book says is what its accepted records say: scheme, positions of rows, tables
pub book_of_its_records : (b : List ℕ) (rs : List Record) (o : BookOutcome) (at : ℕ)
    → Accepted b rs o.scheme o.rows at
    → AcceptedSay b rs o at
book_of_its_records = accepted_say

pub rows_of_its_bytes : (b : List ℕ) (at : ℕ) → RowInBytes b at
rows_of_its_bytes = row_in_bytes

pub tables_of_a_book : (b : List ℕ) (M : ℕ) → TablesOfBook b M
tables_of_a_book = tables_of_book

-- what a query asks is what its records say
pub query_of_its_records : (rs : List Record) → QueryStatements.RecordsAsk rs
query_of_its_records = records_ask

pub attributes_of_what_is_asked : (q : Asking) → QueryStatements.AttributesAre q
attributes_of_what_is_asked = attributes_are

pub condition_of_all_comparisons : (o : BookOutcome) (at : Cells) → ConditionMeans o at
condition_of_all_comparisons = condition_means

pub maximal_objects_that_contain : (sets Ms : List ℕ) (X : ℕ) → QueryStatements.ContainingList sets Ms X
maximal_objects_that_contain = containing_is_the_list

-- "For every book that isn't refused, whatever rows its tables hold, each of its maximal objects and any wanted columns
-- of it, one at least"
pub demand_3_of_books : (b : List ℕ) → MaximalObjectsOfBook b
demand_3_of_books = maximal_objects_of_book

-- ---- what the unit prints

module _ (b input : List ℕ) where
  pub run_opening : (opening_of (read b).number (length input)).more ≡ false
      → printout b input ≡ opening_text (read b).number (length input)
  run_opening = (run_prints b input).opening

  pub run_nothing : (opening_of (read b).number (length input)).more ≡ true
      → opening_text (read b).number (length input) ≡ []
  run_nothing = (run_prints b input).nothing

  pub run_steps : (opening_of (read b).number (length input)).more ≡ true → Steps b input 0 (printout b input)
  run_steps = (run_prints b input).steps

  pub run_only : (opening_of (read b).number (length input)).more ≡ true → (text : List ℕ) → Steps b input 0 text
      → text ≡ printout b input
  run_only = (run_prints b input).only

  pub run_refused_book : (n : ℕ) → 0 < n → (read b).number ≡ n → printout b input ≡ book_refused n
  run_refused_book = (run_prints b input).refused_book

  pub run_too_long : (read b).number ≡ 0 → 65536 < length input → printout b input ≡ query_refused 1
  run_too_long = (run_prints b input).too_long

  pub run_answered : (read b).number ≡ 0 → length input ≤ 65536 → Steps b input 0 (printout b input)
  run_answered = (run_prints b input).answered

  pub run_step_answered : (q : List ℕ) (serial : ℕ) → number b q serial 8192 ≡ 0
      → text_of b q serial ≡ full_text b q serial
  run_step_answered = (run_prints b input).step_answered

  pub run_step_refused : (q : List ℕ) (serial n : ℕ) → 0 < n → number b q serial 8192 ≡ n
      → text_of b q serial ≡ query_refused n
  run_step_refused = (run_prints b input).step_refused

  pub run_counted : (q : List ℕ) (serial : ℕ) → (step_of b q serial).printed ≡ length (text_of b q serial)
  run_counted = (run_prints b input).counted
