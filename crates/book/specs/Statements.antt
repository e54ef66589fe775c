-- What is proved of reading a book, for every list of bytes. The proofs are in `proofs/Theorems.antt`.
-- In order: the fault of a record, where reading stops, the number, a cycle, what accepted records say, the scheme, the
-- tables and maximal objects of a good book.
-- Assumes nothing.
use Rattle.std.specs.Prelude.{◌≡◌, true, ◌⊎◌, ◌↔◌, ℕ, ◌+◌, ◌^◌, ◌≤◌, ◌<◌, length}
use mathlib.Core.List.{List, [], ◌∷◌, Memᴰ}
use Rattle.sets.specs.Sets.{◌∈◌, ◌⊆◌, rank, OBJECTS}
use Rattle.refusals.specs.Refusals.{number_of_any}
use Rattle.reduction.specs.Steps.{Step, Form, NodePermits, CoverPermits, Complete, leaves}
use Rattle.reduction.specs.Kept.{acyclic}
use Rattle.records.specs.Reader.{read_at}
use Rattle.records.specs.Checks.{First}
use Rattle.records.specs.declared.Record.{Record}
use Rattle.records.specs.declared.Record.TheVariants.{OfBook}
use Rattle.records.specs.declared.BookRecord.TheVariants.{Declared, DeclaredWide}
use Rattle.records.specs.declared.Reading.TheVariants.{Found}
use Rattle.relation.specs.BookRows as BookRows
use Rattle.relation.specs.Tables.{Row, Table, table_at, family}
use Rattle.relation.specs.Demand3.{Demand3}
use Rattle.scheme.specs.declared.Scheme.{Scheme}
use Rattle.scheme.specs.Growing.{family_of, attributes_of}
use Rattle.scheme.specs.OfScheme.{dependencies_of, declared_of, removed_of, maximal_of}
use Rattle.scheme.specs.Statements.{JoinsByTheRule, GrownInEveryOrder, ComputedList, SomeObjects, MaximalObjectList}
use Rattle.book.specs.Faults.{fault_of}
use Rattle.book.specs.Declaring.{nothing_declared, declare}
use Rattle.book.specs.Reading.{Outcome, read, book_of}
use Rattle.book.specs.Accepting.{Accepted, Faulty, AtLast, Stops}
use Rattle.book.specs.Conditions.{conditions}
use Rattle.book.specs.WellFormed.{WellFormed}
use Rattle.book.specs.TablesOf as TablesOf
use Rattle.book.specs.TablesOf.{tables_of, InRange}
use Rattle.book.specs.RecordsSay.{SaysRow, SchemeSaid, RowsSaid, TableSaid}

-- ---- the fault of a record

-- a number is given exactly if its condition holds and none before it does; 0 exactly if none holds
pub record FaultMeans (s : Scheme) (r : Record) : Type 0 where
  pub exactly : (n : ℕ) → (fault_of s r ≡ n) ↔ First (conditions s r) n

-- request 9: "Kind 15 is kind 5 with an 8-byte set and shares its bound of 8": one set of objects by either kind has the
-- same fault and adds the same
pub record KindFifteen (s : Scheme) (M : ℕ) : Type 0 where
  pub fault : fault_of s (OfBook (DeclaredWide M)) ≡ fault_of s (OfBook (Declared M))
  pub adds : declare s (OfBook (DeclaredWide M)) ≡ declare s (OfBook (Declared M))

-- ---- where reading stops

-- the records accepted from the start make the scheme and the rows of the outcome, and reading stops behind them with
-- its number
pub record StopsWith (b : List ℕ) (o : Outcome) : Type 0 where
  pub passed : List Record
  pub at : ℕ
  pub accepted : Accepted b passed o.scheme o.rows at
  pub stops : Stops b o.scheme at o.number

pub record ReadExactly (b : List ℕ) : Type 0 where
  -- "Over 65,536 bytes: 1."
  pub over : 65536 < length b → read b ≡ record { number = 1; scheme = nothing_declared; rows = [] }
  -- "Then the earliest faulty record", or the end
  pub exactly : length b ≤ 65536 → (o : Outcome) → (read b ≡ o) ↔ StopsWith b o

-- ---- the number

-- behind some accepted records stands one with the fault n
pub record FaultyRecord (b : List ℕ) (n : ℕ) : Type 0 where
  pub passed : List Record
  pub scheme : Scheme
  pub rows : List ℕ
  pub at : ℕ
  pub accepted : Accepted b passed scheme rows at
  pub faulty : Faulty b scheme at n

-- the records are accepted to the end, and their scheme has the fault n, or 0
pub record AcceptedWhole (b : List ℕ) (n : ℕ) : Type 0 where
  pub passed : List Record
  pub scheme : Scheme
  pub rows : List ℕ
  pub at : ℕ
  pub accepted : Accepted b passed scheme rows at
  pub ended : length b ≤ at
  pub at_last : AtLast scheme n

-- the numbers of a faulty record
abbrev pub RecordNumber : ℕ → Type 0
RecordNumber n = ((2 ≤ n) × (n ≤ 7)) ⊎ (n ≡ 20)

pub record NumberMeans (b : List ℕ) : Type 0 where
  -- "8 is no longer given"
  pub one_of : ((read b).number ≤ 7) ⊎ (((read b).number ≡ 9) ⊎ (((read b).number ≡ 20) ⊎ ((read b).number ≡ 21)))
  pub one : ((read b).number ≡ 1) ↔ (65536 < length b)
  pub of_record : (n : ℕ) → RecordNumber n → ((read b).number ≡ n) ↔ ((length b ≤ 65536) × FaultyRecord b n)
  pub zero : ((read b).number ≡ 0) ↔ ((length b ≤ 65536) × AcceptedWhole b 0)
  pub twenty_one : ((read b).number ≡ 21) ↔ ((length b ≤ 65536) × AcceptedWhole b 21)
  pub nine : ((read b).number ≡ 9) ↔ ((length b ≤ 65536) × AcceptedWhole b 9)

-- the refusal in the book has the number of the outcome, and none is in it where that is 0
pub record RefusalNumbered (b : List ℕ) : Type 0 where
  pub numbered : number_of_any (book_of (read b)).refusal ≡ (read b).number

-- ---- a cycle: "Every one left must be acyclic: it reduces to nothing with no sacred attributes."

-- a remaining maximal object has a complete list of a form's steps, with no sacred attributes, that leaves a set
pub record CycleLeft (permits : ℕ → Form) (s : Scheme) : Type 0 where
  pub object : ℕ
  pub remaining : Memᴰ object (maximal_of s)
  pub steps : List Step
  pub complete : Complete (permits 0) (family_of s.sets object) steps
  pub set : ℕ
  pub left : Memᴰ set (leaves (family_of s.sets object) steps)

-- every condition before it is good: the length, each record, and not "21 a book with both kinds"
pub record OnlyACycle (permits : ℕ → Form) (b : List ℕ) : Type 0 where
  pub short : length b ≤ 65536
  pub passed : List Record
  pub scheme : Scheme
  pub rows : List ℕ
  pub at : ℕ
  pub accepted : Accepted b passed scheme rows at
  pub ended : length b ≤ at
  pub not_both : (scheme.maximal.only ≡ true) × (1 ≤ scheme.maximal.removals) → ⊥
  pub cycle : CycleLeft permits scheme

-- "a remaining maximal object with a cycle 9": exactly there, by the steps of either form
pub record NineMeans (b : List ℕ) : Type 0 where
  pub node : ((read b).number ≡ 9) ↔ OnlyACycle NodePermits b
  pub cover : ((read b).number ≡ 9) ↔ OnlyACycle CoverPermits b

-- ---- what accepted records say

-- the scheme, the positions of the rows and the tables hold the fields of the accepted records, in their order, all of
-- them and no other; what no record declared is not there
pub record AcceptedSay (b : List ℕ) (rs : List Record) (o : Outcome) (at : ℕ) : Type 0 where
  pub scheme : SchemeSaid rs o.scheme
  pub rows : RowsSaid b rs o.rows at
  pub tables : (M k : ℕ) → k < OBJECTS → k ∈ M → TableSaid rs o.scheme k (table_at (tables_of b o M) (rank M k))

-- the row that a record says is the one that `relation` reads in its bytes and the one that a table has of it
pub record RowInBytes (b : List ℕ) (at : ℕ) : Type 0 where
  pub whole : (k : ℕ) (r : Record) (next : ℕ) (row : Row) → read_at b at ≡ Found r next → SaysRow k r row
      → at + 26 ≤ length b
  pub in_bytes : (k : ℕ) (r : Record) (next : ℕ) (row : Row) → read_at b at ≡ Found r next → SaysRow k r row
      → BookRows.row_of b at ≡ row
  pub in_tables : (k : ℕ) (r : Record) (next : ℕ) (row : Row) → read_at b at ≡ Found r next → SaysRow k r row
      → TablesOf.row_of k (read_at b at) ≡ BookRows.row_of b at ∷ []

-- ---- the scheme

pub record SchemeWellFormed (b : List ℕ) : Type 0 where
  pub well_formed : WellFormed (read b).scheme

-- "Growing maximal objects", for the scheme of any book: an object joins by the rule, the computed sets are those that
-- grow from its objects, and the maximal objects are those that are not removed and those declared
pub record MaximalObjectsRead (b : List ℕ) : Type 0 where
  pub joining : (H : ℕ) → H < 2 ^ OBJECTS → (k : ℕ)
      → JoinsByTheRule (dependencies_of (read b).scheme) (read b).scheme.sets H k
  pub growing : (start : ℕ) → start ∈ (read b).scheme.objects
      → GrownInEveryOrder (dependencies_of (read b).scheme) (read b).scheme.sets (read b).scheme.objects start
  pub computed : ComputedList (dependencies_of (read b).scheme) (read b).scheme.sets (read b).scheme.objects
  pub list : MaximalObjectList (dependencies_of (read b).scheme) (read b).scheme.sets (read b).scheme.objects
      (read b).scheme.maximal.only (declared_of (read b).scheme) (removed_of (read b).scheme)

-- ---- the tables and maximal objects of a good book

-- the tables of M: the family of M, each row in range
pub record TablesOfBook (b : List ℕ) (M : ℕ) : Type 0 where
  pub family_is : family (tables_of b (read b) M) ≡ family_of (read b).scheme.sets M
  pub rows_in_range : (T : Table) → Memᴰ T (tables_of b (read b) M)
      → (row : Row) → Memᴰ row T.rows → InRange (read b).scheme.kinds T.set row

-- "M is any maximal object of a book not refused; X, the *wanted columns*, is any non-empty set of attributes of M's
-- objects."
pub record GoodBook (b : List ℕ) (M : ℕ) : Type 0 where
  pub some_objects : SomeObjects (read b).scheme.objects M
  pub is_acyclic : acyclic (family_of (read b).scheme.sets M) ≡ true
  pub demand3 : (X : ℕ) → (a : ℕ) × (a ∈ X) → X ⊆ attributes_of (read b).scheme.sets M
      → Demand3 (read b).scheme.kinds (tables_of b (read b) M) X

pub record MaximalObjectsOfBook (b : List ℕ) : Type 0 where
  pub good : (read b).number ≡ 0 → (M : ℕ) → Memᴰ M (maximal_of (read b).scheme) → GoodBook b M
