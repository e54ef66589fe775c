-- Reading a query in the paper's words: records accepted, and where reading stops. That `read` gives exactly this is a
-- theorem (`Statements`).
-- In order: names, maximal objects that contain a set, the whole query, where reading stops.
-- Assumes nothing.
use Rattle.std.specs.Prelude.{◌≡◌, ℕ, ◌≤◌, length}
use mathlib.Core.List.{List, [], Memᴰ}
use Rattle.sets.specs.Sets.{◌∈◌, ◌⊆◌}
use Rattle.records.specs.Reader.{read_at}
use Rattle.records.specs.Records.{of_query}
use Rattle.records.specs.Walking as Walking
use Rattle.records.specs.declared.Record.{Record}
use Rattle.records.specs.declared.Record.TheVariants.{OfQuery}
use Rattle.records.specs.declared.QueryRecord.TheVariants.{Item, CompareTwo, CompareConstant, End}
use Rattle.records.specs.declared.Reading.TheVariants.{Found}
use Rattle.scheme.specs.declared.Scheme.{Scheme}
use Rattle.scheme.specs.Growing.{attributes_of}
use Rattle.query.specs.Asking.{Asking, Named, asks, asked_of}
use Rattle.query.specs.Faults.{fault_of}
use Rattle.query.specs.Reading.{query_rules, QueryOutcome, refused_with}

-- ---- names

-- a record names attribute a with variable v: as an item, or on a side of a comparison
pub data Names (v a : ℕ) : Record → Type 0 where
  item : Names v a (OfQuery (Item v a))
  left : {operator v2 a2 : ℕ} → Names v a (OfQuery (CompareTwo v a operator v2 a2))
  right : {operator v1 a1 : ℕ} → Names v a (OfQuery (CompareTwo v1 a1 operator v a))
  of_constant : {operator cell : ℕ} → Names v a (OfQuery (CompareConstant v a operator cell))

-- one of the records does
pub record NamedIn (rs : List Record) (v a : ℕ) : Type 0 where
  pub by : Record
  pub there : Memᴰ by rs
  pub names : Names v a by

-- ---- maximal objects that contain a set

-- M's objects have all of X among their attributes
abbrev pub Contains : List ℕ → ℕ → ℕ → Type 0
Contains sets X M = X ⊆ attributes_of sets M

-- "Some variable's X in no maximal object": the variable is named, and no M contains every attribute named with it
pub record Unconnected (sets Ms : List ℕ) (q : Asking) (v : ℕ) : Type 0 where
  pub named : (a : ℕ) × Named q v a
  pub nowhere : (M : ℕ) → Memᴰ M Ms → ((a : ℕ) → Named q v a → a ∈ attributes_of sets M) → ⊥

-- ---- the whole query: the number n that it gets by what it asks, 0 where nothing is wrong

pub data OfWhole (s : Scheme) (Ms : List ℕ) (q : Asking) : ℕ → Type 0 where
  -- "No item: 10."
  no_item : q.items ≡ [] → OfWhole s Ms q 10
  -- "Some variable's X in no maximal object: 12."
  not_connected : (q.items ≡ [] → ⊥) → (v : ℕ) → Unconnected s.sets Ms q v → OfWhole s Ms q 12
  good : (q.items ≡ [] → ⊥) → ((v : ℕ) → Unconnected s.sets Ms q v → ⊥) → OfWhole s Ms q 0

-- ---- where reading stops

-- the records rs were accepted from the start of b over a book of scheme s, none of them the end; at is the position
-- behind
pub record Accepted (s : Scheme) (b : List ℕ) (rs : List Record) (at : ℕ) : Type 0 where
  pub walked : Walking.Accepted (query_rules s) b [] rs rs at

-- what stands at a position has the fault n behind the records rs
abbrev pub Faulty : Scheme → List ℕ → List Record → ℕ → ℕ → Type 0
Faulty s b rs at n = Walking.Faulty of_query (fault_of s (asked_of (asks rs))) b at n

pub data StopsWith (s : Scheme) (Ms b : List ℕ) : QueryOutcome → Type 0 where
  -- "the earliest faulty record"
  faulty : {rs : List Record} {at n : ℕ} → Accepted s b rs at → Faulty s b rs at n
      → StopsWith s Ms b (refused_with n (asks rs))
  -- "Bytes ending without kind 10: 3."
  unended : {rs : List Record} {at : ℕ} → Accepted s b rs at → length b ≤ at → StopsWith s Ms b (refused_with 3 (asks rs))
  -- at kind 10, with something wrong with the whole
  refused : {rs : List Record} {at next n : ℕ} → Accepted s b rs at → read_at b at ≡ Found (OfQuery End) next
      → OfWhole s Ms (asks rs) n → (n ≡ 0 → ⊥) → StopsWith s Ms b (refused_with n (asks rs))
  -- at kind 10, with nothing wrong: the bytes read end behind it
  answered : {rs : List Record} {at next : ℕ} → Accepted s b rs at → read_at b at ≡ Found (OfQuery End) next
      → OfWhole s Ms (asks rs) 0 → StopsWith s Ms b (record { number = 0; asking = asks rs; read = next })
