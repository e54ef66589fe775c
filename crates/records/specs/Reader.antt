-- What reading a record at a position of some bytes gives.
-- In order: reading; what each answer says of the bytes; records one after another.
-- Not here: how the bytes of a record are laid out (`Records`).
-- Assumes nothing.
use Rattle.std.specs.Prelude.{◌≡◌, true, false, cond, List, [], ◌∷◌, ◌++◌, ℕ, ◌+◌, ◌≤◌, ◌<◌, leb, length, get_or, drop}
use Rattle.records.specs.Fields.{field}
use Rattle.records.specs.Records.{is_kind, body_length, kind_of}
use Rattle.records.specs.declared.Record.{Record}
use Rattle.records.specs.declared.Record.TheVariants.{OfBook, OfQuery}
use Rattle.records.specs.declared.BookRecord.TheVariants.{Attribute, Object, Dependency, Row, Declared}
use Rattle.records.specs.declared.BookRecord.TheVariants.{Removed, ComparisonTable, OnlyDeclared}
use Rattle.records.specs.declared.BookRecord.TheVariants.{DeclaredWide}
use Rattle.records.specs.declared.QueryRecord.TheVariants.{Item, CompareTwo, CompareConstant, End}
use Rattle.records.specs.declared.Reading.{Reading}
use Rattle.records.specs.declared.Reading.TheVariants.{Nothing, Unknown, Short, Found}

-- ---- reading

-- The record that a body b is for each kind, row for row of the table.
unfoldable pub bodies : List (List ℕ → Record)
bodies =
    (λ b. OfQuery End)  -- no kind
    ∷ (λ b. OfBook (Attribute (field 1 b 0) (field 1 b 1)))
    ∷ (λ b. OfBook (Object (field 1 b 0) (field 4 b 1)))
    ∷ (λ b. OfBook (Dependency (field 4 b 0) (field 4 b 4)))
    ∷ (λ b. OfBook
    (Row (field 1 b 0) (field 4 b 1) (field 4 b 5) (field 4 b 9) (field 4 b 13) (field 4 b 17) (field 4 b 21)))
    ∷ (λ b. OfBook (Declared (field 4 b 0)))
    ∷ (λ b. OfBook (Removed (field 4 b 0)))
    ∷ (λ b. OfQuery (Item (field 1 b 0) (field 1 b 1)))
    ∷ (λ b. OfQuery (CompareTwo (field 1 b 0) (field 1 b 1) (field 1 b 2) (field 1 b 3) (field 1 b 4)))
    ∷ (λ b. OfQuery (CompareConstant (field 1 b 0) (field 1 b 1) (field 1 b 2) (field 4 b 3)))
    ∷ (λ b. OfQuery End)
    ∷ (λ b. OfQuery End)  -- 11
    ∷ (λ b. OfQuery End)  -- 12
    ∷ (λ b. OfBook (ComparisonTable (field 4 b 0) (field 4 b 4) (field 4 b 8) (field 4 b 12)))
    ∷ (λ b. OfBook OnlyDeclared)
    ∷ (λ b. OfBook (DeclaredWide (field 8 b 0)))
    ∷ []

-- The record of kind k whose body b starts with.
unfoldable pub record_of : ℕ → List ℕ → Record
record_of k = get_or bodies k (λ b. OfQuery End)

-- What the bytes from position at on start with. No byte: `Nothing`; a byte that is no kind: `Unknown`; fewer bytes
-- after it than its body has: `Short`; else the record and the position after it.
unfoldable pub read_front : ℕ → List ℕ → Reading
read_front at [] = Nothing
read_front at (k ∷ b) =
    cond (is_kind k)
    (cond (leb (body_length k) (length b)) (Found (record_of k b) (at + 1 + body_length k)) (Short k))
    Unknown

unfoldable pub read_at : List ℕ → ℕ → Reading
read_at s at = read_front at (drop at s)

-- ---- what each answer says of the bytes

-- A byte that is no kind stands at position at.
pub record NoKind (s : List ℕ) (at : ℕ) : Type 0 where
  pub within : at < length s
  pub kind : is_kind (get_or s at 0) ≡ false

-- "body cut short": the byte at position at is kind k, and fewer bytes than its body has stand after it.
pub record CutShort (s : List ℕ) (at k : ℕ) : Type 0 where
  pub within : at < length s
  pub byte : get_or s at 0 ≡ k
  pub kind : is_kind k ≡ true
  pub cut : length s < at + 1 + body_length k

-- The byte at position at is the kind of r, the bytes after it are its body, and next is the position after that.
pub record Whole (s : List ℕ) (at : ℕ) (r : Record) (next : ℕ) : Type 0 where
  pub byte : get_or s at 0 ≡ kind_of r
  pub place : next ≡ at + 1 + body_length (kind_of r)
  pub within : next ≤ length s
  pub body : r ≡ record_of (kind_of r) (drop (at + 1) s)

-- Reading gives an answer exactly if this holds of it.
unfoldable pub Means : List ℕ → ℕ → Reading → Type 0
Means s at Nothing = length s ≤ at
Means s at Unknown = NoKind s at
Means s at (Short k) = CutShort s at k
Means s at (Found r next) = Whole s at r next

-- ---- records one after another

-- From position at on, s has the bytes bs, and goes on at position next.
pub record Stands (s : List ℕ) (at : ℕ) (bs : List ℕ) (next : ℕ) : Type 0 where
  pub place : next ≡ at + length bs
  pub within : next ≤ length s
  pub same : drop at s ≡ bs ++ drop next s

-- From position at on, the records rs are read one after another, and next is the position after the last.
pub data Reads (s : List ℕ) : ℕ → List Record → ℕ → Type 0 where
  done : {at : ℕ} → Reads s at [] at
  more : {at mid next : ℕ} {r : Record} {rs : List Record}
      → read_at s at ≡ Found r mid → Reads s mid rs next → Reads s at (r ∷ rs) next
