-- What is proved of the layout and of reading, over all records and all bytes (`proofs/Theorems`).
-- In order: fields; the bytes of a record; reading what was written; what was read; the cases of reading; walking.
-- Assumes nothing.
use Rattle.std.specs.Prelude.{◌≡◌, ◌↔◌, true, List, ◌++◌, ℕ, ◌+◌, ◌^◌, ◌≤◌, ◌<◌, length, get_or}
use Rattle.records.specs.Fields.{AreBytes, bytes, value}
use Rattle.records.specs.Records.{is_kind, body_length, kind_of, bytes_of, bytes_of_all, InWidth, AllInWidth}
use Rattle.records.specs.Reader.{read_at, Means, Stands, Reads}
use Rattle.records.specs.Walking.{Rules, Stop, walk, StopsAt}
use Rattle.records.specs.declared.Record.{Record}
use Rattle.records.specs.declared.Reading.{Reading}
use Rattle.records.specs.declared.Reading.TheVariants.{Found}

-- "Multi-byte fields are little-endian": a number and its bytes determine each other, at every width.
pub record FieldsInverse : Type 0 where
  pub long : (w n : ℕ) → length (bytes w n) ≡ w
  pub small : (w n : ℕ) → AreBytes (bytes w n)
  pub back : (w n : ℕ) → n < 256 ^ w → value (bytes w n) ≡ n
  pub again : (bs : List ℕ) → AreBytes bs → bytes (length bs) (value bs) ≡ bs
  pub below : (bs : List ℕ) → AreBytes bs → value bs < 256 ^ length bs

-- "A record is one byte of kind, then a body whose length the kind fixes."
pub record KindThenBody : Type 0 where
  pub known : (r : Record) → is_kind (kind_of r) ≡ true
  pub first : (r : Record) → get_or (bytes_of r) 0 0 ≡ kind_of r
  pub long : (r : Record) → length (bytes_of r) ≡ 1 + body_length (kind_of r)

-- Whatever stands before and after it, a record that was written is read back, and so are records one after another.
pub record ReadsBack : Type 0 where
  pub one : (p : List ℕ) (r : Record) (q : List ℕ) → InWidth r
      → read_at (p ++ bytes_of r ++ q) (length p) ≡ Found r (length p + length (bytes_of r))
  pub all : (p : List ℕ) (rs : List Record) (q : List ℕ) → AllInWidth rs
      → Reads (p ++ bytes_of_all rs ++ q) (length p) rs (length p + length (bytes_of_all rs))

-- Of any bytes: a record that is read stands there as it is written, and so do records that are read one after another.
-- Read to the end, the bytes are those of one list of records only.
pub record WasWritten : Type 0 where
  pub one : (s : List ℕ) (at : ℕ) (r : Record) (next : ℕ) → AreBytes s → read_at s at ≡ Found r next
      → InWidth r × Stands s at (bytes_of r) next
  pub all : (s : List ℕ) (at : ℕ) (rs : List Record) (next : ℕ) → AreBytes s → at ≤ length s → Reads s at rs next
      → AllInWidth rs × Stands s at (bytes_of_all rs) next
  pub only : (s : List ℕ) (at : ℕ) (rs rs' : List Record) (next next' : ℕ)
      → Reads s at rs next → length s ≤ next → Reads s at rs' next' → length s ≤ next' → rs ≡ rs'

-- Every position of every list has one answer, and each answer is given exactly where it means what is there.
pub record AnswersMean : Type 0 where
  pub exactly : (s : List ℕ) (at : ℕ) (x : Reading) → (read_at s at ≡ x) ↔ Means s at x

-- A walk stops exactly where the paper's words say, in every state of every rules that are sound.
pub record WalkExactly {S : Type 0} (R : Rules S) (b : List ℕ) (start : S) : Type 0 where
  pub exactly : (w : Stop S) → (walk R b start ≡ w) ↔ StopsAt R b start w
