-- Walking the records of some bytes, one after another, as a book and a query are read: "Then the earliest faulty
-- record".
-- In order: the rules of a walk, walking computed; then in the paper's words accepted records, a faulty record, where a
-- walk stops. That walking computes exactly this is a theorem (`Statements`).
-- Assumes nothing.
use Rattle.std.specs.Prelude.{◌≡◌, Bool, true, false, List, [], ◌∷◌, ◌++◌, ℕ, zero, suc, ◌≤◌, ◌<◌, eqb, length, get_or}
use Rattle.records.specs.Records.{is_kind, kind_of, allowed_to}
use Rattle.records.specs.Reader.{read_at, CutShort, Whole}
use Rattle.records.specs.declared.Owner.{Owner}
use Rattle.records.specs.declared.Reading.{Reading}
use Rattle.records.specs.declared.Record.{Record}
use Rattle.records.specs.declared.Reading.TheVariants.{Nothing, Unknown, Short, Found}

-- ---- the rules of a walk

-- The state says what was accepted so far: "A record uses only what stands before it."
pub record Rules (S : Type 0) : Type 0 where
  -- the kinds that may stand
  pub allowed : ℕ → Bool
  -- the number of a record's fault, 0 where it has none
  pub fault : S → Record → ℕ
  -- the state with a record that stands at a position
  pub taken : S → Record → ℕ → S
  -- whether a record is the last one read, whatever stands behind it
  pub is_last : Record → Bool
  -- the number where the bytes end and no record was the last
  pub unended : ℕ

-- a kind that is none may not stand, and "kind not allowed 2" comes first
pub record Sound {S : Type 0} (R : Rules S) : Type 0 where
  pub known : (k : ℕ) → is_kind k ≡ false → R.allowed k ≡ false
  pub others : (s : S) (r : Record) → R.allowed (kind_of r) ≡ false → R.fault s r ≡ 2

-- where a walk stops: its number, the state of what was accepted, the position behind that
pub record Stop (S : Type 0) : Type 0 where
  pub number : ℕ
  pub state : S
  pub at : ℕ

-- ---- walking computed

-- "kind not allowed 2; body cut short 3" of a body that is cut short
unfoldable pub short_number : (ℕ → Bool) → ℕ → ℕ
short_number allowed k = elim (allowed k) [ true ↦ 3 | false ↦ 2 ]

-- of what stands where no whole record does: 0 at the end
unfoldable pub unread_number : Owner → Reading → ℕ
unread_number owner Nothing = 0
unread_number owner Unknown = 2
unread_number owner (Short k) = short_number (allowed_to owner) k
unread_number owner (Found r next) = 0

-- from position at on, in a state. Each record is a byte or more, so there are at most n where n bytes are left
unfoldable pub walk_from : {S : Type 0} → Rules S → ℕ → List ℕ → ℕ → S → Stop S
walk_from R zero b at s = record { number = R.unended; state = s; at = at }
walk_from R (suc n) b at s =
    elim (read_at b at) [
      | Nothing ↦ record { number = R.unended; state = s; at = at }
      | Unknown ↦ record { number = 2; state = s; at = at }
      | Short k ↦ record { number = short_number R.allowed k; state = s; at = at }
      | Found r next ↦ elim (eqb (R.fault s r) 0) [
        | true ↦ elim (R.is_last r) [
          | true ↦ record { number = 0; state = R.taken s r at; at = next }
          | false ↦ walk_from R n b next (R.taken s r at)
        ]
        | false ↦ record { number = R.fault s r; state = s; at = at }
      ]
    ]

-- from the start on
unfoldable pub walk : {S : Type 0} → Rules S → List ℕ → S → Stop S
walk R b start = walk_from R (suc (length b)) b 0 start

-- ---- accepted records

-- the records rs were read one after another from the start of b; none was faulty in the state that those before it
-- made, and none was the last. s is the state that they make, at the position behind them
pub data Accepted {S : Type 0} (R : Rules S) (b : List ℕ) (start : S) : List Record → S → ℕ → Type 0 where
  none : Accepted R b start [] start 0
  one : {rs : List Record} {s : S} {at : ℕ} {r : Record} {next : ℕ} → Accepted R b start rs s at
      → read_at b at ≡ Found r next → R.fault s r ≡ 0 → R.is_last r ≡ false
      → Accepted R b start (rs ++ r ∷ []) (R.taken s r at) next

-- ---- a faulty record: what stands at a position has the fault n

pub data Faulty (allowed : ℕ → Bool) (fault : Record → ℕ) (b : List ℕ) (at : ℕ) : ℕ → Type 0 where
  -- "kind not allowed 2": a byte stands there that is no kind that may stand, whatever follows it
  not_allowed : at < length b → allowed (get_or b at 0) ≡ false → Faulty allowed fault b at 2
  -- "body cut short 3"
  cut_short : {k : ℕ} → allowed k ≡ true → CutShort b at k → Faulty allowed fault b at 3
  -- a whole record of a kind that may stand
  wrong : {r : Record} {next n : ℕ} → Whole b at r next → allowed (kind_of r) ≡ true → fault r ≡ n → (n ≡ 0 → ⊥)
      → Faulty allowed fault b at n

-- ---- where a walk stops, behind accepted records

pub data StopsAt {S : Type 0} (R : Rules S) (b : List ℕ) (start : S) : Stop S → Type 0 where
  -- at "the earliest faulty record"
  faulty : {rs : List Record} {s : S} {at n : ℕ} → Accepted R b start rs s at → Faulty R.allowed (R.fault s) b at n
      → StopsAt R b start (record { number = n; state = s; at = at })
  -- at the end of the bytes
  at_end : {rs : List Record} {s : S} {at : ℕ} → Accepted R b start rs s at → length b ≤ at
      → StopsAt R b start (record { number = R.unended; state = s; at = at })
  -- behind the last record
  at_last : {rs : List Record} {s : S} {at : ℕ} {r : Record} {next : ℕ} → Accepted R b start rs s at
      → read_at b at ≡ Found r next → R.fault s r ≡ 0 → R.is_last r ≡ true
      → StopsAt R b start (record { number = 0; state = R.taken s r at; at = next })
