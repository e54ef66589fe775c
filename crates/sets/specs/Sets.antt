-- Sets of attributes and of objects as masks: "A *set* is 32 bits; bit k stands for attribute or object k."
-- A set is a number, of any width: a width w stands only where members are counted or listed, as the members below w.
-- In order: how many attributes and objects, membership, containment, intersection, union, difference, one member more
-- and one less, emptiness, rank and count, the lowest member, the list of members, the numbers that pass a test. Not here:
-- which sets a book may have (`scheme`, `book`).
-- Assumes nothing.
use Rattle.std.specs.Prelude.{◌≡◌, Bool, true, false, not, ◌&&◌, ◌||◌, List, [], ◌∷◌, ◌++◌, ℕ, zero, suc, ◌+◌, ◌/◌, ◌%◌, ◌^◌, eqb}
use Rattle.std.specs.Int.Bits.{bit_and, bit_or, bit_xor}
use Rattle.std.specs.Int.Count.{count_trailing_zeros}

infixl 70 ◌∩◌
infixl 65 ◌∪◌ ◌∖◌
infix 50 ◌∈◌ ◌∉◌ ◌⊆◌
-- ---- how many attributes and objects

-- "A *set* is 32 bits; bit k stands for attribute or object k"; request 9: "Object numbers run to 63 in kinds 2 and 4, and
-- every held set of objects grows to 64 bits", "Attributes remain 32": numbered from 0 on, at most so many of each
abbrev pub ATTRIBUTES : ℕ
ATTRIBUTES = 32

abbrev pub OBJECTS : ℕ
OBJECTS = 64

-- ---- membership

-- the bit of s at place k: 1 or 0
unfoldable pub bit : ℕ → ℕ → ℕ
bit s k = s / 2 ^ k % 2

-- "bit k stands for attribute or object k": k is a member of s, or it is none. These are records, so that k and s can
-- be inferred from a hypothesis
pub record ◌∈◌ (k s : ℕ) : Type 0 where
  pub is_one : bit s k ≡ 1

pub record ◌∉◌ (k s : ℕ) : Type 0 where
  pub is_zero : bit s k ≡ 0

-- the test of membership
unfoldable pub has : ℕ → ℕ → Bool
has s k = eqb (bit s k) 1

-- ---- containment

-- every member of s is a member of t
pub record ◌⊆◌ (s t : ℕ) : Type 0 where
  pub each : {k : ℕ} → k ∈ s → k ∈ t

-- the test of containment, by arithmetic on the whole set: what s and t share is s
unfoldable pub within : ℕ → ℕ → Bool
within s t = eqb (bit_and s t) s

-- the plain form of the test, which asks attribute by attribute: each below w that s has, t has
unfoldable pub within_each : ℕ → ℕ → ℕ → Bool
within_each zero s t = true
within_each (suc w) s t = (not (has s w) || has t w) && within_each w s t

-- ---- sets made of sets

-- the members of both
unfoldable pub ◌∩◌ : ℕ → ℕ → ℕ
s ∩ t = bit_and s t

-- the members of either
unfoldable pub ◌∪◌ : ℕ → ℕ → ℕ
s ∪ t = bit_or s t

-- the members of s that are none of t: s with what the two share turned off
unfoldable pub ◌∖◌ : ℕ → ℕ → ℕ
s ∖ t = bit_xor s (bit_and s t)

-- the set whose one member is k
unfoldable pub single : ℕ → ℕ
single k = 2 ^ k

-- s with k as a member, and s without it
abbrev pub insert : ℕ → ℕ → ℕ
insert s k = s ∪ single k

abbrev pub remove : ℕ → ℕ → ℕ
remove s k = s ∖ single k

-- the test of the set with no member, which is 0
unfoldable pub is_empty : ℕ → Bool
is_empty s = eqb s 0

-- ---- rank, count, lowest member, list of members

-- how many members of s lie below k; of a member k, the place of its cell in a row: "A row's cells follow ascending
-- attribute id"
unfoldable pub rank : ℕ → ℕ → ℕ
rank s zero = 0
rank s (suc k) = rank s k + bit s k

-- how many members s has below w: all of them where s is a set of w bits
abbrev pub count : ℕ → ℕ → ℕ
count w s = rank s w

-- the lowest member of s below w, or w where it has none there: the digits of s below its lowest one, w at most
unfoldable pub lowest : ℕ → ℕ → ℕ
lowest w s = count_trailing_zeros w s

-- k alone where the test passed, else nothing
abbrev pub kept : Bool → ℕ → List ℕ
kept true k = k ∷ []
kept false k = []

-- the members of s below w, ascending
unfoldable pub members : ℕ → ℕ → List ℕ
members zero s = []
members (suc w) s = members w s ++ kept (has s w) w

-- ---- the numbers below k that pass a test, as a set

unfoldable pub those : (ℕ → Bool) → ℕ → ℕ
those test zero = 0
those test (suc k) = elim (test k) [ true ↦ insert (those test k) k | false ↦ those test k ]
