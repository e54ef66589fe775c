-- Laws of little-endian fields. Each holds for every width at once.
-- In order: the bytes of a number; a number from its bytes and back; a field at a position.
-- Assumes nothing.
use mathlib.Core.Path.{◌≡◌, refl, ap, ◌∙◌}
use mathlib.Core.List.{List, [], ◌∷◌}
use Prim.Native.Nat.{ℕ, zero, suc, ◌+◌, ◌*◌, ◌/◌, ◌%◌, ◌^◌, ◌≤◌, ◌<◌}
use native.Mathlib.Nat.{add-zero, add_assoc, mod-lt, mod-add-div, div-lt_iff_lt-mul, pow-suc, pow-succ'}
use native.Mathlib.Omega.{arith}
use native.Mathlib.Numerals.{add-one}
use lib.Dec.{lit<}
use lib.ListN.{length, get_or, take, drop}
use lib.Seq.{drop-cons, drop-drop, drop-nil, get_or-drop, take-nil}
use Rattle.std.specs.Int.{w32, w64, from_le_bytes, to_le_bytes}
use Rattle.records.specs.Fields.{AreBytes, bytes, value, field}

-- ---- the bytes of a number

pub length_bytes : (w n : ℕ) → length (bytes w n) ≡ w
unfolding bytes
length_bytes zero n = refl
length_bytes (suc w) n = ap suc (length_bytes w (n / 256))

pub bytes_are_bytes : (w n : ℕ) → AreBytes (bytes w n)
unfolding bytes
bytes_are_bytes zero n i = lit< tt
bytes_are_bytes (suc w) n zero = mod-lt n (lit< tt)
bytes_are_bytes (suc w) n (suc i) = bytes_are_bytes w (n / 256) i

-- The lowest byte is written first.
pub bytes_low : (w b v : ℕ) → b < 256 → bytes (suc w) (b + 256 * v) ≡ b ∷ bytes w v
unfolding bytes
bytes_low w b v h =
    let low : (b + 256 * v) % 256 ≡ b = omega arith in
    let high : (b + 256 * v) / 256 ≡ v = omega arith in
    rw (low, high)

-- A number of 32 bits is written as `to_le_bytes` gives it.
pub bytes_four : (n : ℕ) → to_le_bytes w32 n ≡ bytes 4 n
unfolding bytes
bytes_four n =
    let a : n / 65536 ≡ n / 256 / 256 = omega arith in
    let b : n / 16777216 ≡ n / 256 / 256 / 256 = omega arith in
    λ i. n % 256 ∷ n / 256 % 256 ∷ a i % 256 ∷ b i % 256 ∷ []

-- ---- a number from its bytes, and back

pub value_bytes : (w n : ℕ) → n < 256 ^ w → value (bytes w n) ≡ n
unfolding bytes value
value_bytes zero n h = omega arith
value_bytes (suc w) n h =
    let less : n / 256 < 256 ^ w = (div-lt_iff_lt-mul (lit< tt)).1 (rw pow-suc at h) in
    rw (value_bytes w (n / 256) less) (mod-add-div n 256)

pub bytes_value : (bs : List ℕ) → AreBytes bs → bytes (length bs) (value bs) ≡ bs
unfolding bytes value
bytes_value [] h = refl
bytes_value (b ∷ bs) h =
    bytes_low (length bs) b (value bs) (h 0) ∙ ap (λ (l : List ℕ). b ∷ l) (bytes_value bs (λ i. h (suc i)))

pub value_below : (bs : List ℕ) → AreBytes bs → value bs < 256 ^ length bs
unfolding value
value_below [] h = lit< tt
value_below (b ∷ bs) h = omega (arith, h 0, value_below bs (λ i. h (suc i)), pow-succ' 256 (length bs))

-- ---- a field at a position

pub bytes_drop : (s : List ℕ) (n : ℕ) → AreBytes s → AreBytes (drop n s)
bytes_drop s n h i = rw get_or-drop (h (n + i))

-- One byte more: the lowest of a field, then the field after it. Past the end a byte counts 0.
pub field_suc : (w : ℕ) (s : List ℕ) (at : ℕ) → field (suc w) s at ≡ get_or s at 0 + 256 * field w s (at + 1)
unfolding field value
field_suc w [] at = simp (drop-nil, take-nil)
field_suc w (b ∷ s) zero = refl
field_suc w (b ∷ s) (suc at) = rw add-one (rw add-one at (field_suc w s at))

pub field_one : (s : List ℕ) (at : ℕ) → field 1 s at ≡ get_or s at 0
unfolding field value
field_one s at = field_suc 0 s at ∙ add-zero (get_or s at 0)

pub field_four : (s : List ℕ) (at : ℕ) {n : ℕ}
    → n ≡ from_le_bytes w32 (get_or s at 0 ∷ get_or s (at + 1) 0 ∷ get_or s (at + 2) 0 ∷ get_or s (at + 3) 0 ∷ [])
    → n ≡ field 4 s at
field_four s at e = simp (field_suc 3, field_suc 2, field_suc 1, field_one, add_assoc) (omega (arith, e))

pub field_eight : (s : List ℕ) (at : ℕ) {n : ℕ}
    → n ≡ from_le_bytes w64
    (get_or s at 0 ∷ get_or s (at + 1) 0 ∷ get_or s (at + 2) 0 ∷ get_or s (at + 3) 0
    ∷ get_or s (at + 4) 0 ∷ get_or s (at + 5) 0 ∷ get_or s (at + 6) 0 ∷ get_or s (at + 7) 0 ∷ [])
    → n ≡ field 8 s at
field_eight s at e =
    simp (
      field_suc 7,
      field_suc 6,
      field_suc 5,
      field_suc 4,
      field_suc 3,
      field_suc 2,
      field_suc 1,
      field_one,
      add_assoc,
    )
    (omega (arith, e))

-- A field of the bytes from position b on is a field of all of them.
pub field_drop : (w : ℕ) (s : List ℕ) (b j : ℕ) → field w (drop b s) j ≡ field w s (b + j)
unfolding field
field_drop w s b j = rw drop-drop

pub field_below : (w : ℕ) (s : List ℕ) (at : ℕ) → AreBytes s → field w s at < 256 ^ w
unfolding field value
field_below zero s at h = lit< tt
field_below (suc w) s at h = rw field_suc (omega (arith, h at, field_below w s (at + 1) h, pow-succ' 256 w))

-- What is read as a field is written as the bytes that stood there.
pub bytes_field : (w : ℕ) (s : List ℕ) (at : ℕ) → AreBytes s → at + w ≤ length s
    → bytes w (field w s at) ≡ take w (drop at s)
unfolding bytes
bytes_field zero s at h fits = refl
bytes_field (suc w) s at h fits =
    let inside : at < length s = omega arith in
    let tail : bytes w (field w s (at + 1)) ≡ take w (drop (at + 1) s) = bytes_field w s (at + 1) h (omega arith) in
    rw (field_suc, drop-cons s at 0, ← add-one at, ← tail)
    (bytes_low w (get_or s at 0) (field w s (at + 1)) (h at))
