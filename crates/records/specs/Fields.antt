-- Little-endian fields of bytes: "Multi-byte fields are little-endian."
-- In order: bytes, the bytes of a number, the number of bytes, the field at a position.
-- Assumes nothing.
use Rattle.std.specs.Prelude.{List, [], ◌∷◌, ℕ, zero, suc, ◌+◌, ◌*◌, ◌/◌, ◌%◌, ◌<◌, get_or, take, drop}

-- Every element of s is a byte. (Past the end `get_or` gives 0.)
abbrev pub AreBytes : List ℕ → Type 0
AreBytes s = (i : ℕ) → get_or s i 0 < 256

-- "Multi-byte fields are little-endian": n in w bytes, the lowest first.
unfoldable pub bytes : ℕ → ℕ → List ℕ
bytes zero n = []
bytes (suc w) n = n % 256 ∷ bytes w (n / 256)

-- The number that bytes are, the lowest first.
unfoldable pub value : List ℕ → ℕ
value [] = 0
value (b ∷ bs) = b + 256 * value bs

-- The field of w bytes that starts at a position of s.
unfoldable pub field : ℕ → List ℕ → ℕ → ℕ
field w s at = value (take w (drop at s))
