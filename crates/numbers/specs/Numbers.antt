-- A test as a number, and the test of a list for being empty.
-- Assumes nothing.
use Rattle.std.specs.Prelude.{Bool, true, false, List, [], ◌∷◌, ℕ}

-- 1 or 0
unfoldable pub toℕ : Bool → ℕ
toℕ true = 1
toℕ false = 0

-- whether a list is empty
unfoldable pub is_nil : {A : Type 0} → List A → Bool
is_nil [] = true
is_nil (x ∷ l) = false
