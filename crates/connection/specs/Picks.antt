-- Picks: one element of each of some lists, in a fixed order.
-- In order: all picks, the product of numbers, which of two picks is first.
-- Assumes nothing.
use Rattle.std.specs.Prelude.{List, [], ◌∷◌, ◌++◌, map, ℕ, ◌*◌}

-- ---- all picks

-- each element in front of each of some lists
unfoldable pub in_front : {A : Type 0} → List A → List (List A) → List (List A)
in_front [] ls = []
in_front (x ∷ xs) ls = map (λ l. x ∷ l) ls ++ in_front xs ls

-- one element of each list, the last list changing fastest: the first element of the first list in front of each pick
-- of the others, then its second element in front of each, and so on
unfoldable pub picks_of : {A : Type 0} → List (List A) → List (List A)
picks_of [] = [] ∷ []
picks_of (l ∷ ls) = in_front l (picks_of ls)

-- ---- the product of numbers

unfoldable pub product : List ℕ → ℕ
product [] = 1
product (n ∷ ns) = n * product ns

-- ---- which of two picks is first

-- one element for each of some things, those for thing i in the order R i: the first thing with different elements
-- decides
pub data Before {I A : Type 0} (R : I → A → A → Type 0) : List I → List A → List A → Type 0 where
  first : {i : I} {is : List I} {x y : A} {p q : List A} → R i x y → Before R (i ∷ is) (x ∷ p) (y ∷ q)
  next : {i : I} {is : List I} {x : A} {p q : List A} → Before R is p q → Before R (i ∷ is) (x ∷ p) (x ∷ q)
