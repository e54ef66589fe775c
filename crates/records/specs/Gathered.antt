-- What the records of one kind say, by their fields alone: in their order, all of them and no other.
-- Assumes nothing.
use Rattle.std.specs.Prelude.{List, [], ◌∷◌}
use Rattle.records.specs.declared.Record.{Record}

-- xs is what some of the records say, in their order: each record that says something gives one of xs, and each other
-- none
pub data Gathered {A : Type 0} (Says : Record → A → Type 0) : List Record → List A → Type 0 where
  ended : Gathered Says [] []
  taken : {r : Record} {rs : List Record} {x : A} {xs : List A} → Says r x → Gathered Says rs xs
      → Gathered Says (r ∷ rs) (x ∷ xs)
  passed_over : {r : Record} {rs : List Record} {xs : List A} → ((x : A) → Says r x → ⊥) → Gathered Says rs xs
      → Gathered Says (r ∷ rs) xs
