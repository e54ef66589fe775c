-- What records say, with one record more.
-- Assumes nothing.
use mathlib.Core.List.{List, [], ◌∷◌, ◌++◌}
use Rattle.records.specs.Gathered.{Gathered, ended, taken, passed_over}
use Rattle.records.specs.declared.Record.{Record}

module _ {A : Type 0} (Says : Record → A → Type 0) (r : Record) where
  pub gathered_more : {rs : List Record} (x : A) {xs : List A} → Says r x → Gathered Says rs xs
      → Gathered Says (rs ++ r ∷ []) (xs ++ x ∷ [])
  gathered_more x w ended = taken w ended
  gathered_more x w (taken v g) = taken v (gathered_more x w g)
  gathered_more x w (passed_over n g) = passed_over n (gathered_more x w g)

  pub gathered_same : {rs : List Record} {xs : List A} → ((x : A) → Says r x → ⊥) → Gathered Says rs xs
      → Gathered Says (rs ++ r ∷ []) xs
  gathered_same n ended = passed_over n ended
  gathered_same n (taken v g) = taken v (gathered_same n g)
  gathered_same n (passed_over m g) = passed_over m (gathered_same n g)
