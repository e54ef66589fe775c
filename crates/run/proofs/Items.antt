-- The value kinds of the items of a query over the bytes of a book: which there are.
-- Assumes nothing.
use mathlib.Core.Path.{◌≡◌}
use mathlib.Core.Logic.{◌⊎◌, inl, inr}
use mathlib.Core.List.{List, []}
use Prim.Native.Nat.{ℕ}
use borrow.Author.Tests.{eq-eqb, ne_eqb}
use Rattle.sets.proofs.Numbers.{eq_or_ne}
use Rattle.book.specs.Reading.{read}
use Rattle.connection.specs.Answering.{query_read}
use Rattle.run.specs.Running.{kinds_of}
use Rattle.run.specs.Items.{item_kinds_of}

module _ (b q : List ℕ) where
  pub none_of_book : ((read b).number ≡ 0 → ⊥) → item_kinds_of b q ≡ []
  unfolding item_kinds_of
  none_of_book d = rw (item_kinds_of, ne_eqb (read b).number 0 d)

  pub none_of_query : ((query_read (read b) q).number ≡ 0 → ⊥) → item_kinds_of b q ≡ []
  unfolding item_kinds_of
  none_of_query d = choose (eq_or_ne (read b).number 0)
    where
      choose : ((read b).number ≡ 0) ⊎ ((read b).number ≡ 0 → ⊥) → item_kinds_of b q ≡ []
      choose (inl z) =
          rw (item_kinds_of, eq-eqb (read b).number 0 z, ne_eqb (query_read (read b) q).number 0 d)
      choose (inr f) = none_of_book f

  pub those_of_items : (read b).number ≡ 0 → (query_read (read b) q).number ≡ 0 → item_kinds_of b q ≡ kinds_of b q
  unfolding item_kinds_of
  those_of_items z y =
      rw (item_kinds_of, eq-eqb (read b).number 0 z, eq-eqb (query_read (read b) q).number 0 y)
