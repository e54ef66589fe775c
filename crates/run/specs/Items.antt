-- The value kinds of the items of a query over a book, as the code has them.
-- In order: a book that was read, the bytes of a book.
-- Assumes nothing.
use Rattle.std.specs.Prelude.{◌≡◌, true, false, List, [], ℕ, ◌≤◌, eqb, length, take}
use Rattle.book.specs.declared.Book.{Book}
use Rattle.book.specs.Reading.{read, book_of}
use Rattle.query.specs.declared.Asked.{Asked}
use Rattle.query.specs.Asking.{Asking}
use Rattle.connection.specs.Answers.{item_kinds}
use Rattle.connection.specs.Answering.{query_read}
use Rattle.answer.specs.Asked.{AskedBy, Askable}
use Rattle.run.specs.declared.ItemKinds.{ItemKinds}
use Rattle.run.specs.Running.{kinds_of}

-- ---- a book that was read

-- the book is what reading some bytes gave, and a good query can ask this
pub record GoodAsked (book : Book) (asked : Asked) : Type 0 where
  pub bytes : List ℕ
  pub is_read : book ≡ book_of (read bytes)
  pub askable : Askable asked

-- the kinds are those of the items, whatever bytes the book was read from and whatever the code has this of
pub record KindsOf (book : Book) (asked : Asked) (k : ItemKinds) : Type 0 where
  pub long : length k.kinds ≡ 8
  pub few : k.items ≤ 8
  pub each : (b : List ℕ) (q : Asking) → book ≡ book_of (read b) → AskedBy asked q
      → take k.items k.kinds ≡ item_kinds (read b) q

-- ---- the bytes of a book

-- no items
abbrev pub NoKinds : ItemKinds → Type 0
NoKinds k = (k.items ≡ 0) × (length k.kinds ≡ 8)

-- none where the book or the query is refused for itself
unfoldable pub item_kinds_of : List ℕ → List ℕ → List ℕ
item_kinds_of b q =
    elim (eqb (read b).number 0) [
      | true ↦ elim (eqb (query_read (read b) q).number 0) [ true ↦ kinds_of b q | false ↦ [] ]
      | false ↦ []
    ]

pub record ItemKindsOf (b q : List ℕ) (k : ItemKinds) : Type 0 where
  pub long : length k.kinds ≡ 8
  pub few : k.items ≤ 8
  pub are : take k.items k.kinds ≡ item_kinds_of b q
