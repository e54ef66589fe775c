-- Laws of kinds and of the bytes of a record.
-- In order: kinds; a record's kind byte and body; whose record it is, and rows; the body of a record that was written,
-- and a body written again; each record at its place.
-- Assumes nothing.
use mathlib.Core.Path.{◌≡◌, refl, sym, ap, ◌∙◌}
use mathlib.Core.Bool.{true, false, not, false≢true}
use mathlib.Core.Logic.{◌⊎◌, inl, inr}
use mathlib.Core.List.{List, [], ◌∷◌, ◌++◌}
use Prim.Native.Nat.{ℕ, ◌+◌, ◌*◌, ◌≤◌, ◌<◌}
use native.Mathlib.Nat.{add-zero}
use native.Mathlib.Omega.{arith}
use borrow.Author.Tests.{leb-true, eqb-true}
use lib.Dec.{eqb, leb}
use lib.ListN.{length, take, drop, get_or, get_or-eq_default}
use lib.Seq.{take-add}
use Rattle.std.specs.Int.{w32, to_le_bytes}
use Rattle.sets.proofs.Numbers.{lt_or_le, each_below}
use Rattle.records.specs.Fields.{AreBytes, bytes, field}
use Rattle.records.specs.Records.{kinds, whose, is_kind, of_book, of_query, body_length, kind_of, masks_of, bytes_of}
use Rattle.records.specs.Records.{Small, Wide, InWidth}
use Rattle.records.specs.Reader.{bodies, record_of}
use Rattle.records.specs.declared.Record.{Record}
use Rattle.records.specs.declared.BookRecord.{BookRecord}
use Rattle.records.specs.declared.QueryRecord.{QueryRecord}
use Rattle.records.specs.declared.Record.TheVariants.{OfBook, OfQuery}
use Rattle.records.specs.declared.BookRecord.TheVariants.{Attribute, Object, Dependency, Row, Declared}
use Rattle.records.specs.declared.BookRecord.TheVariants.{Removed, ComparisonTable, OnlyDeclared}
use Rattle.records.specs.declared.BookRecord.TheVariants.{DeclaredWide}
use Rattle.records.specs.declared.QueryRecord.TheVariants.{Item, CompareTwo, CompareConstant, End}
use Rattle.records.proofs.Fields.{bytes_four, value_bytes, bytes_field, field_drop, field_below}

-- ---- kinds

-- past the table there is none
pub whose_past : (k : ℕ) → 16 ≤ k → whose k ≡ 0
unfolding whose kinds
whose_past k h = let past : 32 ≤ k * 2 = omega (arith, h) in get_or-eq_default kinds 0 past

pub body_length_past : (k : ℕ) → 16 ≤ k → body_length k ≡ 0
unfolding body_length kinds
body_length_past k h = let past : 32 ≤ k * 2 + 1 = omega (arith, h) in get_or-eq_default kinds 0 past

-- the kinds of a book, those of a query, and the numbers between them that are no kind
pub whose_low : (k : ℕ) → 1 ≤ k → k < 7 → whose k ≡ 1
unfolding whose kinds
whose_low k l h =
    each_below (λ j. 1 ≤ j → whose j ≡ 1) 7
    ((λ h. absurd (omega arith)), ((λ h. refl), ((λ h. refl), ((λ h. refl), ((λ h. refl), ((λ h. refl), ((λ h. refl), tt))))))) k h l

pub whose_query : (k : ℕ) → 7 ≤ k → k < 11 → whose k ≡ 2
unfolding whose kinds
whose_query k l h =
    each_below (λ j. 7 ≤ j → whose j ≡ 2) 11
    ((λ h. absurd (omega arith)), ((λ h. absurd (omega arith)), ((λ h. absurd (omega arith)), ((λ h. absurd (omega arith)), ((λ h. absurd (omega arith)), ((λ h. absurd (omega arith)), ((λ h. absurd (omega arith)), ((λ h. refl), ((λ h. refl), ((λ h. refl), ((λ h. refl), tt))))))))))) k h l

pub whose_high : (k : ℕ) → 13 ≤ k → k < 16 → whose k ≡ 1
unfolding whose kinds
whose_high k l h =
    each_below (λ j. 13 ≤ j → whose j ≡ 1) 16
    ((λ h. absurd (omega arith)), ((λ h. absurd (omega arith)), ((λ h. absurd (omega arith)), ((λ h. absurd (omega arith)), ((λ h. absurd (omega arith)), ((λ h. absurd (omega arith)), ((λ h. absurd (omega arith)), ((λ h. absurd (omega arith)), ((λ h. absurd (omega arith)), ((λ h. absurd (omega arith)), ((λ h. absurd (omega arith)), ((λ h. absurd (omega arith)), ((λ h. absurd (omega arith)), ((λ h. refl), ((λ h. refl), ((λ h. refl), tt)))))))))))))))) k h l

pub whose_between : (k : ℕ) → 11 ≤ k → k < 13 → whose k ≡ 0
unfolding whose kinds
whose_between k l h =
    each_below (λ j. 11 ≤ j → whose j ≡ 0) 13
    ((λ h. absurd (omega arith)), ((λ h. absurd (omega arith)), ((λ h. absurd (omega arith)), ((λ h. absurd (omega arith)), ((λ h. absurd (omega arith)), ((λ h. absurd (omega arith)), ((λ h. absurd (omega arith)), ((λ h. absurd (omega arith)), ((λ h. absurd (omega arith)), ((λ h. absurd (omega arith)), ((λ h. absurd (omega arith)), ((λ h. refl), ((λ h. refl), tt))))))))))))) k h l

pub whose_first : (k : ℕ) → k < 1 → whose k ≡ 0
unfolding whose kinds
whose_first k h = each_below (λ j. whose j ≡ 0) 1 (refl, tt) k h

-- the other numbers have no body
pub bodiless : (k : ℕ) → (k ≡ 1 → ⊥) → (k ≡ 2 → ⊥) → (k ≡ 3 → ⊥) → (k ≡ 4 → ⊥) → (k ≡ 5 → ⊥) → (k ≡ 6 → ⊥) → (k ≡ 7 → ⊥)
    → (k ≡ 8 → ⊥) → (k ≡ 9 → ⊥) → (k ≡ 13 → ⊥) → (k ≡ 15 → ⊥) → 0 ≡ body_length k
unfolding body_length kinds
bodiless k a b c d e f g h i j l = choose (lt_or_le k 16)
  where
    choose : (k < 16) ⊎ (16 ≤ k) → 0 ≡ body_length k
    choose (inr past) = sym (body_length_past k past)
    choose (inl below) =
        each_below (λ n. k ≡ n → 0 ≡ body_length n) 16
        ((λ p. refl), ((λ p. absurd (a p)), ((λ p. absurd (b p)), ((λ p. absurd (c p)), ((λ p. absurd (d p)), ((λ p. absurd (e p)), ((λ p. absurd (f p)), ((λ p. absurd (g p)), ((λ p. absurd (h p)), ((λ p. absurd (i p)), ((λ p. refl), ((λ p. refl), ((λ p. refl), ((λ p. absurd (j p)), ((λ p. refl), ((λ p. absurd (l p)), tt)))))))))))))))) k below refl

no_kind_past : (k : ℕ) → 16 ≤ k → is_kind k ≡ false
unfolding is_kind
no_kind_past k h = ap (λ (w : ℕ). not (eqb w 0)) (whose_past k h)

-- What holds of each kind of the table holds of every kind.
pub by_kind : (P : ℕ → Type 0) → P 1 → P 2 → P 3 → P 4 → P 5 → P 6 → P 7 → P 8 → P 9 → P 10 → P 13 → P 14 → P 15
    → (k : ℕ) → is_kind k ≡ true → P k
unfolding is_kind whose kinds
by_kind P a b c d e f g h i j m l n k kind = choose (lt_or_le k 16)
  where
    choose : (k < 16) ⊎ (16 ≤ k) → P k
    choose (inr past) = absurd (false≢true (sym (no_kind_past k past) ∙ kind))
    choose (inl below) =
        each_below (λ k. is_kind k ≡ true → P k) 16 (
          (λ y. absurd (false≢true y)),
          (
            (λ y. a),
            (
              (λ y. b),
              (
                (λ y. c),
                (
                  (λ y. d),
                  (
                    (λ y. e),
                    (
                      (λ y. f),
                      (
                        (λ y. g),
                        (
                          (λ y. h),
                          (
                            (λ y. i),
                            (
                              (λ y. j),
                              (
                                (λ y. absurd (false≢true y)),
                                ((λ y. absurd (false≢true y)), ((λ y. m), ((λ y. l), ((λ y. n), tt)))),
                              ),
                            ),
                          ),
                        ),
                      ),
                    ),
                  ),
                ),
              ),
            ),
          ),
        )
        k below kind

-- a kind of a book, and of a query
pub book_kind : (k : ℕ) → of_book k ≡ true → is_kind k ≡ true
unfolding of_book is_kind
book_kind k y = ap (λ (w : ℕ). not (eqb w 0)) (eqb-true (whose k) 1 y)

pub query_kind : (k : ℕ) → of_query k ≡ true → is_kind k ≡ true
unfolding of_query is_kind
query_kind k y = ap (λ (w : ℕ). not (eqb w 0)) (eqb-true (whose k) 2 y)

pub by_book : (P : ℕ → Type 0) → P 1 → P 2 → P 3 → P 4 → P 5 → P 6 → P 13 → P 14 → P 15 → (k : ℕ) → of_book k ≡ true → P k
unfolding of_book whose kinds
by_book P a b c d e f m l n k y =
    by_kind (λ k. of_book k ≡ true → P k) (λ y. a) (λ y. b) (λ y. c) (λ y. d) (λ y. e) (λ y. f)
    (λ y. absurd (false≢true y)) (λ y. absurd (false≢true y)) (λ y. absurd (false≢true y)) (λ y. absurd (false≢true y))
    (λ y. m) (λ y. l) (λ y. n) k (book_kind k y) y

pub by_query : (P : ℕ → Type 0) → P 7 → P 8 → P 9 → P 10 → (k : ℕ) → of_query k ≡ true → P k
unfolding of_query whose kinds
by_query P a b c d k y =
    by_kind (λ k. of_query k ≡ true → P k) (λ y. absurd (false≢true y)) (λ y. absurd (false≢true y))
    (λ y. absurd (false≢true y)) (λ y. absurd (false≢true y)) (λ y. absurd (false≢true y)) (λ y. absurd (false≢true y))
    (λ y. a) (λ y. b) (λ y. c) (λ y. d) (λ y. absurd (false≢true y)) (λ y. absurd (false≢true y))
    (λ y. absurd (false≢true y)) k (query_kind k y) y

-- a kind that is none of a book's is a query's
pub other_kind : (k : ℕ) → is_kind k ≡ true → of_book k ≡ false → of_query k ≡ true
unfolding of_book of_query whose kinds
other_kind =
    by_kind (λ k. of_book k ≡ false → of_query k ≡ true) (λ n. absurd (false≢true (sym n)))
    (λ n. absurd (false≢true (sym n))) (λ n. absurd (false≢true (sym n)))
    (λ n. absurd (false≢true (sym n))) (λ n. absurd (false≢true (sym n)))
    (λ n. absurd (false≢true (sym n))) (λ n. refl) (λ n. refl) (λ n. refl) (λ n. refl)
    (λ n. absurd (false≢true (sym n))) (λ n. absurd (false≢true (sym n))) (λ n. absurd (false≢true (sym n)))

-- the last kind of a book in the order of the code
pub last_of_book : (k : ℕ) → of_book k ≡ true → (k ≡ 1 → ⊥) → (k ≡ 2 → ⊥) → (k ≡ 3 → ⊥) → (k ≡ 4 → ⊥) → (k ≡ 5 → ⊥)
    → (k ≡ 6 → ⊥) → (k ≡ 13 → ⊥) → (k ≡ 14 → ⊥) → k ≡ 15
last_of_book k y a b c d e f m l =
    by_book (λ j. k ≡ j → k ≡ 15) (λ p. absurd (a p)) (λ p. absurd (b p)) (λ p. absurd (c p)) (λ p. absurd (d p))
    (λ p. absurd (e p)) (λ p. absurd (f p)) (λ p. absurd (m p)) (λ p. absurd (l p)) (λ p. p) k y refl

pub last_of_query : (k : ℕ) → of_query k ≡ true → (k ≡ 7 → ⊥) → (k ≡ 8 → ⊥) → (k ≡ 9 → ⊥) → k ≡ 10
last_of_query =
    by_query (λ k. (k ≡ 7 → ⊥) → (k ≡ 8 → ⊥) → (k ≡ 9 → ⊥) → k ≡ 10) (λ a b c. absurd (a refl))
    (λ a b c. absurd (b refl)) (λ a b c. absurd (c refl)) (λ a b c. refl)

-- ---- a record's kind byte and body

-- A record's bytes are its kind, which is one of the table, and a body as long as the kind says.
pub record Shape (r : Record) : Type 0 where
  pub kind : is_kind (kind_of r) ≡ true
  pub split : bytes_of r ≡ kind_of r ∷ drop 1 (bytes_of r)
  pub body : length (drop 1 (bytes_of r)) ≡ body_length (kind_of r)

pub shape : (r : Record) → Shape r
unfolding is_kind body_length whose kinds kind_of bytes_of bytes
shape (OfBook (Attribute id kind)) = record { kind = refl; split = refl; body = refl }
shape (OfBook (Object number set)) = record { kind = refl; split = refl; body = refl }
shape (OfBook (Dependency left right)) = record { kind = refl; split = refl; body = refl }
shape (OfBook (Row object c0 c1 c2 c3 c4 c5)) = record { kind = refl; split = refl; body = refl }
shape (OfBook (Declared set)) = record { kind = refl; split = refl; body = refl }
shape (OfBook (Removed set)) = record { kind = refl; split = refl; body = refl }
shape (OfBook (ComparisonTable names lengths angles dates)) = record { kind = refl; split = refl; body = refl }
shape (OfBook OnlyDeclared) = record { kind = refl; split = refl; body = refl }
shape (OfBook (DeclaredWide set)) = record { kind = refl; split = refl; body = refl }
shape (OfQuery (Item variable attribute)) = record { kind = refl; split = refl; body = refl }
shape (OfQuery (CompareTwo variable attribute operator variable2 attribute2)) =
    record { kind = refl; split = refl; body = refl }
shape (OfQuery (CompareConstant variable attribute operator cell)) = record { kind = refl; split = refl; body = refl }
shape (OfQuery End) = record { kind = refl; split = refl; body = refl }

pub length_bytes_of : (r : Record) → length (bytes_of r) ≡ 1 + body_length (kind_of r)
length_bytes_of r = ap length (shape r).split ∙ omega (arith, (shape r).body)

-- ---- whose record it is, and rows

pub of_book_kind : (r : BookRecord) → of_book (kind_of (OfBook r)) ≡ true
unfolding kind_of of_book whose kinds
of_book_kind (Attribute id kind) = refl
of_book_kind (Object number set) = refl
of_book_kind (Dependency left right) = refl
of_book_kind (Row object c0 c1 c2 c3 c4 c5) = refl
of_book_kind (Declared set) = refl
of_book_kind (Removed set) = refl
of_book_kind (ComparisonTable names lengths angles dates) = refl
of_book_kind OnlyDeclared = refl
of_book_kind (DeclaredWide set) = refl

pub of_query_kind : (r : QueryRecord) → of_query (kind_of (OfQuery r)) ≡ true
unfolding kind_of of_query whose kinds
of_query_kind (Item variable attribute) = refl
of_query_kind (CompareTwo variable attribute operator variable2 attribute2) = refl
of_query_kind (CompareConstant variable attribute operator cell) = refl
of_query_kind End = refl

-- a kind of a query is none of a book's
pub no_row_of_a_query : (r : QueryRecord) → kind_of (OfQuery r) ≡ 4 → ⊥
unfolding of_query whose kinds
no_row_of_a_query r e = false≢true (sym (ap of_query e) ∙ of_query_kind r)

-- a record is a row, or its kind is not 4
pub data RowOrNot : Record → Type 0 where
  a_row : (object c0 c1 c2 c3 c4 c5 : ℕ) → RowOrNot (OfBook (Row object c0 c1 c2 c3 c4 c5))
  another_kind : {r : Record} → (kind_of r ≡ 4 → ⊥) → RowOrNot r

pub row_or_not : (r : Record) → RowOrNot r
unfolding kind_of
row_or_not (OfBook (Attribute id kind)) = another_kind {r = OfBook (Attribute id kind)} (λ e. omega (arith, e))
row_or_not (OfBook (Object number set)) = another_kind {r = OfBook (Object number set)} (λ e. omega (arith, e))
row_or_not (OfBook (Dependency left right)) = another_kind {r = OfBook (Dependency left right)} (λ e. omega (arith, e))
row_or_not (OfBook (Row object c0 c1 c2 c3 c4 c5)) = a_row object c0 c1 c2 c3 c4 c5
row_or_not (OfBook (Declared set)) = another_kind {r = OfBook (Declared set)} (λ e. omega (arith, e))
row_or_not (OfBook (Removed set)) = another_kind {r = OfBook (Removed set)} (λ e. omega (arith, e))
row_or_not (OfBook (ComparisonTable names lengths angles dates)) =
    another_kind {r = OfBook (ComparisonTable names lengths angles dates)} (λ e. omega (arith, e))
row_or_not (OfBook OnlyDeclared) = another_kind {r = OfBook OnlyDeclared} (λ e. omega (arith, e))
row_or_not (OfBook (DeclaredWide set)) = another_kind {r = OfBook (DeclaredWide set)} (λ e. omega (arith, e))
row_or_not (OfQuery r) = another_kind {r = OfQuery r} (no_row_of_a_query r)

-- ---- the body of a record that was written, and a body written again

-- What is read from the body of a written record is the record, whatever stands after it.
pub record_of_written : (r : Record) (q : List ℕ) → InWidth r → record_of (kind_of r) (drop 1 (bytes_of r) ++ q) ≡ r
unfolding record_of bodies kind_of bytes_of bytes field InWidth
record_of_written (OfBook (Attribute id kind)) q h =
    λ i. OfBook (Attribute (value_bytes 1 id h.0 i) (value_bytes 1 kind h.1 i))
record_of_written (OfBook (Object number set)) q h =
    λ i. OfBook (Object (value_bytes 1 number h.0 i) (value_bytes 4 set h.1 i))
record_of_written (OfBook (Dependency left right)) q h =
    λ i. OfBook (Dependency (value_bytes 4 left h.0 i) (value_bytes 4 right h.1 i))
record_of_written (OfBook (Row object c0 c1 c2 c3 c4 c5)) q h =
    λ i. OfBook (Row
    (value_bytes 1 object h.0 i)
    (value_bytes 4 c0 h.1 i)
    (value_bytes 4 c1 h.2 i)
    (value_bytes 4 c2 h.3 i)
    (value_bytes 4 c3 h.4 i)
    (value_bytes 4 c4 h.5 i)
    (value_bytes 4 c5 h.6 i))
record_of_written (OfBook (Declared set)) q h = λ i. OfBook (Declared (value_bytes 4 set h i))
record_of_written (OfBook (Removed set)) q h = λ i. OfBook (Removed (value_bytes 4 set h i))
record_of_written (OfBook (ComparisonTable names lengths angles dates)) q h =
    λ i. OfBook (ComparisonTable
    (value_bytes 4 names h.0 i)
    (value_bytes 4 lengths h.1 i)
    (value_bytes 4 angles h.2 i)
    (value_bytes 4 dates h.3 i))
record_of_written (OfBook OnlyDeclared) q h = refl
record_of_written (OfBook (DeclaredWide set)) q h = λ i. OfBook (DeclaredWide (value_bytes 8 set h i))
record_of_written (OfQuery (Item variable attribute)) q h =
    λ i. OfQuery (Item (value_bytes 1 variable h.0 i) (value_bytes 1 attribute h.1 i))
record_of_written (OfQuery (CompareTwo variable attribute operator variable2 attribute2)) q h =
    λ i. OfQuery (CompareTwo
    (value_bytes 1 variable h.0 i)
    (value_bytes 1 attribute h.1 i)
    (value_bytes 1 operator h.2 i)
    (value_bytes 1 variable2 h.3 i)
    (value_bytes 1 attribute2 h.4 i))
record_of_written (OfQuery (CompareConstant variable attribute operator cell)) q h =
    λ i. OfQuery (CompareConstant
    (value_bytes 1 variable h.0 i)
    (value_bytes 1 attribute h.1 i)
    (value_bytes 1 operator h.2 i)
    (value_bytes 4 cell h.3 i))
record_of_written (OfQuery End) q h = refl

-- The fields of a body, written one after another, are the body's first bytes.
module _ (b : List ℕ) {n : ℕ} (given : AreBytes b) (fits : n ≤ length b) where
  first_field : (w : ℕ) → leb w n ≡ true → bytes w (field w b 0) ≡ take w b
  first_field w e = bytes_field w b 0 given (omega (arith, leb-true w n e))

  next_field : (k j w : ℕ) → k ≡ j → leb (j + w) n ≡ true → take k b ++ bytes w (field w b j) ≡ take (j + w) b
  next_field k j w p e =
      rw (p, bytes_field w b j given (omega (arith, leb-true (j + w) n e))) (sym (take-add j w b))

-- A body as long as its kind says is written as it stood.
pub bytes_of_record_of : (b : List ℕ) (k : ℕ) → AreBytes b → is_kind k ≡ true → body_length k ≤ length b
    → bytes_of (record_of k b) ≡ k ∷ take (body_length k) b
unfolding record_of bodies bytes_of body_length kinds
bytes_of_record_of b k given =
    by_kind (λ k. body_length k ≤ length b → bytes_of (record_of k b) ≡ k ∷ take (body_length k) b)
    (λ fits. simp (first_field b given fits, next_field b given fits))
    (λ fits. simp (first_field b given fits, next_field b given fits))
    (λ fits. simp (first_field b given fits, next_field b given fits))
    (λ fits. simp (first_field b given fits, next_field b given fits))
    (λ fits. simp (first_field b given fits))
    (λ fits. simp (first_field b given fits))
    (λ fits. simp (first_field b given fits, next_field b given fits))
    (λ fits. simp (first_field b given fits, next_field b given fits))
    (λ fits. simp (first_field b given fits, next_field b given fits))
    (λ fits. refl)
    (λ fits. simp (first_field b given fits, next_field b given fits))
    (λ fits. refl)
    (λ fits. simp (first_field b given fits))
    k

pub kind_of_record_of : (b : List ℕ) (k : ℕ) → is_kind k ≡ true → kind_of (record_of k b) ≡ k
unfolding record_of bodies kind_of
kind_of_record_of b = by_kind (λ k. kind_of (record_of k b) ≡ k) refl refl refl refl refl refl refl refl refl refl refl
    refl refl

-- A body of bytes gives fields that fit.
pub in_width_record_of : (b : List ℕ) (k : ℕ) → AreBytes b → is_kind k ≡ true → InWidth (record_of k b)
unfolding record_of bodies InWidth
in_width_record_of b k given =
    let small : (j : ℕ) → Small (field 1 b j) = λ j. field_below 1 b j given in
    let wide : (j : ℕ) → Wide (field 4 b j) = λ j. field_below 4 b j given in
    by_kind (λ k. InWidth (record_of k b))
    (small 0, small 1)
    (small 0, wide 1)
    (wide 0, wide 4)
    (small 0, wide 1, wide 5, wide 9, wide 13, wide 17, wide 21)
    (wide 0)
    (wide 0)
    (small 0, small 1)
    (small 0, small 1, small 2, small 3, small 4)
    (small 0, small 1, small 2, wide 3)
    tt
    (wide 0, wide 4, wide 8, wide 12)
    tt
    (field_below 8 b 0 given)
    k

-- ---- each record at its place: the record of kind k whose body starts at position b of s, from the fields there

pub attribute_at : (s : List ℕ) (k b id kind : ℕ) → k ≡ 1
    → id ≡ field 1 s b → kind ≡ field 1 s (b + 1) → OfBook (Attribute id kind) ≡ record_of k (drop b s)
unfolding record_of bodies
attribute_at s k b id kind e e0 e1 = simp (e, e0, e1, field_drop, add-zero)

pub object_at : (s : List ℕ) (k b number set : ℕ) → k ≡ 2
    → number ≡ field 1 s b → set ≡ field 4 s (b + 1) → OfBook (Object number set) ≡ record_of k (drop b s)
unfolding record_of bodies
object_at s k b number set e e0 e1 = simp (e, e0, e1, field_drop, add-zero)

pub dependency_at : (s : List ℕ) (k b left right : ℕ) → k ≡ 3
    → left ≡ field 4 s b → right ≡ field 4 s (b + 4) → OfBook (Dependency left right) ≡ record_of k (drop b s)
unfolding record_of bodies
dependency_at s k b left right e e0 e1 = simp (e, e0, e1, field_drop, add-zero)

pub row_at : (s : List ℕ) (k b object c0 c1 c2 c3 c4 c5 : ℕ) → k ≡ 4
    → object ≡ field 1 s b → c0 ≡ field 4 s (b + 1) → c1 ≡ field 4 s (b + 5) → c2 ≡ field 4 s (b + 9)
    → c3 ≡ field 4 s (b + 13) → c4 ≡ field 4 s (b + 17) → c5 ≡ field 4 s (b + 21)
    → OfBook (Row object c0 c1 c2 c3 c4 c5) ≡ record_of k (drop b s)
unfolding record_of bodies
row_at s k b object c0 c1 c2 c3 c4 c5 e e0 e1 e2 e3 e4 e5 e6 =
    simp (e, e0, e1, e2, e3, e4, e5, e6, field_drop, add-zero)

pub declared_at : (s : List ℕ) (k b set : ℕ) → k ≡ 5
    → set ≡ field 4 s b → OfBook (Declared set) ≡ record_of k (drop b s)
unfolding record_of bodies
declared_at s k b set e e0 = simp (e, e0, field_drop, add-zero)

pub removed_at : (s : List ℕ) (k b set : ℕ) → k ≡ 6
    → set ≡ field 4 s b → OfBook (Removed set) ≡ record_of k (drop b s)
unfolding record_of bodies
removed_at s k b set e e0 = simp (e, e0, field_drop, add-zero)

pub comparison_table_at : (s : List ℕ) (k b names lengths angles dates : ℕ) → k ≡ 13
    → names ≡ field 4 s b → lengths ≡ field 4 s (b + 4) → angles ≡ field 4 s (b + 8) → dates ≡ field 4 s (b + 12)
    → OfBook (ComparisonTable names lengths angles dates) ≡ record_of k (drop b s)
unfolding record_of bodies
comparison_table_at s k b names lengths angles dates e e0 e1 e2 e3 = simp (e, e0, e1, e2, e3, field_drop, add-zero)

-- the masks of a table, byte by byte
pub masks_are : (names lengths angles dates : ℕ) {n l a d : List ℕ}
    {m0 m1 m2 m3 m4 m5 m6 m7 m8 m9 m10 m11 m12 m13 m14 m15 : ℕ}
    → n ≡ to_le_bytes w32 names → l ≡ to_le_bytes w32 lengths → a ≡ to_le_bytes w32 angles → d ≡ to_le_bytes w32 dates
    → m0 ≡ get_or n 0 0 → m1 ≡ get_or n 1 0 → m2 ≡ get_or n 2 0 → m3 ≡ get_or n 3 0
    → m4 ≡ get_or l 0 0 → m5 ≡ get_or l 1 0 → m6 ≡ get_or l 2 0 → m7 ≡ get_or l 3 0
    → m8 ≡ get_or a 0 0 → m9 ≡ get_or a 1 0 → m10 ≡ get_or a 2 0 → m11 ≡ get_or a 3 0
    → m12 ≡ get_or d 0 0 → m13 ≡ get_or d 1 0 → m14 ≡ get_or d 2 0 → m15 ≡ get_or d 3 0
    → m0 ∷ m1 ∷ m2 ∷ m3 ∷ m4 ∷ m5 ∷ m6 ∷ m7 ∷ m8 ∷ m9 ∷ m10 ∷ m11
    ∷ m12 ∷ m13 ∷ m14 ∷ m15 ∷ [] ≡ masks_of names lengths angles dates
unfolding bytes
masks_are names lengths angles dates {n} {l} {a} {d} e0 e1 e2 e3 f0 f1 f2 f3 f4 f5 f6 f7 f8 f9 f10 f11 f12 f13 f14 f15 =
    let n4 : n ≡ bytes 4 names = e0 ∙ bytes_four names in
    let l4 : l ≡ bytes 4 lengths = e1 ∙ bytes_four lengths in
    let a4 : a ≡ bytes 4 angles = e2 ∙ bytes_four angles in
    let d4 : d ≡ bytes 4 dates = e3 ∙ bytes_four dates in
    let places : get_or n 0 0 ∷ get_or n 1 0 ∷ get_or n 2 0 ∷ get_or n 3 0
    ∷ get_or l 0 0 ∷ get_or l 1 0 ∷ get_or l 2 0 ∷ get_or l 3 0
    ∷ get_or a 0 0 ∷ get_or a 1 0 ∷ get_or a 2 0 ∷ get_or a 3 0
    ∷ get_or d 0 0 ∷ get_or d 1 0 ∷ get_or d 2 0 ∷ get_or d 3 0 ∷ [] ≡ masks_of names lengths angles dates
    = λ i. get_or (n4 i) 0 0 ∷ get_or (n4 i) 1 0 ∷ get_or (n4 i) 2 0 ∷ get_or (n4 i) 3 0
    ∷ get_or (l4 i) 0 0 ∷ get_or (l4 i) 1 0 ∷ get_or (l4 i) 2 0 ∷ get_or (l4 i) 3 0
    ∷ get_or (a4 i) 0 0 ∷ get_or (a4 i) 1 0 ∷ get_or (a4 i) 2 0 ∷ get_or (a4 i) 3 0
    ∷ get_or (d4 i) 0 0 ∷ get_or (d4 i) 1 0 ∷ get_or (d4 i) 2 0 ∷ get_or (d4 i) 3 0 ∷ [] in
    (λ i. f0 i ∷ f1 i ∷ f2 i ∷ f3 i ∷ f4 i ∷ f5 i ∷ f6 i ∷ f7 i ∷ f8 i ∷ f9 i ∷ f10 i ∷ f11 i
    ∷ f12 i ∷ f13 i ∷ f14 i ∷ f15 i ∷ []) ∙ places

pub only_declared_at : (s : List ℕ) (k b : ℕ) → k ≡ 14 → OfBook OnlyDeclared ≡ record_of k (drop b s)
unfolding record_of bodies
only_declared_at s k b e = simp e

pub declared_wide_at : (s : List ℕ) (k b set : ℕ) → k ≡ 15
    → set ≡ field 8 s b → OfBook (DeclaredWide set) ≡ record_of k (drop b s)
unfolding record_of bodies
declared_wide_at s k b set e e0 = simp (e, e0, field_drop, add-zero)

pub item_at : (s : List ℕ) (k b variable attribute : ℕ) → k ≡ 7
    → variable ≡ field 1 s b → attribute ≡ field 1 s (b + 1) → OfQuery (Item variable attribute) ≡ record_of k (drop b s)
unfolding record_of bodies
item_at s k b variable attribute e e0 e1 = simp (e, e0, e1, field_drop, add-zero)

pub compare_two_at : (s : List ℕ) (k b variable attribute operator variable2 attribute2 : ℕ) → k ≡ 8
    → variable ≡ field 1 s b → attribute ≡ field 1 s (b + 1) → operator ≡ field 1 s (b + 2)
    → variable2 ≡ field 1 s (b + 3) → attribute2 ≡ field 1 s (b + 4)
    → OfQuery (CompareTwo variable attribute operator variable2 attribute2) ≡ record_of k (drop b s)
unfolding record_of bodies
compare_two_at s k b variable attribute operator variable2 attribute2 e e0 e1 e2 e3 e4 =
    simp (e, e0, e1, e2, e3, e4, field_drop, add-zero)

pub compare_constant_at : (s : List ℕ) (k b variable attribute operator cell : ℕ) → k ≡ 9
    → variable ≡ field 1 s b → attribute ≡ field 1 s (b + 1) → operator ≡ field 1 s (b + 2)
    → cell ≡ field 4 s (b + 3) → OfQuery (CompareConstant variable attribute operator cell) ≡ record_of k (drop b s)
unfolding record_of bodies
compare_constant_at s k b variable attribute operator cell e e0 e1 e2 e3 =
    simp (e, e0, e1, e2, e3, field_drop, add-zero)

pub end_at : (s : List ℕ) (k b : ℕ) → k ≡ 10 → OfQuery End ≡ record_of k (drop b s)
unfolding record_of bodies
end_at s k b e = simp e
