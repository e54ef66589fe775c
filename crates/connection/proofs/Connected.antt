-- The connection as a list: it has exactly the rows of the parts of all maximal objects that contain X.
-- In order: parts, the connection.
-- Assumes nothing.
use mathlib.Core.Path.{refl, sym, subst}
use mathlib.Core.Logic.{⊎_elim}
use mathlib.Core.List.Memᴰ
use mathlib.Core.List.{List, [], ◌∷◌, Memᴰ}
use Prim.Native.Nat.{ℕ}
use Rattle.sets.specs.Sets.{◌⊆◌}
use Rattle.reduction.specs.Steps.{Family}
use Rattle.reduction.specs.Kept.{union}
use Rattle.reduction.specs.Statements.{OfAttributes}
use Rattle.relation.specs.Tables.{Row}
use Rattle.relation.specs.Computed.{part}
use Rattle.relation.specs.Statements.{PartComputed}
use Rattle.relation.proofs.Theorems.{part_computed}
use Rattle.scheme.specs.Growing.{family_of, attributes_of}
use Rattle.scheme.specs.OfScheme.{maximal_of}
use Rattle.book.specs.Reading.{Outcome}
use Rattle.book.specs.TablesOf.{tables_of}
use Rattle.book.proofs.TablesOf.{tables_family}
use Rattle.query.proofs.Theorems.{containing_is_the_list}
use Rattle.connection.specs.Connection.{InConnection, parts, connection}

module _ (b : List ℕ) (o : Outcome) (X : ℕ) where
  -- ---- parts

  abbrev part_of : ℕ → List Row
  part_of M = part o.scheme.kinds (tables_of b o M) X

  -- the row is one of the part of one of the maximal objects
  record OfPart (Ms : List ℕ) (row : Row) : Type 0 where
    object : ℕ
    there : Memᴰ object Ms
    in_part : Memᴰ row (part_of object)

  of_parts : (Ms : List ℕ) {row : Row} → Memᴰ row (parts b o X Ms) → OfPart Ms row
  unfolding parts
  of_parts [] m = absurd (Memᴰ.not-nil m)
  of_parts (M ∷ Ms) m =
      ⊎_elim (λ i. record { object = M; there = Memᴰ.head refl; in_part = i })
      (λ i.
      let p = of_parts Ms i in
      record { object = p.object; there = Memᴰ.tail p.there; in_part = p.in_part })
      (Memᴰ.append_cases (part_of M) m)

  parts_have : {M : ℕ} {Ms : List ℕ} {row : Row} → Memᴰ M Ms → Memᴰ row (part_of M)
      → Memᴰ row (parts b o X Ms)
  unfolding parts
  parts_have {Ms = []} m i = elim m [ ]
  parts_have {Ms = N ∷ Ms} {row} (Memᴰ.head e) i =
      Memᴰ.append_left (parts b o X Ms) (subst (λ (K : ℕ). Memᴰ row (part_of K)) e i)
  parts_have {Ms = N ∷ Ms} (Memᴰ.tail m) i = Memᴰ.append_right (part_of N) (parts_have m i)

  -- ---- the connection

  module _ (bounded : (M : ℕ) → OfAttributes (family_of o.scheme.sets M)) where
    computed : (M : ℕ) → X ⊆ attributes_of o.scheme.sets M → PartComputed o.scheme.kinds (tables_of b o M) X
    unfolding attributes_of
    computed M i =
        let e = sym (tables_family b o M) in
        part_computed o.scheme.kinds (tables_of b o M) X (subst OfAttributes e (bounded M))
        (subst (λ (F : Family). X ⊆ union F) e i)

    pub of_connection_law : {row : Row} → Memᴰ row (connection b o X) → InConnection b o X row
    unfolding connection
    of_connection_law {row} m =
        let p = of_parts _ m in
        let l = containing_is_the_list o.scheme.sets (maximal_of o.scheme) X in
        let q = (l.IsIn p.object).0 p.there in
        record {
          object = p.object;
          there = q.0;
          contains = q.1;
          in_part = record { joined = (computed p.object q.1).row_found row p.in_part };
        }

    pub connection_has : {row : Row} → InConnection b o X row → Memᴰ row (connection b o X)
    unfolding connection
    connection_has {row} c =
        let l = containing_is_the_list o.scheme.sets (maximal_of o.scheme) X in
        parts_have ((l.IsIn c.object).1 (c.there, c.contains))
        ((computed c.object c.contains).finds_row row c.in_part.joined)
