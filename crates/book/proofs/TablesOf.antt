-- The rows of accepted records stay rows in range of declared objects; so every row of a book's tables is in range.
-- In order: a row that is accepted, what is declared after it, accepted records, the rows of an object, the tables.
-- Assumes nothing.
use mathlib.Core.Path.{◌≡◌, refl, sym, ap, ◌∙◌, subst}
use mathlib.Core.Bool.{Bool, true, false}
use mathlib.Core.Logic.{⊎_elim}
use mathlib.Core.List.Memᴰ
use mathlib.Core.List.{List, [], ◌∷◌, map-map, Memᴰ}
use Prim.Native.Nat.{ℕ}
use borrow.Author.Tests.{eqb-true}
use lib.Dec.{eqb}
use lib.ListN.{get_or, drop, set}
use lib.Seq.{get_or-set_other}
use Rattle.sets.specs.Sets.{◌∈◌, single, count, members, ATTRIBUTES, OBJECTS}
use Rattle.sets.proofs.Tests.{no_or}
use Rattle.sets.proofs.Bits.{in_out, member_lt}
use Rattle.sets.proofs.Sets.{∪_left}
use Rattle.values.specs.Values.{in_range}
use Rattle.records.specs.Records.{kind_of}
use Rattle.records.specs.Reader.{read_at}
use Rattle.records.specs.Walking.{none, one}
use Rattle.records.specs.declared.Record.{Record}
use Rattle.records.specs.declared.Record.TheVariants.{OfBook, OfQuery}
use Rattle.records.specs.declared.BookRecord.TheVariants.{Attribute, Object, Dependency, Row, Declared, Removed}
use Rattle.records.specs.declared.BookRecord.TheVariants.{ComparisonTable, OnlyDeclared, DeclaredWide}
use Rattle.records.specs.declared.Reading.TheVariants.{Found}
use Rattle.records.proofs.Records.{RowOrNot, a_row, another_kind, row_or_not}
use Rattle.relation.specs.Tables as Tables
use Rattle.relation.specs.Tables.{Table, cell_of, family}
use Rattle.scheme.specs.declared.Scheme.{Scheme}
use Rattle.scheme.specs.Growing.{family_of}
use Rattle.book.specs.Faults.{some_non_zero, some_outside, wrong_cells, fault_of}
use Rattle.book.specs.Declaring.{declare, with_attribute, with_object, with_dependency, with_maximal, with_table}
use Rattle.book.specs.Reading.{Outcome, Held, is_row, with_row}
use Rattle.book.specs.Accepting.{Accepted, AcceptedAs}
use Rattle.book.specs.WellFormed.{WellFormed}
use Rattle.book.specs.TablesOf.{cells_of, row_of, rows_of, tables_of, InRange}
use Rattle.book.proofs.Declaring.{NewAttribute, NewObject, KnownRow, attribute_accepted, object_accepted}
use Rattle.book.proofs.Declaring.{row_accepted, no_row_added}
use Rattle.book.proofs.Conditions.{unneeded_zero, outside_no}
use Rattle.book.proofs.WellFormed.{accepted_well_formed}

-- ---- a row that is accepted

-- at a position of b stands a row of a declared object, in range
record RowAt (b : List ℕ) (s : Scheme) (at : ℕ) : Type 0 where
  object : ℕ
  cells : List ℕ
  reads : (k : ℕ) → row_of k (read_at b at) ≡ elim (eqb object k) [ true ↦ cells ∷ [] | false ↦ [] ]
  declared : object ∈ s.objects
  ranged : InRange s.kinds (get_or s.sets object 0) cells

in_range_law : {s : Scheme} {object : ℕ} (c0 c1 c2 c3 c4 c5 : ℕ) → WellFormed s
    → KnownRow s object (c0 ∷ c1 ∷ c2 ∷ c3 ∷ c4 ∷ c5 ∷ [])
    → InRange s.kinds (get_or s.sets object 0) (c0 ∷ c1 ∷ c2 ∷ c3 ∷ c4 ∷ c5 ∷ [])
unfolding wrong_cells
in_range_law {s} {object} c0 c1 c2 c3 c4 c5 v k =
    let cells : List ℕ = c0 ∷ c1 ∷ c2 ∷ c3 ∷ c4 ∷ c5 ∷ [] in
    let set : ℕ = get_or s.sets object 0 in
    let right = no_or (some_non_zero (drop (count ATTRIBUTES set) cells)) (some_outside s.kinds set cells ATTRIBUTES)
    k.right in
    record {
      long = refl;
      unneeded = unneeded_zero (count ATTRIBUTES set) cells right.0;
      needed = λ a i.
          outside_no s.kinds set cells ATTRIBUTES right.1 a
          (member_lt ATTRIBUTES v.attributes_below ((v.object_sets object k.declared).some.inside.each i)) i;
    }

row_at : {b : List ℕ} {s : Scheme} {at next object : ℕ} (c0 c1 c2 c3 c4 c5 : ℕ) → WellFormed s
    → read_at b at ≡ Found (OfBook (Row object c0 c1 c2 c3 c4 c5)) next
    → fault_of s (OfBook (Row object c0 c1 c2 c3 c4 c5)) ≡ 0 → RowAt b s at
unfolding row_of cells_of
row_at {s = s} {object = object} c0 c1 c2 c3 c4 c5 v e f =
    let k = row_accepted s object c0 c1 c2 c3 c4 c5 f in
    record {
      object = object;
      cells = c0 ∷ c1 ∷ c2 ∷ c3 ∷ c4 ∷ c5 ∷ [];
      reads = λ j. ap (row_of j) e;
      declared = k.declared;
      ranged = in_range_law c0 c1 c2 c3 c4 c5 v k;
    }

-- ---- what is declared after it changes neither its object's set nor the kinds of its attributes

module _ {b : List ℕ} {s : Scheme} {at : ℕ} (v : WellFormed s) (w : RowAt b s at) where
  after_attribute : (id kind : ℕ) → NewAttribute s id kind → RowAt b (with_attribute s id kind) at
  unfolding with_attribute
  after_attribute id kind n = record {
    object = w.object;
    cells = w.cells;
    reads = w.reads;
    declared = w.declared;
    ranged = record {
      long = w.ranged.long;
      unneeded = w.ranged.unneeded;
      needed = λ a i.
          let there = (v.object_sets w.object w.declared).some.inside.each i in
          ap (λ (t : ℕ). in_range t (cell_of (get_or s.sets w.object 0) w.cells a))
          (get_or-set_other s.kinds id a kind 0 (λ e. in_out (subst (λ (x : ℕ). x ∈ s.attributes) e there) n.new))
          ∙ w.ranged.needed a i;
    };
  }

  after_object : (number set : ℕ) → NewObject s number set → RowAt b (with_object s number set) at
  unfolding with_object
  after_object number set' n = record {
    object = w.object;
    cells = w.cells;
    reads = w.reads;
    declared = ∪_left (single number) w.declared;
    ranged =
        subst (λ (t : ℕ). InRange s.kinds t w.cells)
        (sym (get_or-set_other s.sets number w.object set' 0
        (λ e. in_out (subst (λ (x : ℕ). x ∈ s.objects) e w.declared) n.new)))
        w.ranged;
  }

  after : (r : Record) → fault_of s r ≡ 0 → RowAt b (declare s r) at
  unfolding declare with_dependency with_maximal with_table
  after (OfBook (Attribute id kind)) f = after_attribute id kind (attribute_accepted s id kind f)
  after (OfBook (Object number set)) f = after_object number set (object_accepted s number set f)
  after (OfBook (Dependency left right)) f =
      record { object = w.object; cells = w.cells; reads = w.reads; declared = w.declared; ranged = w.ranged }
  after (OfBook (Row object c0 c1 c2 c3 c4 c5)) f = w
  after (OfBook (Declared set)) f =
      record { object = w.object; cells = w.cells; reads = w.reads; declared = w.declared; ranged = w.ranged }
  after (OfBook (Removed set)) f =
      record { object = w.object; cells = w.cells; reads = w.reads; declared = w.declared; ranged = w.ranged }
  after (OfBook (ComparisonTable names lengths angles dates)) f =
      record { object = w.object; cells = w.cells; reads = w.reads; declared = w.declared; ranged = w.ranged }
  after (OfBook OnlyDeclared) f =
      record { object = w.object; cells = w.cells; reads = w.reads; declared = w.declared; ranged = w.ranged }
  after (OfBook (DeclaredWide set)) f =
      record { object = w.object; cells = w.cells; reads = w.reads; declared = w.declared; ranged = w.ranged }
  after (OfQuery r) f = w

-- ---- accepted records

module _ {b : List ℕ} {s : Scheme} {rows : List ℕ} (at : ℕ) {next : ℕ} (v : WellFormed s)
    (older : (p : ℕ) → Memᴰ p rows → RowAt b s p) where
  -- the position of record r is among the rows if it is one
  with_row_fact : (r : Record) → read_at b at ≡ Found r next → fault_of s r ≡ 0 → (p : ℕ) → Memᴰ p (with_row rows r at)
      → RowAt b s p
  unfolding with_row is_row kind_of
  with_row_fact r e f p m = by (row_or_not r) e f m
    where
      by : {r : Record} → RowOrNot r → read_at b at ≡ Found r next → fault_of s r ≡ 0 → Memᴰ p (with_row rows r at)
          → RowAt b s p
      by (a_row object c0 c1 c2 c3 c4 c5) e f m =
          ⊎_elim (λ m'. older p m')
          (λ m'. subst (RowAt b s) (sym (Memᴰ.eq_of_singleton m')) (row_at c0 c1 c2 c3 c4 c5 v e f))
          (Memᴰ.append_cases rows m)
      by {r} (another_kind n) e f m = older p (subst (Memᴰ p) (no_row_added rows r at n) m)

accepted_rows_at : {b : List ℕ} {rs : List Record} {h : Held} {at : ℕ} → AcceptedAs b rs h at
    → (p : ℕ) → Memᴰ p h.rows → RowAt b h.scheme p
accepted_rows_at none p m = absurd (Memᴰ.not-nil m)
accepted_rows_at (one {at = at} {r = r} a e f l) p m =
    after (accepted_well_formed a) (with_row_fact at (accepted_well_formed a) (λ q i. accepted_rows_at a q i) r e f p m) r f

-- ---- the rows of an object

row_in_range : {b : List ℕ} {s : Scheme} {at : ℕ} {row : Tables.Row} (k : ℕ) (w : RowAt b s at)
    → Memᴰ row (row_of k (read_at b at)) → InRange s.kinds (get_or s.sets k 0) row
row_in_range {s = s} {row = row} k w m = by (eqb w.object k) refl (subst (Memᴰ row) (w.reads k) m)
  where
    by : (t : Bool) → eqb w.object k ≡ t → Memᴰ row (elim t [ true ↦ w.cells ∷ [] | false ↦ [] ])
        → InRange s.kinds (get_or s.sets k 0) row
    by true e m' =
        subst (λ (j : ℕ). InRange s.kinds (get_or s.sets j 0) row) (eqb-true w.object k e)
        (subst (InRange s.kinds (get_or s.sets w.object 0)) (sym (Memᴰ.eq_of_singleton m')) w.ranged)
    by false e m' = absurd (Memᴰ.not-nil m')

rows_in_range : {b : List ℕ} {s : Scheme} {row : Tables.Row} (k : ℕ) (rows : List ℕ)
    → ((p : ℕ) → Memᴰ p rows → RowAt b s p) → Memᴰ row (rows_of b rows k)
    → InRange s.kinds (get_or s.sets k 0) row
unfolding rows_of
rows_in_range k [] h m = absurd (Memᴰ.not-nil m)
rows_in_range {b} k (at ∷ rows) h m =
    ⊎_elim (λ m'. row_in_range k (h at (Memᴰ.head refl)) m')
    (λ m'. rows_in_range k rows (λ p i. h p (Memᴰ.tail i)) m')
    (Memᴰ.append_cases (row_of k (read_at b at)) m)

-- ---- the tables

pub tables_family : (b : List ℕ) (o : Outcome) (M : ℕ) → family (tables_of b o M) ≡ family_of o.scheme.sets M
unfolding tables_of family_of
tables_family b o M =
    map-map (λ (T : Table). T.set)
    (λ (k : ℕ). record { set = get_or o.scheme.sets k 0; rows = rows_of b o.rows k }) (members OBJECTS M)

pub tables_in_range : {b : List ℕ} {rs : List Record} {at : ℕ} (o : Outcome) → Accepted b rs o.scheme o.rows at
    → (M : ℕ) (T : Table) → Memᴰ T (tables_of b o M) → (row : Tables.Row) → Memᴰ row T.rows
    → InRange o.scheme.kinds T.set row
unfolding tables_of
tables_in_range {b} o a M T m row i =
    let p = Memᴰ.of_map {B = Table} (λ (k : ℕ). record {
      set = get_or o.scheme.sets k 0;
      rows = rows_of b o.rows k;
    })
    (members OBJECTS M) m in
    subst (λ (U : Table). Memᴰ row U.rows → InRange o.scheme.kinds U.set row) p.2
    (λ j. rows_in_range p.0 o.rows (accepted_rows_at a) j) i
