-- The scheme, the positions and the rows of accepted records are what the records say, by induction on the records
-- accepted.
-- In order: one record more, records of other kinds, the scheme, the rows, the tables, the row of a record in bytes.
-- Assumes nothing.
use mathlib.Core.Path.{◌≡◌, refl, sym, ap, ◌∙◌, subst}
use mathlib.Core.Bool.{Bool, true, false, false≢true}
use mathlib.Core.Logic.{◌⊎◌, inl, inr, ⊎_elim, ◌↔◌}
use mathlib.Core.List.Memᴰ
use mathlib.Core.List.{List, [], ◌∷◌, ◌++◌, map, append-nil, append_assoc, Memᴰ}
use Prim.Native.Nat.{ℕ, zero, suc, ◌+◌, ◌≤◌, ◌<◌}
use native.Mathlib.Nat.{add-zero, zero-add, not-suc-le-zero, le_of_suc-le-suc}
use native.Mathlib.Omega.{arith}
use borrow.Author.Tests.{eq-eqb, ne_eqb}
use lib.Dec.{eqb}
use lib.ListN.{length, get_or, take, drop, set, length-append}
use lib.Seq.{get_or-set_same, get_or-set_other}
use Rattle.sets.specs.Sets.{◌∈◌, ◌∉◌, insert, single, rank, members, ATTRIBUTES, OBJECTS}
use Rattle.sets.proofs.Bits.{in_out, not_in}
use Rattle.sets.proofs.Numbers.{eq_or_ne}
use Rattle.sets.proofs.Ranks.{rank_lt}
use Rattle.sets.proofs.Members.{length_members, get_d_members}
use Rattle.sets.proofs.Sets.{∪_cases, ∪_left, in_single, insert_in, zero_out}
use Rattle.records.specs.Fields.{field}
use Rattle.records.specs.Records.{kinds, body_length, kind_of, masks_of, bytes_of, bytes_of_all}
use Rattle.records.specs.Reader.{bodies, record_of, read_at, Reads, done, more}
use Rattle.records.specs.Checks.{first_of}
use Rattle.records.specs.Walking.{none, one}
use Rattle.records.specs.declared.Record.{Record}
use Rattle.records.specs.declared.BookRecord.{BookRecord}
use Rattle.records.specs.declared.Record.TheVariants.{OfBook, OfQuery}
use Rattle.records.specs.declared.BookRecord.TheVariants.{Attribute, Object, Dependency, Row, Declared, Removed}
use Rattle.records.specs.declared.BookRecord.TheVariants.{ComparisonTable, OnlyDeclared, DeclaredWide}
use Rattle.records.specs.declared.Reading.TheVariants.{Found}
use Rattle.records.proofs.Fields.{field_drop}
use Rattle.records.proofs.Records.{RowOrNot, a_row, another_kind, row_or_not}
use Rattle.records.proofs.Reader.{whole_read_at}
use Rattle.records.proofs.Theorems.{kind_then_body}
use Rattle.relation.specs.Tables as Tables
use Rattle.relation.specs.BookRows as BookRows
use Rattle.scheme.specs.declared.Scheme.{Scheme}
use Rattle.scheme.specs.declared.MaximalRecords.{MaximalRecords}
use Rattle.scheme.specs.declared.TableOfMasks.{TableOfMasks}
use Rattle.scheme.specs.OfScheme.{pairs, dependencies_of}
use Rattle.book.specs.Faults.{checks, fault_of}
use Rattle.book.specs.Declaring.{nothing_declared, declare, with_attribute, with_object, with_dependency, with_maximal}
use Rattle.book.specs.Declaring.{with_table, with_declared, with_removed, with_only, with_masks}
use Rattle.book.specs.Reading.{Outcome, Held, is_row, with_row}
use Rattle.book.specs.Accepting.{AcceptedAs}
use Rattle.book.specs.WellFormed.{WellFormed}
use Rattle.book.specs.TablesOf.{cells_of, row_of, rows_of, tables_of}
use Rattle.records.specs.Gathered.{Gathered, ended}
use Rattle.records.proofs.Gathered.{gathered_more, gathered_same}
use Rattle.book.specs.RecordsSay.{SaysDependency, SaysDeclared, SaysRemoved}
use Rattle.book.specs.RecordsSay.{SaysRow, ByNumber, ZeroFrom, SchemeSaid, RowsAt, behind_last, row, no_row}
use Rattle.book.specs.RecordsSay.{MaximalSaid, ComparisonsSaid, built_in_one, own_one}
use Rattle.book.specs.RecordsSay.{RowsSaid}
use Rattle.book.specs.RecordsSay.{TableSaid}
use Rattle.book.proofs.Lists.{get_d_zeros}
use Rattle.book.proofs.Declaring.{NewAttribute, NewObject, NewDependency, NewMaximal, attribute_accepted}
use Rattle.book.proofs.Declaring.{object_accepted, dependency_accepted, declared_accepted, removed_accepted}
use Rattle.book.proofs.Declaring.{NewTable, table_accepted, declared_wide_accepted, no_row_added}
use Rattle.book.proofs.WellFormed.{take_more, pairs_more, accepted_well_formed}

-- ---- one record more

module _ {says : ℕ → ℕ → BookRecord} {rs : List Record} {numbers : ℕ} {fields : List ℕ}
    (k : ByNumber says rs numbers fields) where
  -- a record of a number that is not declared yet
  by_number_more : (j w : ℕ) → ((i v : ℕ) → OfBook (says i v) ≡ OfBook (says j w) → (i ≡ j) × (v ≡ w)) → j ∉ numbers
      → j < length fields
      → ByNumber says (rs ++ OfBook (says j w) ∷ []) (insert numbers j) (set fields j w)
  by_number_more j w same new room = record { exactly = λ i v. (said i v, says_so i v); nothing_else = nothing_else_law }
    where
      here : get_or (set fields j w) j 0 ≡ w
      here = get_or-set_same fields j w 0 room

      apart : {i : ℕ} → i ∈ numbers → i ≡ j → ⊥
      apart m e = in_out (subst (λ (x : ℕ). x ∈ numbers) e m) new

      said : (i v : ℕ) → Memᴰ (OfBook (says i v)) (rs ++ OfBook (says j w) ∷ [])
          → (i ∈ insert numbers j) × (get_or (set fields j w) i 0 ≡ v)
      said i v m = ⊎_elim older newest (Memᴰ.append_cases rs m)
        where
          older : Memᴰ (OfBook (says i v)) rs → (i ∈ insert numbers j) × (get_or (set fields j w) i 0 ≡ v)
          older p =
              let q = (k.exactly i v).0 p in
              (∪_left (single j) q.0, get_or-set_other fields j i w 0 (apart q.0) ∙ q.1)

          newest : Memᴰ (OfBook (says i v)) (OfBook (says j w) ∷ []) → (i ∈ insert numbers j)
              × (get_or (set fields j w) i 0 ≡ v)
          newest p =
              let q = same i v (Memᴰ.eq_of_singleton p) in (
                subst (λ (x : ℕ). x ∈ insert numbers j) (sym q.0) (insert_in numbers j),
                ap (λ (x : ℕ). get_or (set fields j w) x 0) q.0 ∙ here ∙ sym q.1,
              )

      says_so : (i v : ℕ) → (i ∈ insert numbers j) × (get_or (set fields j w) i 0 ≡ v)
          → Memᴰ (OfBook (says i v)) (rs ++ OfBook (says j w) ∷ [])
      says_so i v p = ⊎_elim older (λ m. newest (in_single m)) (∪_cases numbers (single j) p.0)
        where
          older : i ∈ numbers → Memᴰ (OfBook (says i v)) (rs ++ OfBook (says j w) ∷ [])
          older m =
              Memᴰ.append_left (OfBook (says j w) ∷ [])
              ((k.exactly i v).1 (m, sym (get_or-set_other fields j i w 0 (apart m)) ∙ p.1))

          newest : i ≡ j → Memᴰ (OfBook (says i v)) (rs ++ OfBook (says j w) ∷ [])
          newest e =
              let f : v ≡ w = sym p.1 ∙ ap (λ (x : ℕ). get_or (set fields j w) x 0) e ∙ here in
              Memᴰ.append_right rs
              (Memᴰ.head (ap (λ (x : ℕ). OfBook (says x v)) e ∙ ap (λ (x : ℕ). OfBook (says j x)) f))

      nothing_else_law : (i : ℕ) → i ∉ insert numbers j → get_or (set fields j w) i 0 ≡ 0
      nothing_else_law i o =
          get_or-set_other fields j i w 0
          (λ e. in_out (subst (λ (x : ℕ). x ∈ insert numbers j) (sym e) (insert_in numbers j)) o)
          ∙ k.nothing_else i (not_in (λ m. in_out (∪_left (single j) m) o))

  -- a record that says nothing of this kind
  by_number_same : {r : Record} → ((i v : ℕ) → OfBook (says i v) ≡ r → ⊥) → ByNumber says (rs ++ r ∷ []) numbers fields
  by_number_same {r} n = record {
    exactly = λ i v. (
      λ m. (k.exactly i v).0
          (⊎_elim (λ p. p) (λ p. absurd (n i v (Memᴰ.eq_of_singleton p))) (Memᴰ.append_cases rs m)),
      λ p. Memᴰ.append_left (r ∷ []) ((k.exactly i v).1 p),
    );
    nothing_else = k.nothing_else;
  }

zero_from_set : (n : ℕ) (l : List ℕ) (x : ℕ) → ZeroFrom n l → ZeroFrom (n + 1) (set l n x)
zero_from_set n l x z i h = get_or-set_other l n i x 0 (λ e. omega arith) ∙ z i (omega arith)

-- ---- records of other kinds

-- what a record of another kind does not say
module _ (r : Record) where
  no_attribute : (kind_of r ≡ 1 → ⊥) → (i v : ℕ) → OfBook (Attribute i v) ≡ r → ⊥
  unfolding kind_of
  no_attribute n i v e = n (ap kind_of (sym e))

  no_object : (kind_of r ≡ 2 → ⊥) → (i v : ℕ) → OfBook (Object i v) ≡ r → ⊥
  unfolding kind_of
  no_object n i v e = n (ap kind_of (sym e))

  no_dependency : (kind_of r ≡ 3 → ⊥) → (d : _) → SaysDependency r d → ⊥
  unfolding kind_of
  no_dependency n d e = n (ap kind_of e)

  no_declared : (kind_of r ≡ 5 → ⊥) → (kind_of r ≡ 15 → ⊥) → (M : ℕ) → SaysDeclared r M → ⊥
  unfolding kind_of
  no_declared n w M (inl e) = n (ap kind_of e)
  no_declared n w M (inr e) = w (ap kind_of e)

  no_removed : (kind_of r ≡ 6 → ⊥) → (M : ℕ) → SaysRemoved r M → ⊥
  unfolding kind_of
  no_removed n M e = n (ap kind_of e)

  no_table : (kind_of r ≡ 13 → ⊥) → (n l a d : ℕ) → OfBook (ComparisonTable n l a d) ≡ r → ⊥
  unfolding kind_of
  no_table k n l a d e = k (ap kind_of (sym e))

  no_only : (kind_of r ≡ 14 → ⊥) → OfBook OnlyDeclared ≡ r → ⊥
  unfolding kind_of
  no_only n e = n (ap kind_of (sym e))

  no_row_fact : (kind_of r ≡ 4 → ⊥) → (k : ℕ) (cells : Tables.Row) → SaysRow k r cells → ⊥
  unfolding kind_of
  no_row_fact n k cells w = n (ap kind_of w.is_row)

-- ---- the scheme

nothing_said : SchemeSaid [] nothing_declared
unfolding nothing_declared pairs
nothing_said = record {
  attributes = record {
    exactly = λ i v. (λ m. absurd (Memᴰ.not-nil m), λ p. absurd (in_out p.0 (zero_out i)));
    nothing_else = λ i o. get_d_zeros ATTRIBUTES i;
  };
  objects = record {
    exactly = λ i v. (λ m. absurd (Memᴰ.not-nil m), λ p. absurd (in_out p.0 (zero_out i)));
    nothing_else = λ i o. get_d_zeros OBJECTS i;
  };
  dependencies = ended;
  left_behind = λ i h. get_d_zeros 64 i;
  right_behind = λ i h. get_d_zeros 64 i;
  maximal = record {
    declared = ended;
    removed = ended;
    only = (λ y. absurd (false≢true y), λ m. absurd (Memᴰ.not-nil m));
    declared_behind = λ i h. get_d_zeros 8 i;
    removed_behind = λ i h. get_d_zeros 8 i;
  };
  comparisons = built_in_one (λ n l a d m. absurd (Memᴰ.not-nil m)) refl refl;
}

-- what a record says nothing of stays as it is; its kind is not the one of those records
module _ (r : Record) {rs : List Record} where
  module _ {m : MaximalRecords} (v : MaximalSaid rs m) where
    same_declared : (kind_of r ≡ 5 → ⊥) → (kind_of r ≡ 15 → ⊥)
        → Gathered SaysDeclared (rs ++ r ∷ []) (take m.declarations m.declared)
    same_declared n w = gathered_same SaysDeclared r (no_declared r n w) v.declared

    same_removed : (kind_of r ≡ 6 → ⊥) → Gathered SaysRemoved (rs ++ r ∷ []) (take m.removals m.removed)
    same_removed n = gathered_same SaysRemoved r (no_removed r n) v.removed

    same_only : (kind_of r ≡ 14 → ⊥) → (m.only ≡ true) ↔ Memᴰ (OfBook OnlyDeclared) (rs ++ r ∷ [])
    same_only n = (
      λ y. Memᴰ.append_left (r ∷ []) (v.only.0 y),
      λ i. v.only.1
          (⊎_elim (λ p. p) (λ p. absurd (no_only r n (Memᴰ.eq_of_singleton p))) (Memᴰ.append_cases rs i)),
    )

    same_maximal : (kind_of r ≡ 5 → ⊥) → (kind_of r ≡ 6 → ⊥) → (kind_of r ≡ 14 → ⊥) → (kind_of r ≡ 15 → ⊥)
        → MaximalSaid (rs ++ r ∷ []) m
    same_maximal d x o w = record {
      declared = same_declared d w;
      removed = same_removed x;
      only = same_only o;
      declared_behind = v.declared_behind;
      removed_behind = v.removed_behind;
    }

  same_table : {t : TableOfMasks} → (kind_of r ≡ 13 → ⊥) → ComparisonsSaid rs t → ComparisonsSaid (rs ++ r ∷ []) t
  same_table k (built_in_one lacks z b) =
      built_in_one
      (λ n l a d m.
      ⊎_elim (λ p. lacks n l a d p) (λ p. no_table r k n l a d (Memᴰ.eq_of_singleton p))
      (Memᴰ.append_cases rs m))
      z b
  same_table k (own_one n l a d m o b) = own_one n l a d (Memᴰ.append_left (r ∷ []) m) o b

  module _ {s : Scheme} (v : SchemeSaid rs s) where
    same_attributes : (kind_of r ≡ 1 → ⊥) → ByNumber Attribute (rs ++ r ∷ []) s.attributes s.kinds
    same_attributes n = by_number_same v.attributes (no_attribute r n)

    same_objects : (kind_of r ≡ 2 → ⊥) → ByNumber Object (rs ++ r ∷ []) s.objects s.sets
    same_objects n = by_number_same v.objects (no_object r n)

    same_dependencies : (kind_of r ≡ 3 → ⊥) → Gathered SaysDependency (rs ++ r ∷ []) (dependencies_of s)
    same_dependencies n = gathered_same SaysDependency r (no_dependency r n) v.dependencies

    -- a record of another kind than 1, 2, 3 and 13
    says_maximal : {m : MaximalRecords} → (kind_of r ≡ 1 → ⊥) → (kind_of r ≡ 2 → ⊥) → (kind_of r ≡ 3 → ⊥)
        → (kind_of r ≡ 13 → ⊥) → MaximalSaid (rs ++ r ∷ []) m → SchemeSaid (rs ++ r ∷ []) (with_maximal s m)
    unfolding with_maximal
    says_maximal a o d t m = record {
      attributes = same_attributes a;
      objects = same_objects o;
      dependencies = same_dependencies d;
      left_behind = v.left_behind;
      right_behind = v.right_behind;
      maximal = m;
      comparisons = same_table t v.comparisons;
    }

module _ {rs : List Record} {s : Scheme} (w : WellFormed s) (v : SchemeSaid rs s) where
  attribute_said : (id kind : ℕ) → NewAttribute s id kind
      → SchemeSaid (rs ++ OfBook (Attribute id kind) ∷ []) (with_attribute s id kind)
  unfolding with_attribute kind_of
  attribute_said id kind n =
      let r = OfBook (Attribute id kind) in
      record {
        attributes =
            by_number_more v.attributes id kind (λ i x e. (cc, cc)) n.new
            (omega (arith, n.below, w.arrays.kinds));
        objects = same_objects r v (λ e. omega arith);
        dependencies = same_dependencies r v (λ e. omega arith);
        left_behind = v.left_behind;
        right_behind = v.right_behind;
        maximal = same_maximal r v.maximal (λ e. omega arith) (λ e. omega arith) (λ e. omega arith) (λ e. omega arith);
        comparisons = same_table r (λ e. omega arith) v.comparisons;
      }

  object_said : (number attributes : ℕ) → NewObject s number attributes
      → SchemeSaid (rs ++ OfBook (Object number attributes) ∷ []) (with_object s number attributes)
  unfolding with_object kind_of
  object_said number attributes n =
      let r = OfBook (Object number attributes) in
      record {
        attributes = same_attributes r v (λ e. omega arith);
        objects =
            by_number_more v.objects number attributes (λ i x e. (cc, cc)) n.new
            (omega (arith, n.below, w.arrays.sets));
        dependencies = same_dependencies r v (λ e. omega arith);
        left_behind = v.left_behind;
        right_behind = v.right_behind;
        maximal = same_maximal r v.maximal (λ e. omega arith) (λ e. omega arith) (λ e. omega arith) (λ e. omega arith);
        comparisons = same_table r (λ e. omega arith) v.comparisons;
      }

  dependency_said : (left right : ℕ) → NewDependency s left right
      → SchemeSaid (rs ++ OfBook (Dependency left right) ∷ []) (with_dependency s left right)
  unfolding with_dependency kind_of
  dependency_said left right n =
      let r = OfBook (Dependency left right) in
      record {
        attributes = same_attributes r v (λ e. omega arith);
        objects = same_objects r v (λ e. omega arith);
        dependencies =
            subst (Gathered SaysDependency (rs ++ r ∷ []))
            (sym (pairs_more s.dependencies s.left s.right left right
            (omega (arith, n.room, w.arrays.left)) (omega (arith, n.room, w.arrays.right))))
            (gathered_more SaysDependency r (record { left = left; right = right }) refl v.dependencies);
        left_behind = zero_from_set s.dependencies s.left left v.left_behind;
        right_behind = zero_from_set s.dependencies s.right right v.right_behind;
        maximal = same_maximal r v.maximal (λ e. omega arith) (λ e. omega arith) (λ e. omega arith) (λ e. omega arith);
        comparisons = same_table r (λ e. omega arith) v.comparisons;
      }

  declared_said : (r : Record) (M : ℕ) → (kind_of r ≡ 5) ⊎ (kind_of r ≡ 15) → SaysDeclared r M
      → NewMaximal s s.maximal.declarations M
      → SchemeSaid (rs ++ r ∷ []) (with_maximal s (with_declared s.maximal M))
  unfolding with_declared
  declared_said r M k says n =
      let m = s.maximal in
      let other : (x : ℕ) → (x ≡ 5 → ⊥) → (x ≡ 15 → ⊥) → kind_of r ≡ x → ⊥ =
      λ x a b e. ⊎_elim (λ z. a (sym e ∙ z)) (λ z. b (sym e ∙ z)) k in
      says_maximal r v (other 1 (λ e. omega arith) (λ e. omega arith)) (other 2 (λ e. omega arith) (λ e. omega arith))
      (other 3 (λ e. omega arith) (λ e. omega arith)) (other 13 (λ e. omega arith) (λ e. omega arith))
      (record {
        declared =
            subst (Gathered SaysDeclared (rs ++ r ∷ []))
            (sym (take_more m.declared m.declarations M (omega (arith, n.room, w.arrays.maximal.declared))))
            (gathered_more SaysDeclared r M says v.maximal.declared);
        removed = same_removed r v.maximal (other 6 (λ e. omega arith) (λ e. omega arith));
        only = same_only r v.maximal (other 14 (λ e. omega arith) (λ e. omega arith));
        declared_behind = zero_from_set m.declarations m.declared M v.maximal.declared_behind;
        removed_behind = v.maximal.removed_behind;
      })

  removed_said : (M : ℕ) → NewMaximal s s.maximal.removals M
      → SchemeSaid (rs ++ OfBook (Removed M) ∷ []) (with_maximal s (with_removed s.maximal M))
  unfolding with_removed kind_of
  removed_said M n =
      let r = OfBook (Removed M) in
      let m = s.maximal in
      says_maximal r v (λ e. omega arith) (λ e. omega arith) (λ e. omega arith) (λ e. omega arith)
      (record {
        declared = same_declared r v.maximal (λ e. omega arith) (λ e. omega arith);
        removed =
            subst (Gathered SaysRemoved (rs ++ r ∷ []))
            (sym (take_more m.removed m.removals M (omega (arith, n.room, w.arrays.maximal.removed))))
            (gathered_more SaysRemoved r M refl v.maximal.removed);
        only = same_only r v.maximal (λ e. omega arith);
        declared_behind = v.maximal.declared_behind;
        removed_behind = zero_from_set m.removals m.removed M v.maximal.removed_behind;
      })

  only_said : SchemeSaid (rs ++ OfBook OnlyDeclared ∷ []) (with_maximal s (with_only s.maximal))
  unfolding with_only kind_of
  only_said =
      let r = OfBook OnlyDeclared in
      says_maximal r v (λ e. omega arith) (λ e. omega arith) (λ e. omega arith) (λ e. omega arith)
      (record {
        declared = same_declared r v.maximal (λ e. omega arith) (λ e. omega arith);
        removed = same_removed r v.maximal (λ e. omega arith);
        only = (λ y. Memᴰ.append_right rs (Memᴰ.head refl), λ m. refl);
        declared_behind = v.maximal.declared_behind;
        removed_behind = v.maximal.removed_behind;
      })

  table_replaced : (names lengths angles dates : ℕ) → NewTable s names lengths angles dates
      → SchemeSaid (rs ++ OfBook (ComparisonTable names lengths angles dates) ∷ [])
      (with_table s (with_masks s.table (masks_of names lengths angles dates)))
  unfolding with_table with_masks kind_of
  table_replaced names lengths angles dates n =
      let r = OfBook (ComparisonTable names lengths angles dates) in
      record {
        attributes = same_attributes r v (λ e. omega arith);
        objects = same_objects r v (λ e. omega arith);
        dependencies = same_dependencies r v (λ e. omega arith);
        left_behind = v.left_behind;
        right_behind = v.right_behind;
        maximal = same_maximal r v.maximal (λ e. omega arith) (λ e. omega arith) (λ e. omega arith) (λ e. omega arith);
        comparisons =
            own_one names lengths angles dates (Memᴰ.append_right rs (Memᴰ.head refl)) (omega (arith, n.room))
            refl;
      }

  row_adds_nothing : (object c0 c1 c2 c3 c4 c5 : ℕ) → SchemeSaid (rs ++ OfBook (Row object c0 c1 c2 c3 c4 c5) ∷ []) s
  unfolding kind_of
  row_adds_nothing object c0 c1 c2 c3 c4 c5 =
      let r = OfBook (Row object c0 c1 c2 c3 c4 c5) in
      record {
        attributes = same_attributes r v (λ e. omega arith);
        objects = same_objects r v (λ e. omega arith);
        dependencies = same_dependencies r v (λ e. omega arith);
        left_behind = v.left_behind;
        right_behind = v.right_behind;
        maximal = same_maximal r v.maximal (λ e. omega arith) (λ e. omega arith) (λ e. omega arith) (λ e. omega arith);
        comparisons = same_table r (λ e. omega arith) v.comparisons;
      }

  declare_said : (r : Record) → fault_of s r ≡ 0 → SchemeSaid (rs ++ r ∷ []) (declare s r)
  unfolding declare fault_of checks first_of kind_of
  declare_said (OfBook (Attribute id kind)) f = attribute_said id kind (attribute_accepted s id kind f)
  declare_said (OfBook (Object number set)) f = object_said number set (object_accepted s number set f)
  declare_said (OfBook (Dependency left right)) f = dependency_said left right (dependency_accepted s left right f)
  declare_said (OfBook (Row object c0 c1 c2 c3 c4 c5)) f = row_adds_nothing object c0 c1 c2 c3 c4 c5
  declare_said (OfBook (Declared set)) f =
      declared_said (OfBook (Declared set)) set (inl refl) (inl refl) (declared_accepted s set f)
  declare_said (OfBook (Removed set)) f = removed_said set (removed_accepted s set f)
  declare_said (OfBook (ComparisonTable names lengths angles dates)) f =
      table_replaced names lengths angles dates (table_accepted s names lengths angles dates f)
  declare_said (OfBook OnlyDeclared) f = only_said
  declare_said (OfBook (DeclaredWide set)) f =
      declared_said (OfBook (DeclaredWide set)) set (inr refl) (inr refl) (declared_wide_accepted s set f)
  -- no record of a query is accepted
  declare_said (OfQuery r) f = absurd (omega (arith, f))

pub accepted_scheme_said : {b : List ℕ} {rs : List Record} {h : Held} {at : ℕ} → AcceptedAs b rs h at
    → SchemeSaid rs h.scheme
accepted_scheme_said none = nothing_said
accepted_scheme_said (one {r = r} a e f l) = declare_said (accepted_well_formed a) (accepted_scheme_said a) r f

-- ---- the rows

reads_more : {b : List ℕ} {from at next : ℕ} {rs : List Record} {r : Record} → Reads b from rs at
    → read_at b at ≡ Found r next → Reads b from (rs ++ r ∷ []) next
reads_more done e = more e done
reads_more (more q w) e = more q (reads_more w e)

length_all_more : (rs : List Record) (r : Record)
    → length (bytes_of_all (rs ++ r ∷ [])) ≡ length (bytes_of_all rs) + length (bytes_of r)
unfolding bytes_of_all
length_all_more [] r = omega (arith, length-append (bytes_of r) [])
length_all_more (q ∷ rs) r =
    omega (
      arith,
      length-append (bytes_of q) (bytes_of_all (rs ++ r ∷ [])),
      length-append (bytes_of q) (bytes_of_all rs),
      length_all_more rs r,
    )

-- accepted records end behind their bytes
accepted_length : {b : List ℕ} {rs : List Record} {h : Held} {at : ℕ} → AcceptedAs b rs h at
    → at ≡ length (bytes_of_all rs)
unfolding bytes_of_all
accepted_length none = refl
accepted_length {b} (one {rs = rs} {at = at} {r = r} a e f l) =
    omega (
      arith,
      accepted_length a,
      (whole_read_at b at e).place,
      kind_then_body.long r,
      length_all_more rs r,
    )

module _ (r : Record) where
  -- the position of a record behind others
  behind : (at : ℕ) (q : Record) (rs : List Record)
      → at + length (bytes_of q) + length (bytes_of_all rs) ≡ at + length (bytes_of_all (q ∷ rs))
  unfolding bytes_of_all
  behind at q rs = omega (arith, length-append (bytes_of q) (bytes_of_all rs))

  rows_at_more : {at : ℕ} {rs : List Record} {rows : List ℕ} → kind_of r ≡ 4 → RowsAt at rs rows
      → RowsAt at (rs ++ r ∷ []) (rows ++ (at + length (bytes_of_all rs)) ∷ [])
  unfolding bytes_of_all
  rows_at_more {at} e behind_last =
      subst (λ (p : ℕ). RowsAt at (r ∷ []) (p ∷ [])) (sym (add-zero at)) (row e behind_last)
  rows_at_more {at} e (row {r = q} {rs = rs} {rows = rows} y w) =
      subst (λ (p : ℕ). RowsAt at (q ∷ rs ++ r ∷ []) (at ∷ rows ++ p ∷ [])) (behind at q rs)
      (row y (rows_at_more e w))
  rows_at_more {at} e (no_row {r = q} {rs = rs} {rows = rows} n w) =
      subst (λ (p : ℕ). RowsAt at (q ∷ rs ++ r ∷ []) (rows ++ p ∷ [])) (behind at q rs) (no_row n (rows_at_more e w))

  rows_at_same : {at : ℕ} {rs : List Record} {rows : List ℕ} → (kind_of r ≡ 4 → ⊥) → RowsAt at rs rows
      → RowsAt at (rs ++ r ∷ []) rows
  rows_at_same n behind_last = no_row n behind_last
  rows_at_same n (row y w) = row y (rows_at_same n w)
  rows_at_same n (no_row m w) = no_row m (rows_at_same n w)

rows_of_more : (b rows : List ℕ) (at k : ℕ) → rows_of b (rows ++ at ∷ []) k ≡ rows_of b rows k ++ row_of k (read_at b at)
unfolding rows_of
rows_of_more b [] at k = append-nil (row_of k (read_at b at))
rows_of_more b (p ∷ rows) at k =
    ap (λ (l : List Tables.Row). row_of k (read_at b p) ++ l) (rows_of_more b rows at k)
    ∙ sym (append_assoc (row_of k (read_at b p)) (rows_of b rows k) (row_of k (read_at b at)))

module _ {b : List ℕ} {rs : List Record} {rows : List ℕ} {at next : ℕ} (v : RowsSaid b rs rows at)
    (here : at ≡ length (bytes_of_all rs)) where
  -- a row of object k adds its cells to those of k, and nothing to those of another object
  row_of_object : (object c0 c1 c2 c3 c4 c5 k : ℕ) → read_at b at ≡ Found (OfBook (Row object c0 c1 c2 c3 c4 c5)) next
      → Gathered (SaysRow k) (rs ++ OfBook (Row object c0 c1 c2 c3 c4 c5) ∷ []) (rows_of b (rows ++ at ∷ []) k)
  unfolding row_of cells_of
  row_of_object object c0 c1 c2 c3 c4 c5 k e =
      subst (Gathered (SaysRow k) (rs ++ r ∷ []))
      (sym (rows_of_more b rows at k ∙ ap (λ (x : _). rows_of b rows k ++ row_of k x) e))
      (⊎_elim same other (eq_or_ne object k))
    where
      r : Record
      r = OfBook (Row object c0 c1 c2 c3 c4 c5)

      cells : Tables.Row
      cells = c0 ∷ c1 ∷ c2 ∷ c3 ∷ c4 ∷ c5 ∷ []

      by : Bool → List Tables.Row
      by t = rows_of b rows k ++ elim t [ true ↦ cells ∷ [] | false ↦ [] ]

      same : object ≡ k → Gathered (SaysRow k) (rs ++ r ∷ []) (by (eqb object k))
      same q =
          subst (λ (t : Bool). Gathered (SaysRow k) (rs ++ r ∷ []) (by t)) (sym (eq-eqb object k q))
          (gathered_more (SaysRow k) r cells (record {
            c0 = c0;
            c1 = c1;
            c2 = c2;
            c3 = c3;
            c4 = c4;
            c5 = c5;
            is_row = ap (λ (x : ℕ). OfBook (Row x c0 c1 c2 c3 c4 c5)) q;
            cells = refl;
          }) (v.of_object k))

      other : (object ≡ k → ⊥) → Gathered (SaysRow k) (rs ++ r ∷ []) (by (eqb object k))
      other d =
          subst (λ (t : Bool). Gathered (SaysRow k) (rs ++ r ∷ []) (by t)) (sym (ne_eqb object k d))
          (subst (Gathered (SaysRow k) (rs ++ r ∷ [])) (sym (append-nil (rows_of b rows k)))
          (gathered_same (SaysRow k) r (λ x w. let q = w.is_row in d (cc)) (v.of_object k)))

  row_said : (object c0 c1 c2 c3 c4 c5 : ℕ) → read_at b at ≡ Found (OfBook (Row object c0 c1 c2 c3 c4 c5)) next
      → RowsSaid b (rs ++ OfBook (Row object c0 c1 c2 c3 c4 c5) ∷ []) (rows ++ at ∷ []) next
  unfolding kind_of
  row_said object c0 c1 c2 c3 c4 c5 e = record {
    read = reads_more v.read e;
    positions =
        subst (λ (p : ℕ). RowsAt 0 (rs ++ OfBook (Row object c0 c1 c2 c3 c4 c5) ∷ []) (rows ++ p ∷ []))
        (zero-add _ ∙ sym here)
        (rows_at_more (OfBook (Row object c0 c1 c2 c3 c4 c5)) refl v.positions);
    of_object = λ k. row_of_object object c0 c1 c2 c3 c4 c5 k e;
  }

  no_row_said : (r : Record) → (kind_of r ≡ 4 → ⊥) → read_at b at ≡ Found r next → RowsSaid b (rs ++ r ∷ []) rows next
  no_row_said r n e = record {
    read = reads_more v.read e;
    positions = rows_at_same r n v.positions;
    of_object = λ k. gathered_same (SaysRow k) r (no_row_fact r n k) (v.of_object k);
  }

  more_said : (r : Record) → read_at b at ≡ Found r next → RowsSaid b (rs ++ r ∷ []) (with_row rows r at) next
  unfolding with_row is_row kind_of
  more_said r e = by (row_or_not r) e
    where
      by : {r : Record} → RowOrNot r → read_at b at ≡ Found r next → RowsSaid b (rs ++ r ∷ []) (with_row rows r at) next
      by (a_row object c0 c1 c2 c3 c4 c5) e = row_said object c0 c1 c2 c3 c4 c5 e
      by {r} (another_kind n) e =
          subst (λ (l : List ℕ). RowsSaid b (rs ++ r ∷ []) l next) (sym (no_row_added rows r at n)) (no_row_said r n e)

pub accepted_rows_said : {b : List ℕ} {rs : List Record} {h : Held} {at : ℕ} → AcceptedAs b rs h at
    → RowsSaid b rs h.rows at
unfolding rows_of
accepted_rows_said none = record { read = done; positions = behind_last; of_object = λ k. ended }
accepted_rows_said (one {r = r} a e f l) = more_said (accepted_rows_said a) (accepted_length a) r e

-- ---- the tables

table_at_map : (f : ℕ → Tables.Table) (l : List ℕ) {n : ℕ} → n < length l → Tables.table_at (map f l) n ≡ f (get_or l n 0)
table_at_map f [] h = absurd (not-suc-le-zero h)
table_at_map f (x ∷ l) {n = zero} h = refl
table_at_map f (x ∷ l) {n = suc n} h = table_at_map f l (le_of_suc-le-suc h)

-- the table at the rank of an object of M is its own
pub table_said : {b : List ℕ} {rs : List Record} {at : ℕ} (o : Outcome) → RowsSaid b rs o.rows at
    → (M : ℕ) {k : ℕ} → k < OBJECTS → k ∈ M → TableSaid rs o.scheme k (Tables.table_at (tables_of b o M) (rank M k))
unfolding tables_of
table_said {b} {rs} o v M {k} h i =
    subst (TableSaid rs o.scheme k)
    (sym (table_at_map table (members OBJECTS M) there ∙ ap table (get_d_members OBJECTS 0 h i)))
    (record { set_is = refl; rows_are = v.of_object k })
  where
    table : ℕ → Tables.Table
    table j = record { set = get_or o.scheme.sets j 0; rows = rows_of b o.rows j }

    there : rank M k < length (members OBJECTS M)
    there = subst (λ (n : ℕ). rank M k < n) (sym (length_members OBJECTS M)) (rank_lt i h)

-- ---- the row of a record in bytes

module _ (b : List ℕ) (at : ℕ) {next k : ℕ} {r : Record} {cells : Tables.Row} (e : read_at b at ≡ Found r next)
    (w : SaysRow k r cells) where
  kind_four : kind_of r ≡ 4
  unfolding kind_of
  kind_four = ap kind_of w.is_row

  pub row_whole : at + 26 ≤ length b
  unfolding body_length kinds
  row_whole =
      let v = whole_read_at b at e in
      omega (arith, v.place, v.within, ap body_length kind_four)

  -- a field of the body by its place behind the kind byte
  cell_at : (j n : ℕ) → at + 1 + j ≡ n → field 4 (drop (at + 1) b) j ≡ field 4 b n
  cell_at j n q = field_drop 4 b (at + 1) j ∙ ap (field 4 b) q

  body_is : OfBook (Row k w.c0 w.c1 w.c2 w.c3 w.c4 w.c5) ≡ record_of 4 (drop (at + 1) b)
  body_is = sym w.is_row ∙ (whole_read_at b at e).body ∙ ap (λ (n : ℕ). record_of n (drop (at + 1) b)) kind_four

  pub row_in_bytes_is : BookRows.row_of b at ≡ cells
  unfolding record_of bodies BookRows.row_of
  row_in_bytes_is =
      let f0 = cell_at 1 (at + 2) (omega arith) in
      let f1 = cell_at 5 (at + 6) (omega arith) in
      let f2 = cell_at 9 (at + 10) (omega arith) in
      let f3 = cell_at 13 (at + 14) (omega arith) in
      let f4 = cell_at 17 (at + 18) (omega arith) in
      let f5 = cell_at 21 (at + 22) (omega arith) in
      let q = body_is in
      let p = w.cells in
      cc

  pub row_in_tables : row_of k (read_at b at) ≡ BookRows.row_of b at ∷ []
  unfolding row_of cells_of
  row_in_tables =
      ap (row_of k) e ∙ ap (cells_of k) w.is_row
      ∙ ap (λ (t : Bool). elim t [ true ↦ said ∷ [] | false ↦ [] ]) (eq-eqb k k refl)
      ∙ ap (λ (l : Tables.Row). l ∷ []) (sym w.cells ∙ sym row_in_bytes_is)
    where
      said : Tables.Row
      said = w.c0 ∷ w.c1 ∷ w.c2 ∷ w.c3 ∷ w.c4 ∷ w.c5 ∷ []
