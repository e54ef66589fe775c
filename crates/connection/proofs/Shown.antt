-- The objects that show a set: the tables shown for M and X are those of the kept sets, and their rows are those that
-- the objects which contain a kept set have on it.
-- In order: the tables of the objects, the rows that objects show on a set, the kept sets of the tables, the tables
-- shown, attributes of two kept sets.
-- Assumes nothing.
use mathlib.Core.Path.{◌≡◌, sym, ap, ◌∙◌, subst}
use mathlib.Core.List.Memᴰ
use mathlib.Core.List.{List, Memᴰ}
use Prim.Native.Nat.{ℕ, ◌<◌}
use native.Mathlib.Nat.{lt_trans}
use native.Mathlib.Omega.{arith}
use lib.ListN.{length}
use Rattle.sets.specs.Sets.{◌∈◌, ◌⊆◌, members, OBJECTS}
use Rattle.sets.proofs.Members.{members_only, members_has}
use Rattle.reduction.specs.Steps.{Family, at}
use Rattle.reduction.specs.Kept.{cut_to, left, kept}
use Rattle.reduction.proofs.Places.{mem_at, place_of}
use Rattle.reduction.proofs.Kept.{kept_none_twice}
use Rattle.relation.specs.Tables.{Row, Table, family, project}
use Rattle.relation.specs.Joins.{OfTwo, kept_sets, shown_rows, union_table}
use Rattle.relation.proofs.Standing.{table_mem}
use Rattle.relation.proofs.Unions.{shown_at, at_shown}
use Rattle.relation.proofs.Sharing.{of_two_at}
use Rattle.book.specs.Reading.{Outcome}
use Rattle.book.specs.TablesOf.{tables_of}
use Rattle.book.proofs.TablesOf.{tables_family}
use Rattle.scheme.specs.KeptSets.{kept_for, Shows}
use Rattle.connection.specs.Answers.{shown_tables}
use Rattle.connection.specs.Fitting.{table_of}

-- ---- the tables of the objects

module _ (b : List ℕ) (o : Outcome) (M : ℕ) where
  pub table_there : {c : ℕ} → c < OBJECTS → c ∈ M → Memᴰ (table_of b o c) (tables_of b o M)
  unfolding tables_of
  table_there h i = Memᴰ.map (table_of b o) (members_has OBJECTS h i)

  of_tables : {T : Table} → Memᴰ T (tables_of b o M) → (c : ℕ) × (c < OBJECTS) × (c ∈ M) × (T ≡ table_of b o c)
  unfolding tables_of
  of_tables m =
      let p = Memᴰ.of_map (table_of b o) (members OBJECTS M) m in
      let q = members_only OBJECTS M p.1 in
      (p.0, q.0, q.1, sym p.2)

  -- ---- the rows that objects show on a set

  -- the table of them
  abbrev pub shown_on : ℕ → Table
  shown_on K = union_table (tables_of b o M) K

  pub row_of_object : {K k : ℕ} {row : Row} → Shows o.scheme.sets M K k
      → Memᴰ row (project K (table_of b o k)).rows → Memᴰ row (shown_rows (tables_of b o M) K)
  row_of_object {K} s m = at_shown (tables_of b o M) K (table_there s.below s.there) s.contains m

  pub of_shown_row : {K : ℕ} {row : Row} → Memᴰ row (shown_rows (tables_of b o M) K)
      → (k : ℕ) × Shows o.scheme.sets M K k × Memᴰ row (project K (table_of b o k)).rows
  of_shown_row {K} {row} m =
      let p = shown_at (tables_of b o M) K m in
      let (k, h, i, e) = of_tables (table_mem (tables_of b o M) p.place p.there) in (
        k,
        record { below = h; there = i; contains = subst (λ (T : Table). K ⊆ T.set) e p.contains },
        subst (λ (T : Table). Memᴰ row (project K T).rows) e p.shows,
      )

module _ (b : List ℕ) (o : Outcome) (M X : ℕ) where
  -- ---- the kept sets of the tables

  abbrev kept_ones : Family
  kept_ones = kept_sets (tables_of b o M) X

  pub tables_kept : kept_ones ≡ kept_for o.scheme.sets M X
  tables_kept = ap (kept X) (tables_family b o M)

  of_tables_kept : {K : ℕ} → Memᴰ K kept_ones → Memᴰ K (kept_for o.scheme.sets M X)
  of_tables_kept {K} m = subst (Memᴰ K) tables_kept m

  in_tables_kept : {K : ℕ} → Memᴰ K (kept_for o.scheme.sets M X) → Memᴰ K kept_ones
  in_tables_kept {K} m = subst (Memᴰ K) (sym tables_kept) m

  -- ---- the tables shown

  -- the tables shown are those of the kept sets
  pub shown_has : {K : ℕ} → Memᴰ K (kept_for o.scheme.sets M X)
      → Memᴰ (shown_on b o M K) (shown_tables b o M X)
  shown_has m = Memᴰ.map (shown_on b o M) (in_tables_kept m)

  pub of_shown : {T : Table} → Memᴰ T (shown_tables b o M X)
      → (K : ℕ) × Memᴰ K (kept_for o.scheme.sets M X) × (T ≡ shown_on b o M K)
  of_shown m =
      let p = Memᴰ.of_map (shown_on b o M) kept_ones m in
      (p.0, of_tables_kept p.1, sym p.2)

  -- ---- attributes of two kept sets

  -- an attribute of those of two is one of two kept sets, and the other way
  pub kept_of_two : {a K L : ℕ} → Memᴰ K (kept_for o.scheme.sets M X)
      → Memᴰ L (kept_for o.scheme.sets M X) → (K ≡ L → ⊥) → a ∈ K → a ∈ L → OfTwo kept_ones a
  kept_of_two {a} s t n i j =
      let p = place_of (in_tables_kept s) in
      let q = place_of (in_tables_kept t) in
      of_two_at {F = kept_ones} (λ e. n (sym p.holds ∙ ap (at kept_ones) e ∙ q.holds)) p.there q.there
      (subst (λ (K : ℕ). a ∈ K) (sym p.holds) i) (subst (λ (K : ℕ). a ∈ K) (sym q.holds) j)

  pub record TwoKeep (a : ℕ) : Type 0 where
    pub one : ℕ
    pub other : ℕ
    pub one_kept_law : Memᴰ one (kept_for o.scheme.sets M X)
    pub other_kept : Memᴰ other (kept_for o.scheme.sets M X)
    pub apart : one ≡ other → ⊥
    pub in_one : a ∈ one
    pub in_other : a ∈ other

  pub of_two_keep : {a : ℕ} → OfTwo kept_ones a → TwoKeep a
  unfolding kept
  of_two_keep {a} w =
      let h : w.first < length kept_ones = lt_trans w.before w.there in
      record {
        one = at kept_ones w.first;
        other = at kept_ones w.second;
        one_kept_law = of_tables_kept (mem_at kept_ones w.first h);
        other_kept = of_tables_kept (mem_at kept_ones w.second w.there);
        apart = λ z. omega (
          arith,
          w.before,
          (kept_none_twice (cut_to (left X (family (tables_of b o M))) (family (tables_of b o M)))).once w.first
              w.second h w.there z,
        );
        in_one = w.in_first;
        in_other = w.in_second;
      }
