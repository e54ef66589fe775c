-- The ways of a variable: which they are, how many, and their order.
-- In order: the number of ways, distinct rows, ways by one maximal object, ways, the order of rows, the order of ways.
-- Assumes nothing.
use mathlib.Core.Path.{◌≡◌, refl, sym, ap, ap₂, ◌∙◌, subst}
use mathlib.Core.Logic.{⊎_elim, ◌↔◌}
use mathlib.Core.List.Memᴰ
use mathlib.Core.List.{List, [], ◌∷◌, map, Memᴰ}
use Prim.Native.Nat.{ℕ, zero, suc, ◌+◌, ◌<◌, ◌^◌}
use native.Mathlib.Nat.{lt_trans}
use native.Mathlib.Omega.{arith}
use lib.ListN.{length, get_or, length-append, length-map}
use Rattle.sets.specs.Sets.{◌⊆◌, members, ATTRIBUTES}
use Rattle.sets.proofs.Tests.{yes_no}
use Rattle.sets.proofs.Members.{members_only}
use Rattle.reduction.specs.Steps.{NoneTwice}
use Rattle.relation.specs.Tables.{Row, cell_of, Table, projected}
use Rattle.relation.specs.Joins.{Picked, none, one, shown_rows}
use Rattle.relation.proofs.Tables.{of_project}
use Rattle.scheme.specs.Growing.{attributes_of}
use Rattle.scheme.specs.OfScheme.{maximal_of}
use Rattle.scheme.specs.Statements.{LeavesOut, ended, kept, out}
use Rattle.scheme.proofs.Lists.{leaves_out_in}
use Rattle.book.specs.Reading.{Outcome, read}
use Rattle.book.specs.TablesOf.{tables_of}
use Rattle.book.proofs.Theorems.{maximal_objects_read}
use Rattle.query.proofs.Whole.{containing_only, containing_has, containing_ordered}
use Rattle.sorted.specs.Rows.{OfKinds, AllOfKinds}
use Rattle.sorted.proofs.Rows.{ascending_at, less_irreflexive, less_transitive}
use Rattle.sorted.proofs.Theorems.{rows_sorted}
use Rattle.connection.specs.Picks.{picks_of, Before}
use Rattle.connection.specs.Connection.{objects_for}
use Rattle.connection.specs.Answers.{shown_tables}
use Rattle.connection.specs.Fitting.{table_of}
use Rattle.connection.specs.Order.{column_kinds, distinct_rows, Way, ways_by, ways_among, ways_of}
use Rattle.connection.specs.Order.{rows_product, objects_sum, RowBefore, StandsBefore, WayBefore, by_object, by_rows}
use Rattle.connection.proofs.Shown.{shown_on, of_shown_row, of_shown}
use Rattle.connection.proofs.Ranged.{cell_lt}
use Rattle.connection.proofs.Picks as Picks
use Rattle.connection.proofs.Picks.{OneOfEach, of_picks, picks_have, picks_counted, InOrder, more, order_append}
use Rattle.connection.proofs.Picks.{at_order, order_map, picks_in_order, before_not_both}

abbrev way : ℕ → List Row → Way
way M rows = record { object = M; rows = rows }

-- ---- the number of ways

module _ (b : List ℕ) (o : Outcome) (X : ℕ) where
  ways_by_counted : (M : ℕ) → length (ways_by b o X M) ≡ rows_product b o X M
  unfolding ways_by rows_product
  ways_by_counted M =
      length-map (picks_of (map (distinct_rows o) (shown_tables b o M X))) (way M)
      ∙ picks_counted (distinct_rows o) (λ T. length (distinct_rows o T)) (λ T. refl) (shown_tables b o M X)

  pub ways_counted : (Ms : List ℕ) → length (ways_among b o X Ms) ≡ objects_sum b o X Ms
  unfolding ways_among objects_sum
  ways_counted [] = refl
  ways_counted (M ∷ Ms) =
      length-append (ways_by b o X M) (ways_among b o X Ms)
      ∙ ap₂ (λ (m n : ℕ). m + n) (ways_by_counted M) (ways_counted Ms)

-- ---- distinct rows

-- cells below a bound, as the list of them has them
all_below : (f : ℕ → ℕ) (l : List ℕ) → ((a : ℕ) → Memᴰ a l → f a < 2 ^ 32) → (i : ℕ) → get_or (map f l) i 0 < 2 ^ 32
all_below f [] h i = omega arith
all_below f (a ∷ l) h zero = h a (Memᴰ.head refl)
all_below f (a ∷ l) h (suc i) = all_below f l (λ x m. h x (Memᴰ.tail m)) i

module _ (b : List ℕ) (X M : ℕ) where
  -- the tables of the kept sets of M
  abbrev tables : List Table
  tables = shown_tables b (read b) M X

  abbrev kinds_on : ℕ → List ℕ
  kinds_on K = column_kinds (read b) (shown_on b (read b) M K)

  shown_of_kinds : (K : ℕ) → AllOfKinds (kinds_on K) (shown_rows (tables_of b (read b) M) K)
  unfolding projected
  shown_of_kinds K = record {
    each = λ row m.
        let (k, s, i) = of_shown_row b (read b) M m in
        let p = of_project K (table_of b (read b) k) i in
        subst (OfKinds (kinds_on K)) (sym p.shows) (record {
          wide = length-map (members ATTRIBUTES K) _ ∙ sym (length-map (members ATTRIBUTES K) _);
          cells = all_below (cell_of (table_of b (read b) k).set p.origin) (members ATTRIBUTES K) (λ a j.
              cell_lt b {M = M} s.below s.there p.there
              (s.contains.each (members_only ATTRIBUTES K j).1));
        });
  }

  table_of_kinds : {T : Table} → Memᴰ T tables → AllOfKinds (column_kinds (read b) T) T.rows
  table_of_kinds m =
      let (K, s, e) = of_shown b (read b) M X m in
      subst (λ (U : Table). AllOfKinds (column_kinds (read b) U) U.rows) (sym e) (shown_of_kinds K)

  distinct_are : {T : Table} → Memᴰ T tables → (r : Row)
      → Memᴰ r (distinct_rows (read b) T) ↔ Memᴰ r T.rows
  unfolding distinct_rows
  distinct_are {T} m r = (rows_sorted (column_kinds (read b) T)).members T.rows (table_of_kinds m) r

  -- ---- ways by one maximal object

  each_picked : (Ts : List Table) → ((T : Table) → Memᴰ T Ts → Memᴰ T tables) → {rows : List Row}
      → OneOfEach (distinct_rows (read b)) Ts rows → Picked Ts rows
  each_picked [] h Picks.none = none
  each_picked (T ∷ Ts) h (Picks.one i e) =
      one ((distinct_are (h T (Memᴰ.head refl)) _).0 i) (each_picked Ts (λ U m. h U (Memᴰ.tail m)) e)

  picked_each : (Ts : List Table) → ((T : Table) → Memᴰ T Ts → Memᴰ T tables) → {rows : List Row}
      → Picked Ts rows → OneOfEach (distinct_rows (read b)) Ts rows
  picked_each [] h none = Picks.none
  picked_each (T ∷ Ts) h (one i e) =
      Picks.one ((distinct_are (h T (Memᴰ.head refl)) _).1 i) (picked_each Ts (λ U m. h U (Memᴰ.tail m)) e)

  of_ways_by : {w : Way} → Memᴰ w (ways_by b (read b) X M)
      → (w.object ≡ M) × Picked (shown_tables b (read b) w.object X) w.rows
  unfolding ways_by
  of_ways_by {w} m =
      let (rows, i, e) = Memᴰ.of_map (way M) (picks_of (map (distinct_rows (read b)) tables)) m in
      let p : Picked tables rows = each_picked tables (λ T k. k) (of_picks (distinct_rows (read b)) tables i) in (
        sym (ap (λ (x : Way). x.object) e),
        subst (λ (x : Way). Picked (shown_tables b (read b) x.object X) x.rows) e p,
      )

  ways_by_have : {rows : List Row} → Picked tables rows → Memᴰ (way M rows) (ways_by b (read b) X M)
  unfolding ways_by
  ways_by_have p = Memᴰ.map (way M) (picks_have (distinct_rows (read b)) (picked_each tables (λ T m. m) p))

-- ---- ways

module _ (b : List ℕ) (X : ℕ) where
  -- a maximal object of some, and a row of each table of its kept sets
  record WayAmong (Ms : List ℕ) (w : Way) : Type 0 where
    there : Memᴰ w.object Ms
    picked : Picked (shown_tables b (read b) w.object X) w.rows

  of_ways_among : (Ms : List ℕ) {w : Way} → Memᴰ w (ways_among b (read b) X Ms) → WayAmong Ms w
  unfolding ways_among
  of_ways_among [] m = absurd (Memᴰ.not-nil m)
  of_ways_among (M ∷ Ms) m =
      ⊎_elim
      (λ i. let p = of_ways_by b X M i in record { there = Memᴰ.head p.0; picked = p.1 })
      (λ i. let p = of_ways_among Ms i in record { there = Memᴰ.tail p.there; picked = p.picked })
      (Memᴰ.append_cases (ways_by b (read b) X M) m)

  ways_among_have : (Ms : List ℕ) {w : Way} → WayAmong Ms w → Memᴰ w (ways_among b (read b) X Ms)
  unfolding ways_among
  ways_among_have [] s = absurd (Memᴰ.not-nil s.there)
  ways_among_have (M ∷ Ms) {w} s =
      ⊎_elim
      (λ e.
      Memᴰ.append_left (ways_among b (read b) X Ms)
      (Memᴰ.cast (ap (λ (N : ℕ). way N w.rows) e)
      (ways_by_have b X M (subst (λ (N : ℕ). Picked (shown_tables b (read b) N X) w.rows) e s.picked))))
      (λ i.
      Memᴰ.append_right (ways_by b (read b) X M) (ways_among_have Ms (record { there = i; picked = s.picked })))
      (Memᴰ.cases_cons s.there)

  -- "an M that contains its X and one distinct row for each kept set of that M"
  pub record IsWay (w : Way) : Type 0 where
    pub there : Memᴰ w.object (maximal_of (read b).scheme)
    pub contains : X ⊆ attributes_of (read b).scheme.sets w.object
    pub picked : Picked (shown_tables b (read b) w.object X) w.rows

  pub of_ways : {w : Way} → Memᴰ w (ways_of b (read b) X) → IsWay w
  of_ways m =
      let s = of_ways_among (objects_for (read b) X) m in
      let c = containing_only (read b).scheme.sets X (maximal_of (read b).scheme) s.there in
      record { there = c.0; contains = c.1; picked = s.picked }

  pub ways_have : {w : Way} → IsWay w → Memᴰ w (ways_of b (read b) X)
  ways_have i = ways_among_have (objects_for (read b) X) (record {
    there = containing_has (read b).scheme.sets X i.there i.contains;
    picked = i.picked;
  })

-- ---- the order of rows

row_not_both : (o : Outcome) (T : Table) (r q : Row) → RowBefore o T r q → RowBefore o T q r → ⊥
row_not_both o T r q h k =
    yes_no (less_transitive (column_kinds o T) r q r h k) (less_irreflexive (column_kinds o T) r)

module _ (b : List ℕ) (X M : ℕ) where
  distinct_in_order : (T : Table) → Memᴰ T (shown_tables b (read b) M X)
      → InOrder (RowBefore (read b) T) (distinct_rows (read b) T)
  unfolding distinct_rows
  distinct_in_order T m =
      at_order [] (distinct_rows (read b) T) (ascending_at (column_kinds (read b) T) (distinct_rows (read b) T)
      ((rows_sorted (column_kinds (read b) T)).ascending T.rows (table_of_kinds b X M m)))

  ways_by_in_order : InOrder (WayBefore b (read b) X) (ways_by b (read b) X M)
  unfolding ways_by
  ways_by_in_order =
      order_map (way M) (λ r q. by_rows refl)
      (picks_in_order (distinct_rows (read b)) (shown_tables b (read b) M X) distinct_in_order)

-- ---- the order of ways

pub order_leaves_out : {R : ℕ → ℕ → Type 0} {l m : List ℕ} → LeavesOut l m → InOrder R m → InOrder R l
order_leaves_out ended a = a
order_leaves_out (kept s p) (more n a) = more (λ y i. n y (leaves_out_in p i)) (order_leaves_out p a)
order_leaves_out (out s p) (more n a) = order_leaves_out p a

-- each element of a list stands before each later one
stands_in_order : (l : List ℕ) → InOrder (StandsBefore l) l
stands_in_order l = at_order 0 l (λ i j h k.
    record { place = i; later = j; before = h; inside = k; has = refl; has_later = refl })

stands_not_both : {l : List ℕ} {M N : ℕ} → NoneTwice l → StandsBefore l M N → StandsBefore l N M → ⊥
stands_not_both {l} n s t =
    let h : s.place < length l = lt_trans s.before s.inside in
    let k : t.place < length l = lt_trans t.before t.inside in
    let e : s.place ≡ t.later = n.once s.place t.later h t.inside (s.has ∙ sym t.has_later) in
    let f : s.later ≡ t.place = n.once s.later t.place s.inside k (s.has_later ∙ sym t.has) in
    omega (arith, s.before, t.before, e, f)

module _ (b : List ℕ) (X : ℕ) where
  ways_among_in_order : {Ms : List ℕ} → InOrder (StandsBefore (maximal_of (read b).scheme)) Ms
      → InOrder (WayBefore b (read b) X) (ways_among b (read b) X Ms)
  unfolding ways_among
  ways_among_in_order Picks.none = Picks.none
  ways_among_in_order (more {x = M} {l = Ms} n a) =
      order_append (ways_by_in_order b X M) (ways_among_in_order a) (λ w z i j.
      by_object (subst (λ (N : ℕ). StandsBefore (maximal_of (read b).scheme) N z.object)
      (sym (of_ways_by b X M i).0) (n z.object (of_ways_among b X Ms j).there)))

  pub ways_in_order : InOrder (WayBefore b (read b) X) (ways_of b (read b) X)
  ways_in_order =
      ways_among_in_order (order_leaves_out (containing_ordered (read b).scheme.sets X (maximal_of (read b).scheme))
      (stands_in_order (maximal_of (read b).scheme)))

  once_listed : NoneTwice (maximal_of (read b).scheme)
  unfolding maximal_of
  once_listed = (maximal_objects_read b).list.none_twice

  pub way_not_both : (w z : Way) → WayBefore b (read b) X w z → WayBefore b (read b) X z w → ⊥
  way_not_both w z (by_object s) (by_object t) = stands_not_both once_listed s t
  way_not_both w z (by_object s) (by_rows e r) =
      let t = subst (λ (N : ℕ). StandsBefore (maximal_of (read b).scheme) w.object N) e s in
      stands_not_both once_listed t t
  way_not_both w z (by_rows e r) (by_object s) =
      let t = subst (λ (N : ℕ). StandsBefore (maximal_of (read b).scheme) z.object N) e s in
      stands_not_both once_listed t t
  way_not_both w z (by_rows e r) (by_rows f s) =
      before_not_both (row_not_both (read b)) r
      (subst (λ (N : ℕ). Before (RowBefore (read b)) (shown_tables b (read b) N X) z.rows w.rows) (sym e) s)
