-- The connection by cells: a row is in a part exactly if it shows cells that fit the maximal object, and so an answer
-- row is one exactly if it has the items of cells that fit the query.
-- In order: cells that fit the tables shown, parts, the connection, answer rows.
-- Assumes nothing.
use mathlib.Core.Path.{◌≡◌, refl, sym, ap, ◌∙◌, subst}
use mathlib.Core.List.Memᴰ
use mathlib.Core.List.{List, map}
use Prim.Native.Nat.{ℕ, ◌<◌}
use lib.ListN.{get_or}
use Rattle.sets.specs.Sets.{◌∈◌, ◌⊆◌, members, ATTRIBUTES, OBJECTS}
use Rattle.sets.proofs.Bits.{member_lt}
use Rattle.reduction.specs.Steps.{Family}
use Rattle.reduction.specs.Kept.{union, kept}
use Rattle.reduction.specs.Statements.{OfAttributes}
use Rattle.reduction.proofs.Left.{union-⊇}
use Rattle.relation.specs.Tables.{Row, cell_of, Table, family, projected, project}
use Rattle.relation.proofs.Tables.{cell_projected, of_project, project_has}
use Rattle.relation.specs.Joins.{OfTwo, kept_sets}
use Rattle.relation.proofs.Fitting.{FitsOn, AllFit, Stated, join_assigned, assigned_join}
use Rattle.relation.proofs.KeptSets.{wanted_kept}
use Rattle.relation.proofs.Unions.{family_unions, inside_unions}
use Rattle.scheme.specs.Growing.{family_of, attributes_of}
use Rattle.book.specs.Reading.{Outcome}
use Rattle.book.specs.TablesOf.{tables_of}
use Rattle.book.proofs.TablesOf.{tables_family}
use Rattle.query.specs.Asking.{Asking, Named, attributes_named}
use Rattle.connection.specs.Connection.{InPart, InConnection}
use Rattle.connection.specs.Answers.{Cells, cells_of, InAnswer, shown_tables}
use Rattle.scheme.proofs.KeptSets.{object_in_family, kept_shown}
use Rattle.connection.specs.Fitting.{table_of, RowFits, FitsObject, FitsVariable, FitsQuery}
use Rattle.connection.specs.Statements.{NamesInRange}
use Rattle.connection.proofs.Shown.{row_of_object, of_shown_row, shown_on, shown_has, of_shown}
use Rattle.connection.proofs.Shown.{kept_of_two, of_two_keep}
use Rattle.connection.proofs.Named.{AgreeOnNames, items_agree, condition_agrees, shown_agree, for_each_fact, for_each}

module _ (b : List ℕ) (o : Outcome) (bounded : (M : ℕ) → OfAttributes (family_of o.scheme.sets M)) where
  -- ---- cells that fit the tables shown

  -- attributes are below ATTRIBUTES
  attribute_lt : {M c a : ℕ} → c < OBJECTS → c ∈ M → a ∈ get_or o.scheme.sets c 0 → a < ATTRIBUTES
  attribute_lt {M} {c} h i j =
      member_lt ATTRIBUTES ((bounded M).bounded (get_or o.scheme.sets c 0)
      (object_in_family o.scheme.sets M h i)) j

  module _ {M : ℕ} {ρ : ℕ → ℕ} where
    row_fits_on : {K B : ℕ} → RowFits b o M K ρ → FitsOn B ρ (shown_on b o M K)
    unfolding project
    row_fits_on {K} r =
        let S : ℕ = get_or o.scheme.sets r.object 0 in
        record {
          row = projected S K r.row;
          there = row_of_object b o M r.shown (project_has K (table_of b o r.object) r.there);
          cells = λ a i _.
              let h : a < ATTRIBUTES = attribute_lt r.shown.below r.shown.there (r.shown.contains.each i) in
              cell_projected S r.row h i ∙ r.cells a h i;
        }

    fits_on_row : {K B : ℕ} → K ⊆ B → FitsOn B ρ (shown_on b o M K) → RowFits b o M K ρ
    unfolding project
    fits_on_row {K} w f =
        let (k, s, m) = of_shown_row b o M f.there in
        let p = of_project K (table_of b o k) m in
        record {
          object = k;
          shown = s;
          row = p.origin;
          there = p.there;
          cells = λ a h i.
              sym (cell_projected (get_or o.scheme.sets k 0) p.origin h i)
              ∙ ap (λ (row : Row). cell_of K row a) (sym p.shows) ∙ f.cells a i (w.each i);
        }

    object_fits_shown : {X B : ℕ} → FitsObject b o M X ρ → AllFit B ρ (shown_tables b o M X)
    object_fits_shown {X} {B} f T m =
        let (K, s, e) = of_shown b o M X m in
        subst (FitsOn B ρ) (sym e) (row_fits_on (f.each K s))

    shown_fits_object : {X : ℕ} → AllFit (union (family (shown_tables b o M X))) ρ (shown_tables b o M X)
        → Stated o.scheme.kinds (family (shown_tables b o M X)) ρ → FitsObject b o M X ρ
    shown_fits_object {X} f g = record {
      each = λ K s.
          let m = shown_has b o M X s in
          fits_on_row (union-⊇ (Memᴰ.map (λ (T : Table). T.set) m)) (f _ m);
      stated = λ a K L s t n _ i j.
          g a (subst (λ (F : Family). OfTwo F a) (sym (family_unions (tables_of b o M) (kept_sets (tables_of b o M) X)))
          (kept_of_two b o M X s t n i j));
    }

    object_stated : {X : ℕ} → FitsObject b o M X ρ → Stated o.scheme.kinds (family (shown_tables b o M X)) ρ
    object_stated {X} f a w =
        let p = of_two_keep b o M X
        (subst (λ (F : Family). OfTwo F a) (family_unions (tables_of b o M) (kept_sets (tables_of b o M) X)) w) in
        let (c, s) = kept_shown o.scheme.sets M X p.one_kept_law in
        let low = attribute_lt s.below s.there (s.contains.each p.in_one) in
        f.stated a p.one p.other p.one_kept_law p.other_kept p.apart low p.in_one p.in_other

  -- ---- parts

  -- the attributes X stand in the tables shown
  pub wanted_shown : (M X : ℕ) → X ⊆ attributes_of o.scheme.sets M → X ⊆ union (family (shown_tables b o M X))
  unfolding attributes_of
  wanted_shown M X i =
      let Ts : List Table = tables_of b o M in
      let e = tables_family b o M in
      let of : OfAttributes (family Ts) = subst OfAttributes (sym e) (bounded M) in
      inside_unions Ts (kept X (family Ts))
      (wanted_kept X (family Ts) of (subst (λ (F : Family). X ⊆ union F) (sym e) i))

  -- a row shows on X cells that fit M
  pub record ShowsFitting (M X : ℕ) (row : Row) : Type 0 where
    pub cells : ℕ → ℕ
    pub fits : FitsObject b o M X cells
    pub shows : row ≡ map cells (members ATTRIBUTES X)

  module _ {M X : ℕ} {row : Row} (i : X ⊆ attributes_of o.scheme.sets M) where
    pub part_fits : InPart b o M X row → ShowsFitting M X row
    part_fits p =
        let s = join_assigned (wanted_shown M X i) p.joined in
        record { cells = s.assigns; fits = shown_fits_object s.all_fit s.stated; shows = s.shows }

    pub fits_part : {ρ : ℕ → ℕ} → FitsObject b o M X ρ → row ≡ map ρ (members ATTRIBUTES X) → InPart b o M X row
    fits_part {ρ} f e = record {
      joined =
          assigned_join (wanted_shown M X i) (record {
            assigns = ρ;
            all_fit = object_fits_shown f;
            stated = object_stated f;
            shows = e;
          });
    }

  -- ---- the connection

  -- a row shows on X the cells ρ, and they fit it
  pub record ShowsCells (X : ℕ) (row : Row) (ρ : ℕ → ℕ) : Type 0 where
    pub fits : FitsVariable b o X ρ
    pub shows : row ≡ map ρ (members ATTRIBUTES X)

  pub connection_cells : {X : ℕ} {row : Row} → InConnection b o X row → (ρ : ℕ → ℕ) × ShowsCells X row ρ
  connection_cells c =
      let p = part_fits c.contains c.in_part in (
        p.cells,
        record {
          fits = record { object = c.object; there = c.there; contains = c.contains; fits = p.fits };
          shows = p.shows;
        },
      )

  fits_connection : {X : ℕ} {row : Row} {ρ : ℕ → ℕ} → ShowsCells X row ρ → InConnection b o X row
  fits_connection s = record {
    object = s.fits.object;
    there = s.fits.there;
    contains = s.fits.contains;
    in_part = fits_part s.fits.contains s.fits.fits s.shows;
  }

  -- ---- answer rows

  module _ {q : Asking} (range : NamesInRange q) where
    pub answer_fits_query : {row : Row} → InAnswer b o q row → FitsQuery b o q row
    answer_fits_query i =
        let P : ℕ → (ℕ → ℕ) → Type 0 = λ v ρ. ShowsCells (attributes_named q v) (i.picks v) ρ in
        let had : (v a : ℕ) → Named q v a → (ρ : ℕ → ℕ) × P v ρ = λ v a n. connection_cells (i.connected v a n) in
        let at : Cells = for_each_fact q P (λ a. 0) had in
        let such : (v a : ℕ) → Named q v a → P v (at v) = for_each q P (λ a. 0) had in
        let s : AgreeOnNames q (cells_of q i.picks) at = shown_agree range (λ v a n. (such v a n).shows) in
        record {
          at = at;
          variables = λ v a n. (such v a n).fits;
          holding = sym (condition_agrees range s o) ∙ i.holding;
          shows = i.shows ∙ items_agree range s;
        }

    pub fits_query_answer : {row : Row} → FitsQuery b o q row → InAnswer b o q row
    fits_query_answer f =
        let picks : ℕ → Row = λ v. map (f.at v) (members ATTRIBUTES (attributes_named q v)) in
        let s : AgreeOnNames q (cells_of q picks) f.at = shown_agree range (λ v a n. refl) in
        record {
          picks = picks;
          connected = λ v a n. fits_connection (record { fits = f.variables v a n; shows = refl });
          holding = condition_agrees range s o ∙ f.holding;
          shows = f.shows ∙ sym (items_agree range s);
        }
