-- Answer rows by combinations: a row of the connection is one of matching rows of the tables shown, put together.
-- In order: rows of the connection, answer rows.
-- Assumes nothing.
use mathlib.Core.Path.{◌≡◌, refl, sym, ◌∙◌}
use mathlib.Core.List.{List, [], map, Memᴰ}
use Prim.Native.Nat.{ℕ}
use Rattle.sets.specs.Sets.{◌⊆◌, members, ATTRIBUTES}
use Rattle.reduction.specs.Statements.{OfAttributes}
use Rattle.relation.specs.Tables.{Row}
use Rattle.relation.specs.Joins.{Picked, Matching, together}
use Rattle.relation.proofs.Fitting.{join_direct, direct_join}
use Rattle.scheme.specs.Growing.{family_of, attributes_of}
use Rattle.scheme.specs.OfScheme.{maximal_of}
use Rattle.book.specs.Reading.{Outcome}
use Rattle.query.specs.Asking.{Asking, Named, attributes_named}
use Rattle.connection.specs.Connection.{InConnection}
use Rattle.connection.specs.Answers.{item_cells, cells_of, InAnswer, shown_tables, Combination, combined, Passes}
use Rattle.connection.specs.Statements.{NamesInRange}
use Rattle.connection.proofs.Named.{AgreeOnNames, items_agree, condition_agrees, shown_agree, for_each_fact, for_each}
use Rattle.connection.proofs.Fitted.{wanted_shown}

-- a maximal object and rows of its tables shown
record Pick : Type 0 where
  object : ℕ
  rows : List Row

module _ (b : List ℕ) (o : Outcome) (bounded : (M : ℕ) → OfAttributes (family_of o.scheme.sets M)) where
  -- ---- rows of the connection

  -- the rows picked match, and put together they are the row over X
  record Combines (X : ℕ) (row : Row) (p : Pick) : Type 0 where
    there : Memᴰ p.object (maximal_of o.scheme)
    contains : X ⊆ attributes_of o.scheme.sets p.object
    picked : Picked (shown_tables b o p.object X) p.rows
    matching : Matching o.scheme.kinds (shown_tables b o p.object X) p.rows
    shows : row ≡ map (together (shown_tables b o p.object X) p.rows) (members ATTRIBUTES X)

  connection_combines : {X : ℕ} {row : Row} → InConnection b o X row → (p : Pick) × Combines X row p
  connection_combines {X} c =
      let d = join_direct (wanted_shown b o bounded c.object X c.contains) c.in_part.joined in (
        record { object = c.object; rows = d.picks },
        record {
          there = c.there;
          contains = c.contains;
          picked = d.picked;
          matching = d.matching;
          shows = d.shows;
        },
      )

  combines_connection : {X : ℕ} {row : Row} {p : Pick} → Combines X row p → InConnection b o X row
  combines_connection {X} {p = p} c = record {
    object = p.object;
    there = c.there;
    contains = c.contains;
    in_part = record {
      joined = direct_join (wanted_shown b o bounded p.object X c.contains) (record {
        picks = p.rows;
        picked = c.picked;
        matching = c.matching;
        shows = c.shows;
      });
    };
  }

  -- ---- answer rows

  module _ {q : Asking} (range : NamesInRange q) where
    -- a combination that passes gives the row
    abbrev pub Given : Row → Type 0
    Given row = (p : Combination b o q) × Passes b o q p × (row ≡ item_cells q.items (combined b o q p))

    pub answer_combined : {row : Row} → InAnswer b o q row → Given row
    unfolding combined
    answer_combined i =
        let P : ℕ → Pick → Type 0 = λ v p. Combines (attributes_named q v) (i.picks v) p in
        let had : (v a : ℕ) → Named q v a → (p : Pick) × P v p = λ v a n. connection_combines (i.connected v a n) in
        let no : Pick = record { object = 0; rows = [] } in
        let pick : ℕ → Pick = for_each_fact q P no had in
        let such : (v a : ℕ) → Named q v a → P v (pick v) = for_each q P no had in
        let p : Combination b o q = record {
          object = λ v. (pick v).object;
          rows = λ v. (pick v).rows;
          there = λ v a n. (such v a n).there;
          contains = λ v a n. (such v a n).contains;
          picked = λ v a n. (such v a n).picked;
        } in
        let s : AgreeOnNames q (cells_of q i.picks) (combined b o q p) =
        shown_agree range (λ v a n. (such v a n).shows) in (
          p,
          record {
            matching = λ v a n. (such v a n).matching;
            holding = sym (condition_agrees range s o) ∙ i.holding;
          },
          i.shows ∙ items_agree range s,
        )

    pub combined_answer : {row : Row} → Given row → InAnswer b o q row
    unfolding combined
    combined_answer (p, passes, e) =
        let picks : ℕ → Row = λ v. map (combined b o q p v) (members ATTRIBUTES (attributes_named q v)) in
        let s : AgreeOnNames q (cells_of q picks) (combined b o q p) = shown_agree range (λ v a n. refl) in
        record {
          picks = picks;
          connected = λ v a n.
              combines_connection {p = record { object = p.object v; rows = p.rows v }} (record {
                there = p.there v a n;
                contains = p.contains v a n;
                picked = p.picked v a n;
                matching = passes.matching v a n;
                shows = refl;
              });
          holding = condition_agrees range s o ∙ passes.holding;
          shows = e ∙ sym (items_agree range s);
        }
