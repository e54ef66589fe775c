-- Cells that fit are cells of the book, and so in range of their value kinds and below 2 ^ 32.
-- In order: cells of the book, cells that fit, rows of the connection.
-- Assumes nothing.
use mathlib.Core.Path.{◌≡◌, sym, ap, ◌∙◌, subst}
use mathlib.Core.Bool.{true}
use mathlib.Core.List.Memᴰ
use mathlib.Core.List.{List, Memᴰ}
use Prim.Native.Nat.{ℕ, ◌<◌, ◌^◌}
use lib.ListN.{get_or}
use Rattle.sets.specs.Sets.{◌∈◌, ATTRIBUTES, OBJECTS}
use Rattle.values.specs.Values.{in_range}
use Rattle.values.proofs.Values.{in_range_lt}
use Rattle.reduction.specs.Statements.{OfAttributes}
use Rattle.reduction.proofs.Left.{in_union}
use Rattle.relation.specs.Tables.{Row, cell_of, Table, family}
use Rattle.relation.proofs.Tables.{cell_of_map}
use Rattle.scheme.specs.Growing.{family_of}
use Rattle.book.specs.Reading.{read}
use Rattle.book.specs.TablesOf.{rows_of}
use Rattle.book.proofs.Theorems.{tables_of_book}
use Rattle.connection.specs.Connection.{InConnection}
use Rattle.connection.specs.Answers.{shown_tables}
use Rattle.scheme.specs.KeptSets.{kept_for}
use Rattle.connection.specs.Fitting.{table_of, FitsObject, FitsVariable}
use Rattle.connection.proofs.Shown.{table_there, of_shown}
use Rattle.connection.proofs.Fitted.{wanted_shown, connection_cells}

-- ---- cells of the book

module _ (b : List ℕ) where
  -- a cell is in the range of its attribute's value kind
  abbrev Ranged : ℕ → ℕ → Type 0
  Ranged a cell = in_range (get_or (read b).scheme.kinds a 0) cell ≡ true

  cell_ranged : {M c a : ℕ} {row : Row} → c < OBJECTS → c ∈ M → Memᴰ row (rows_of b (read b).rows c)
      → a ∈ get_or (read b).scheme.sets c 0 → Ranged a (cell_of (get_or (read b).scheme.sets c 0) row a)
  cell_ranged {M} {c} {a} {row} h i r j =
      ((tables_of_book b M).rows_in_range (table_of b (read b) c) (table_there b (read b) M h i) row r).needed a j

  pub cell_lt : {M c a : ℕ} {row : Row} → c < OBJECTS → c ∈ M → Memᴰ row (rows_of b (read b).rows c)
      → a ∈ get_or (read b).scheme.sets c 0 → cell_of (get_or (read b).scheme.sets c 0) row a < 2 ^ 32
  cell_lt {M} {c} {a} {row} h i r j =
      in_range_lt (get_or (read b).scheme.kinds a 0) (cell_of (get_or (read b).scheme.sets c 0) row a)
      (cell_ranged {M = M} h i r j)

  -- ---- cells that fit

  module _ (bounded : (M : ℕ) → OfAttributes (family_of (read b).scheme.sets M)) where
    -- an attribute of a table shown is one of a kept set
    record HeldBy (M X a : ℕ) : Type 0 where
      set : ℕ
      is_kept_law : Memᴰ set (kept_for (read b).scheme.sets M X)
      held : a ∈ set

    shown_held : {M X a : ℕ} {T : Table} → Memᴰ T (shown_tables b (read b) M X) → a ∈ T.set → HeldBy M X a
    shown_held {M} {X} {a} m i =
        let (K, s, e) = of_shown b (read b) M X m in
        record { set = K; is_kept_law = s; held = subst (λ (U : Table). a ∈ U.set) e i }

    fitting_held : {X a : ℕ} {ρ : ℕ → ℕ} (f : FitsVariable b (read b) X ρ) → a ∈ X → HeldBy f.object X a
    fitting_held {X} {a} f i =
        let Us : List Table = shown_tables b (read b) f.object X in
        let s = in_union (family Us) ((wanted_shown b (read b) bounded f.object X f.contains).each i) in
        let p = Memᴰ.of_map (λ (T : Table). T.set) Us s.there in
        shown_held p.1 (subst (λ (S : ℕ). a ∈ S) (sym p.2) s.held)

    held_ranged : {M X a : ℕ} {ρ : ℕ → ℕ} → FitsObject b (read b) M X ρ → a < ATTRIBUTES → HeldBy M X a → Ranged a (ρ a)
    held_ranged {M} {X} {a} f h q =
        let r = f.each q.set q.is_kept_law in
        subst (Ranged a) (r.cells a h q.held)
        (cell_ranged {M = M} r.shown.below r.shown.there r.there (r.shown.contains.each q.held))

    fitting_ranged : {X a : ℕ} {ρ : ℕ → ℕ} → FitsVariable b (read b) X ρ → a < ATTRIBUTES → a ∈ X → Ranged a (ρ a)
    fitting_ranged f h i = held_ranged f.fits h (fitting_held f i)

    pub fitting_lt : {X a : ℕ} {ρ : ℕ → ℕ} → FitsVariable b (read b) X ρ → a < ATTRIBUTES → a ∈ X → ρ a < 2 ^ 32
    fitting_lt {a = a} {ρ = ρ} f h i = in_range_lt (get_or (read b).scheme.kinds a 0) (ρ a) (fitting_ranged f h i)

    -- ---- rows of the connection

    pub connection_cell_ranged : {X a : ℕ} {row : Row} → InConnection b (read b) X row → a < ATTRIBUTES → a ∈ X
        → Ranged a (cell_of X row a)
    connection_cell_ranged {X} {a} c h i =
        let (ρ, s) = connection_cells b (read b) bounded c in
        subst (Ranged a) (sym (ap (λ (r : Row). cell_of X r a) s.shows ∙ cell_of_map ρ h i))
        (fitting_ranged s.fits h i)

    pub connection_cell_lt : {X a : ℕ} {row : Row} → InConnection b (read b) X row → a < ATTRIBUTES → a ∈ X
        → cell_of X row a < 2 ^ 32
    connection_cell_lt {X} {a} {row} c h i =
        in_range_lt (get_or (read b).scheme.kinds a 0) (cell_of X row a) (connection_cell_ranged c h i)
