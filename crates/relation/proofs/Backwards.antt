-- Where the tables agree pairwise, an assignment that every table fits on the attributes left is, unchanged on X, one
-- that every table fits on its whole set. Backwards along the attributes taken out: an attribute a that was removable
-- has a holder, whose table has all attributes of every table with a; the assignment takes the cell of the holder's
-- row at a, and the other tables with a follow by agreement.
-- Assumes nothing.
use mathlib.Core.Path.{◌≡◌, refl, sym, ap, ◌∙◌, subst}
use mathlib.Core.Bool.{Bool, cond}
use mathlib.Core.Logic.{⊎_elim}
use mathlib.Core.List.Memᴰ
use mathlib.Core.List.{List, Memᴰ}
use Prim.Native.Nat.{ℕ}
use lib.Dec.{eqb}
use borrow.Author.Tests.{eq-eqb, ne_eqb}
use Rattle.sets.specs.Sets.{◌∈◌, ◌∉◌, ◌∩◌, remove, ATTRIBUTES}
use Rattle.sets.proofs.Numbers.{eq_or_ne}
use Rattle.sets.proofs.Bits.{in_out, member_or_not, member_lt}
use Rattle.sets.proofs.Sets.{∩_in, ∩_left, remove_in}
use Rattle.reduction.specs.Kept.{cut_to}
use Rattle.reduction.specs.Statements.{OfAttributes}
use Rattle.reduction.proofs.Reducing.{Removable}
use Rattle.reduction.proofs.Left.{of_cut, cut_in}
use Rattle.reduction.proofs.Shrinking.{Shrinks, stop, take_out}
use Rattle.relation.specs.Tables.{Row, cell_of, Table, family}
use Rattle.relation.specs.Joins.{AgreePairwise}
use Rattle.relation.proofs.Tables.{SameCells, same_cells, set_lt}
use Rattle.relation.proofs.Fitting.{FitsOn, AllFit}

-- ---- an assignment changed at one attribute

changed : (ℕ → ℕ) → ℕ → ℕ → ℕ → ℕ
changed ρ a x b = cond (eqb b a) x (ρ b)

changed_here : (ρ : ℕ → ℕ) (a x : ℕ) {b : ℕ} → b ≡ a → changed ρ a x b ≡ x
unfolding changed
changed_here ρ a x {b} e = ap (λ (t : Bool). cond t x (ρ b)) (eq-eqb b a e)

changed_else : (ρ : ℕ → ℕ) (a x : ℕ) {b : ℕ} → (b ≡ a → ⊥) → changed ρ a x b ≡ ρ b
unfolding changed
changed_else ρ a x {b} n = ap (λ (t : Bool). cond t x (ρ b)) (ne_eqb b a n)

-- ---- the table of a holder

-- among the attributes A, table `table` has all attributes of every table that has a
record HolderTable (Ts : List Table) (A a : ℕ) : Type 0 where
  table : Table
  there : Memᴰ table Ts
  widest : (T : Table) → Memᴰ T Ts → a ∈ T.set → (b : ℕ) → b ∈ T.set → b ∈ A → b ∈ table.set

holder_table : {Ts : List Table} {A a : ℕ} → a ∈ A → Removable (cut_to A (family Ts)) a → HolderTable Ts A a
holder_table {Ts} {A} {a} i r =
    let c = of_cut (family Ts) r.there in
    let p = Memᴰ.of_map (λ (T : Table). T.set) Ts c.there in
    record {
      table = p.0;
      there = p.1;
      widest = λ T m t b j l.
          let whole : Memᴰ T.set (family Ts) = Memᴰ.map (λ (T : Table). T.set) m in
          let h : b ∈ r.holder = (r.widest (T.set ∩ A) (cut_in A whole) (∩_in t i)).each (∩_in j l) in
          subst (λ (s : ℕ). b ∈ s) (sym p.2) (∩_left c.whole A (subst (λ (s : ℕ). b ∈ s) c.cutting h));
    }

-- ---- agreement: a row of one table has one of the other with the same cells on what the two share

pub agreeing : {Ts : List Table} {T U : Table} {r : Row} → AgreePairwise Ts → Memᴰ T Ts → Memᴰ U Ts
    → Memᴰ r T.rows → SameCells (T.set ∩ U.set) T r U
agreeing {T = T} {U} agree t u m = same_cells (agree.shared T U t u) m

module _ {Ts : List Table} (o : OfAttributes (family Ts)) (agree : AgreePairwise Ts) where
  -- ---- one attribute back

  module _ {A a : ℕ} {ρ : ℕ → ℕ} (i : a ∈ A) (r : Removable (cut_to A (family Ts)) a)
      (f : AllFit (remove A a) ρ Ts) where
    holder : HolderTable Ts A a
    holder = holder_table i r

    holder_fits : FitsOn (remove A a) ρ holder.table
    holder_fits = f holder.table holder.there

    -- the cell of the holder's row
    cell : ℕ
    cell = cell_of holder.table.set holder_fits.row a

    fits_with : {T : Table} → Memᴰ T Ts → a ∈ T.set → FitsOn A (changed ρ a cell) T
    unfolding cell
    fits_with {T} m t = record { row = s.other; there = s.there; cells = cells }
      where
        s : SameCells (holder.table.set ∩ T.set) holder.table holder_fits.row T
        s = agreeing agree holder.there m holder_fits.there

        cells : (b : ℕ) → b ∈ T.set → b ∈ A → cell_of T.set s.other b ≡ changed ρ a cell b
        cells b j l =
            let w : b ∈ holder.table.set = holder.widest T m t b j l in
            s.cells b (member_lt ATTRIBUTES (set_lt o m) j) (∩_in w j)
            ∙ ⊎_elim (λ e. ap (cell_of holder.table.set holder_fits.row) e ∙ sym (changed_here ρ a cell e))
            (λ n. holder_fits.cells b w (remove_in l n) ∙ sym (changed_else ρ a cell n))
            (eq_or_ne b a)

    fits_without : {T : Table} → Memᴰ T Ts → a ∉ T.set → FitsOn A (changed ρ a cell) T
    fits_without {T} m out =
        let t = f T m in
        record {
          row = t.row;
          there = t.there;
          cells = λ b j l.
              let n : b ≡ a → ⊥ = λ e. in_out (subst (λ (c : ℕ). c ∈ T.set) e j) out in
              t.cells b j (remove_in l n) ∙ sym (changed_else ρ a cell n);
        }

    fits_back : AllFit A (changed ρ a cell) Ts
    fits_back T m = ⊎_elim (fits_with m) (fits_without m) (member_or_not a T.set)

  -- ---- all the way back

  pub record Extended (A X : ℕ) (σ : ℕ → ℕ) : Type 0 where
    pub assigns : ℕ → ℕ
    pub all_fit : AllFit A assigns Ts
    pub same : (b : ℕ) → b ∈ X → assigns b ≡ σ b

  pub backwards : {X A B : ℕ} {σ : ℕ → ℕ} → Shrinks X (family Ts) A B → AllFit B σ Ts → Extended A X σ
  backwards {σ = σ} stop f = record { assigns = σ; all_fit = f; same = λ b i. refl }
  backwards {X = X} {σ} (take_out a i out r rest) f =
      let e = backwards rest f in
      record {
        assigns = changed e.assigns a (cell i r e.all_fit);
        all_fit = fits_back i r e.all_fit;
        same = λ b j.
            changed_else e.assigns a (cell i r e.all_fit) (λ z. in_out (subst (λ (c : ℕ). c ∈ X) z j) out)
            ∙ e.same b j;
      }
