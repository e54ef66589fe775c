-- The union of the rows that the objects show on a set, and the joins over such unions.
-- In order: rows of a union, some choice stands, the join over unions and the joins over choices, sets in another
-- order.
-- Assumes nothing.
use mathlib.Core.Path.{◌≡◌, refl, sym, ap, ◌∙◌, subst}
use mathlib.Core.Bool.{Bool, true, false}
use mathlib.Core.Logic.{⊎_elim}
use mathlib.Core.List.Memᴰ
use mathlib.Core.List.{List, [], ◌∷◌, ◌++◌, Memᴰ}
use Prim.Native.Nat.{ℕ, suc, ◌<◌, suc-le-suc}
use native.Mathlib.Nat.{zero-lt-suc}
use lib.ListN.{length}
use Rattle.sets.specs.Sets.{◌⊆◌, within}
use Rattle.sets.proofs.Sets.{yes_within, within_yes}
use Rattle.reduction.specs.Steps.{Family, NoneTwice}
use Rattle.reduction.specs.Kept.{union}
use Rattle.reduction.proofs.Left.{union-⊇, in_union}
use Rattle.relation.specs.Tables.{Row, Table, table_at, family, project}
use Rattle.relation.specs.Joins.{OfTwo, StandFor, none, one, shown, shown_rows, union_table, unions, InUnionJoin}
use Rattle.relation.specs.Joins.{InSomeChoice}
use Rattle.relation.proofs.Fitting.{FitsOn, AllFit, Stated, join_assigned, assigned_join}
use Rattle.relation.proofs.Sharing.{of_two_moved}
use Rattle.relation.proofs.Standing.{family_shown, stands_shown}

-- ---- rows of a union

-- a row of the union is one that some table shows, by its place
pub record ShownAt (Ts : List Table) (K : ℕ) (row : Row) : Type 0 where
  pub place : ℕ
  pub there : place < length Ts
  pub contains : K ⊆ (table_at Ts place).set
  pub shows : Memᴰ row (project K (table_at Ts place)).rows

pub shown_at : (Ts : List Table) (K : ℕ) {row : Row} → Memᴰ row (shown_rows Ts K) → ShownAt Ts K row
unfolding shown_rows
shown_at [] K m = absurd (Memᴰ.not-nil m)
shown_at (T ∷ Ts) K {row} m = by (within K T.set) refl m (λ n. later (shown_at Ts K n))
  where
    later : ShownAt Ts K row → ShownAt (T ∷ Ts) K row
    later p = record {
      place = suc p.place;
      there = suc-le-suc p.there;
      contains = p.contains;
      shows = p.shows;
    }

    by : (b : Bool) → within K T.set ≡ b
        → Memᴰ row (elim b [ true ↦ (project K T).rows ++ shown_rows Ts K | false ↦ shown_rows Ts K ])
        → (Memᴰ row (shown_rows Ts K) → ShownAt (T ∷ Ts) K row) → ShownAt (T ∷ Ts) K row
    by true e n behind =
        ⊎_elim
        (λ h. record {
          place = 0;
          there = zero-lt-suc (length Ts);
          contains = yes_within K T.set e;
          shows = h;
        })
        behind (Memᴰ.append_cases (project K T).rows n)
    by false e n behind = behind n

pub at_shown : (Ts : List Table) (K : ℕ) {T : Table} {row : Row} → Memᴰ T Ts → K ⊆ T.set
    → Memᴰ row (project K T).rows → Memᴰ row (shown_rows Ts K)
unfolding shown_rows
at_shown [] K t s m = absurd (Memᴰ.not-nil t)
at_shown (U ∷ Ts) K {T} {row} (Memᴰ.head e) s m =
    subst
    (λ (b : Bool). Memᴰ row (elim b [ true ↦ (project K U).rows ++ shown_rows Ts K | false ↦ shown_rows Ts K ]))
    (sym (within_yes (subst (λ (W : Table). K ⊆ W.set) e s)))
    (Memᴰ.append_left (shown_rows Ts K) (subst (λ (W : Table). Memᴰ row (project K W).rows) e m))
at_shown (U ∷ Ts) K {T} {row} (Memᴰ.tail t) s m = by (within K U.set) (at_shown Ts K t s m)
  where
    by : (b : Bool) → Memᴰ row (shown_rows Ts K)
        → Memᴰ row (elim b [ true ↦ (project K U).rows ++ shown_rows Ts K | false ↦ shown_rows Ts K ])
    by true n = Memᴰ.append_right (project K U).rows n
    by false n = n

-- the sets of the unions
pub family_unions : (Ts : List Table) (Ks : Family) → family (unions Ts Ks) ≡ Ks
family_unions Ts [] = refl
family_unions Ts (K ∷ Ks) = ap (λ (Js : Family). K ∷ Js) (family_unions Ts Ks)

-- ---- from the unions to a choice

-- a choice whose tables all fit
record Fitted (A : ℕ) (ρ : ℕ → ℕ) (Ts : List Table) (Ks : Family) : Type 0 where
  choice : List ℕ
  stands : StandFor Ts Ks choice
  fits : AllFit A ρ (shown Ts Ks choice)

module _ {A : ℕ} {ρ : ℕ → ℕ} (Ts : List Table) where
  -- the table of the object that shows the row which fits
  fits_shown : {K : ℕ} (g : FitsOn A ρ (union_table Ts K)) (p : ShownAt Ts K g.row)
      → FitsOn A ρ (project K (table_at Ts p.place))
  unfolding project
  fits_shown g p = record { row = g.row; there = p.shows; cells = g.cells }

  choose : (Ks : Family) → AllFit A ρ (unions Ts Ks) → Fitted A ρ Ts Ks
  unfolding shown
  choose [] f = record { choice = []; stands = none; fits = λ U m. absurd (Memᴰ.not-nil m) }
  choose (K ∷ Ks) f = with_first (shown_at Ts K first.there) (choose Ks (λ U m. f U (Memᴰ.tail m)))
    where
      first : FitsOn A ρ (union_table Ts K)
      first = f (union_table Ts K) (Memᴰ.head refl)

      with_first : ShownAt Ts K first.row → Fitted A ρ Ts Ks → Fitted A ρ Ts (K ∷ Ks)
      with_first p rest = record {
        choice = p.place ∷ rest.choice;
        stands = one p.there p.contains rest.stands;
        fits = λ U m. fit U m;
      }
        where
          fit : (U : Table) → Memᴰ U (project K (table_at Ts p.place) ∷ shown Ts Ks rest.choice)
              → FitsOn A ρ U
          fit U (Memᴰ.head e) = subst (FitsOn A ρ) (sym e) (fits_shown first p)
          fit U (Memᴰ.tail m) = rest.fits U m

  -- ---- from a choice to the unions

  chosen_fits : {Ks : Family} {cs : List ℕ} → StandFor Ts Ks cs → AllFit A ρ (shown Ts Ks cs)
      → AllFit A ρ (unions Ts Ks)
  unfolding project
  chosen_fits {Ks} st f U m =
      let (K, k, e) = Memᴰ.of_map (union_table Ts) Ks m in
      let (W, w, s) = stands_shown st k in
      let g = subst (FitsOn A ρ) s.shows (f W w) in
      subst (FitsOn A ρ) e
      (record { row = g.row; there = at_shown Ts K s.there s.contains g.there; cells = g.cells })

-- ---- the join over unions and the joins over choices

pub inside_unions : {X : ℕ} (Ts : List Table) (Ks : Family) → X ⊆ union Ks → X ⊆ union (family (unions Ts Ks))
inside_unions {X} Ts Ks inside = subst (λ (F : Family). X ⊆ union F) (sym (family_unions Ts Ks)) inside

inside_choice : {X : ℕ} {Ts : List Table} {Ks : Family} {cs : List ℕ} → StandFor Ts Ks cs → X ⊆ union Ks
    → X ⊆ union (family (shown Ts Ks cs))
inside_choice {X} st inside = subst (λ (F : Family). X ⊆ union F) (sym (family_shown st)) inside

module _ {kinds : List ℕ} (Ts : List Table) (Ks : Family) {X : ℕ} (inside : X ⊆ union Ks) where
  pub union_choice : {row : Row} → InUnionJoin kinds Ts Ks X row → InSomeChoice kinds Ts Ks X row
  union_choice {row} j =
      let a = join_assigned (inside_unions Ts Ks inside) j in
      let c = choose Ts Ks a.all_fit in
      let same = family_unions Ts Ks ∙ sym (family_shown c.stands) in
      record {
        choice = c.choice;
        stands = c.stands;
        joined =
            assigned_join (inside_choice c.stands inside) (record {
              assigns = a.assigns;
              all_fit = subst (λ (F : Family). AllFit (union F) a.assigns (shown Ts Ks c.choice)) same c.fits;
              stated = subst (λ (F : Family). Stated kinds F a.assigns) same a.stated;
              shows = a.shows;
            });
      }

  pub choice_union : {row : Row} → InSomeChoice kinds Ts Ks X row → InUnionJoin kinds Ts Ks X row
  choice_union c =
      let a = join_assigned (inside_choice c.stands inside) c.joined in
      let same = family_shown c.stands ∙ sym (family_unions Ts Ks) in
      assigned_join (inside_unions Ts Ks inside) (record {
        assigns = a.assigns;
        all_fit =
            subst (λ (F : Family). AllFit (union F) a.assigns (unions Ts Ks)) same
            (chosen_fits Ts c.stands a.all_fit);
        stated = subst (λ (F : Family). Stated kinds F a.assigns) same a.stated;
        shows = a.shows;
      })

-- ---- sets in another order: the same sets have the same join

-- a table that fits on all its attributes fits on any
fits_any : {A : ℕ} (B : ℕ) {ρ : ℕ → ℕ} {U : Table} → U.set ⊆ A → FitsOn A ρ U → FitsOn B ρ U
fits_any B s f = record { row = f.row; there = f.there; cells = λ a i _. f.cells a i (s.each i) }

module _ {kinds : List ℕ} (Ts : List Table) {X : ℕ} (Js Ks : Family)
    (some : (K : ℕ) → Memᴰ K Ks → Memᴰ K Js) (once : NoneTwice Ks) (inside : X ⊆ union Ks)
    (wide : X ⊆ union Js) where
  pub same_join : {row : Row} → InUnionJoin kinds Ts Js X row → InUnionJoin kinds Ts Ks X row
  same_join j =
      let a = join_assigned (inside_unions Ts Js wide) j in
      assigned_join (inside_unions Ts Ks inside) (record {
        assigns = a.assigns;
        all_fit = λ U m.
            let (K, k, e) = Memᴰ.of_map (union_table Ts) Ks m in
            subst (FitsOn _ a.assigns) e
            (fits_any _
            (subst (λ (F : Family). K ⊆ union F) (sym (family_unions Ts Js)) (union-⊇ (some K k)))
            (a.all_fit (union_table Ts K) (Memᴰ.map (union_table Ts) (some K k))));
        stated = λ b w.
            subst (λ (F : Family). Stated kinds F a.assigns) (family_unions Ts Js) a.stated b
            (of_two_moved once some (subst (λ (F : Family). OfTwo F b) (family_unions Ts Ks) w));
        shows = a.shows;
      })

-- the attributes of sets that are all in another family are in those of that family
pub union_of_members : (Ks Js : Family) → ((K : ℕ) → Memᴰ K Ks → Memᴰ K Js) → union Ks ⊆ union Js
union_of_members Ks Js some = record {
  each = λ i. let l = in_union Ks i in (union-⊇ (some l.holder l.there)).each l.held;
}
