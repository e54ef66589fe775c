-- Tables agree pairwise exactly if the paper's two clauses hold: rows with the same cells under the attributes that two
-- tables share are one projected row, and over no attribute a table shows one row or none.
-- In order: tables that share an attribute, tables that share none, both clauses for two tables, both clauses.
-- Assumes nothing.
use mathlib.Core.Path.{◌≡◌, refl, sym, ◌∙◌, subst}
use mathlib.Core.Logic.{inl, inr, ⊎_elim}
use mathlib.Core.List.Memᴰ
use mathlib.Core.List.{List, [], ◌∷◌, Memᴰ, cons≢nil}
use Prim.Native.Nat.{ℕ, ◌^◌, ◌<◌}
use Rattle.sets.specs.Sets.{◌∈◌, ◌∉◌, ◌∩◌, ATTRIBUTES}
use Rattle.sets.proofs.Numbers.{eq_or_ne}
use Rattle.sets.proofs.Bits.{in_out, not_in, member_lt}
use Rattle.sets.proofs.Sets.{∩_in, ∩_left, ∩_right, zero_out, some_member}
use Rattle.reduction.specs.Statements.{OfAttributes}
use Rattle.relation.specs.Tables.{Row, Table, SameRows, family, projected, project}
use Rattle.relation.specs.Joins.{AgreePairwise}
use Rattle.relation.specs.Statements.{ShowsEach, BothEmptyOrNeither, AgreeByClauses}
use Rattle.relation.proofs.Tables.{rows_same, of_project, project_has, same_back, same_cells, set_lt, empty_with}
use Rattle.relation.proofs.Tables.{shows_with}

-- ---- tables that share an attribute

-- K is what the two tables share
module _ {K : ℕ} {T U : Table} (both : (a : ℕ) → a ∈ K → (a ∈ T.set) × (a ∈ U.set)) where
  -- where U shows each row of T, it has each row that T shows on K
  shown_rows : ShowsEach U T → (row : Row) → Memᴰ row (project K T).rows → Memᴰ row (project K U).rows
  unfolding projected
  shown_rows shows row m =
      let p = of_project K T m in
      let s = shows p.origin p.there in
      let same : projected T.set K p.origin ≡ projected U.set K s.row =
      rows_same K _ _ (λ a _ i. sym (s.cells a (both a i).0 (both a i).1)) in
      Memᴰ.cast (p.shows ∙ same) (project_has K U s.there)

-- where both show the same rows on what they share, U shows each row of T
rows_shown : {K : ℕ} {T U : Table} → ((a : ℕ) → a ∈ T.set → a ∈ U.set → a ∈ K) → T.set < 2 ^ ATTRIBUTES
    → SameRows (project K T) (project K U) → ShowsEach U T
rows_shown shared bound same r m =
    let s = same_cells same m in
    record {
      row = s.other;
      there = s.there;
      cells = λ a i j. s.cells a (member_lt ATTRIBUTES bound i) (shared a i j);
    }

-- ---- tables that share none

module _ (T U : Table) where
  both_or_neither : (T.rows ≡ [] → U.rows ≡ []) → (U.rows ≡ [] → T.rows ≡ []) → BothEmptyOrNeither T U
  both_or_neither f g = by T.rows refl
    where
      by : (l : List Row) → T.rows ≡ l → BothEmptyOrNeither T U
      by [] e = inl (e, f e)
      by (r ∷ l) e = inr (λ z. cons≢nil (sym e ∙ z), λ z. cons≢nil (sym e ∙ g z))

  empty_if_other : BothEmptyOrNeither T U → (T.rows ≡ [] → U.rows ≡ []) × (U.rows ≡ [] → T.rows ≡ [])
  empty_if_other (inl (e, f)) = (λ _. f, λ _. e)
  empty_if_other (inr (m, n)) = (λ e. absurd (m e), λ e. absurd (n e))

  shares_none : T.set ∩ U.set ≡ 0 → (a : ℕ) → a ∈ T.set → a ∉ U.set
  shares_none z a i = not_in (λ j. in_out (subst (λ (s : ℕ). a ∈ s) z (∩_in i j)) (zero_out a))

-- ---- both clauses, for two tables

module _ (T U : Table) where
  abbrev shared : ℕ
  shared = T.set ∩ U.set

  some_shared : ShowsEach U T × ShowsEach T U → SameRows (project shared T) (project shared U)
  some_shared (f, g) = record {
    first_in_second = shown_rows (λ a i. (∩_left T.set U.set i, ∩_right T.set U.set i)) f;
    second_in_first = shown_rows (λ a i. (∩_right T.set U.set i, ∩_left T.set U.set i)) g;
  }

  none_shared : shared ≡ 0 → BothEmptyOrNeither T U → SameRows (project shared T) (project shared U)
  none_shared z b =
      let (f, g) = empty_if_other T U b in
      record { first_in_second = shows_with T U z g; second_in_first = shows_with U T z f }

  shared_some : T.set < 2 ^ ATTRIBUTES → U.set < 2 ^ ATTRIBUTES → SameRows (project shared T) (project shared U)
      → ShowsEach U T × ShowsEach T U
  shared_some t u s = (rows_shown (λ a i j. ∩_in i j) t s, rows_shown (λ a i j. ∩_in j i) u (same_back s))

  shared_none : SameRows (project shared T) (project shared U) → BothEmptyOrNeither T U
  shared_none s = both_or_neither T U (empty_with shared U T (same_back s)) (empty_with shared T U s)

-- ---- both clauses

pub clauses_agree : {Ts : List Table} → AgreeByClauses Ts → AgreePairwise Ts
clauses_agree {Ts} c = record {
  shared = λ T U t u. ⊎_elim (none T U t u) (λ n. some T U t u (some_member (shared T U) n)) (eq_or_ne (shared T U) 0);
}
  where
    none : (T U : Table) → Memᴰ T Ts → Memᴰ U Ts → shared T U ≡ 0
        → SameRows (project (shared T U) T) (project (shared T U) U)
    none T U t u z = none_shared T U z (c.sharing_none T U t u (shares_none T U z))

    some : (T U : Table) → Memᴰ T Ts → Memᴰ U Ts → (a : ℕ) × (a ∈ shared T U)
        → SameRows (project (shared T U) T) (project (shared T U) U)
    some T U t u (a, i) =
        some_shared T U (c.sharing T U t u a (∩_left T.set U.set i) (∩_right T.set U.set i))

pub agree_clauses : {Ts : List Table} → OfAttributes (family Ts) → AgreePairwise Ts → AgreeByClauses Ts
agree_clauses o agree = record {
  sharing = λ T U t u _ _ _. shared_some T U (set_lt o t) (set_lt o u) (agree.shared T U t u);
  sharing_none = λ T U t u _. shared_none T U (agree.shared T U t u);
}
