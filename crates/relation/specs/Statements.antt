-- What is proved of joins, for all tables over attributes 0 to 31, whatever their rows. Demand 3 as a whole is in
-- `Demand3`; here are its parts on joins and what stands beside them.
-- In order: tables that share no attribute, tables that agree pairwise, no row is lost, no other row, computed joins,
-- the union of all choices. The proofs are in `proofs/Theorems.antt`.
-- Assumes nothing.
use Rattle.std.specs.Prelude.{◌≡◌, ◌⊎◌, ◌↔◌, ℕ}
use mathlib.Core.List.{List, [], Memᴰ}
use Rattle.sets.specs.Sets.{◌∈◌, ◌∉◌, ◌∩◌}
use Rattle.reduction.specs.Steps.{Step, leaves, Complete, NodePermits, CoverPermits}
use Rattle.relation.specs.Tables.{Row, cell_of, Table, SameRows, family, project}
use Rattle.relation.specs.Joins.{AgreePairwise, NoneMissing, Picked, Matching, InJoin, InFullJoin, StandFor}
use Rattle.relation.specs.Joins.{kept_sets}
use Rattle.relation.specs.Joins.{InKeptJoin, InUnionJoin, InPart, InSomeChoice}
use Rattle.relation.specs.Computed.{combinations, join_rows, part}

-- "where they share none, both are empty or neither is": of two tables that share no attribute, to show the same rows
-- on the attributes shared is exactly this
pub record NothingShared (T U : Table) : Type 0 where
  pub both : SameRows (project (T.set ∩ U.set) T) (project (T.set ∩ U.set) U)
      → (T.rows ≡ [] → U.rows ≡ []) × (U.rows ≡ [] → T.rows ≡ [])
  pub back : (T.rows ≡ [] → U.rows ≡ []) × (U.rows ≡ [] → T.rows ≡ [])
      → SameRows (project (T.set ∩ U.set) T) (project (T.set ∩ U.set) U)

-- a row of U has the same cell as row r of T under every attribute that both tables have
pub record ShownBy (U T : Table) (r : Row) : Type 0 where
  pub row : Row
  pub there : Memᴰ row U.rows
  pub cells : (a : ℕ) → a ∈ T.set → a ∈ U.set → cell_of U.set row a ≡ cell_of T.set r a

-- U has such a row for each row of T
abbrev pub ShowsEach : Table → Table → Type 0
ShowsEach U T = (r : Row) → Memᴰ r T.rows → ShownBy U T r

-- "both are empty or neither is"
abbrev pub BothEmptyOrNeither : Table → Table → Type 0
BothEmptyOrNeither T U = ((T.rows ≡ []) × (U.rows ≡ [])) ⊎ ((T.rows ≡ [] → ⊥) × (U.rows ≡ [] → ⊥))

-- the two clauses of agreement taken apart: of two tables that share an attribute, and of two that share none
pub record AgreeByClauses (Ts : List Table) : Type 0 where
  -- "any two objects of M show the same rows on the attributes they share"
  pub sharing : (T U : Table) → Memᴰ T Ts → Memᴰ U Ts → (a : ℕ) → a ∈ T.set → a ∈ U.set
      → ShowsEach U T × ShowsEach T U
  -- "where they share none, both are empty or neither is"
  pub sharing_none : (T U : Table) → Memᴰ T Ts → Memᴰ U Ts → ((a : ℕ) → a ∈ T.set → a ∉ U.set)
      → BothEmptyOrNeither T U

-- tables agree pairwise exactly if both clauses hold
pub record AgreementByClauses (Ts : List Table) : Type 0 where
  pub exactly : AgreeByClauses Ts ↔ AgreePairwise Ts

-- "Whichever object of the maximal object stands for each kept set, the join over those kept sets has every row of the
-- full join on the wanted columns"
pub record EveryRow (kinds : List ℕ) (Ts : List Table) (X : ℕ) : Type 0 where
  pub kept : (cs : List ℕ) → StandFor Ts (kept_sets Ts X) cs → (row : Row) → InFullJoin kinds Ts X row
      → InKeptJoin kinds Ts X cs row

-- "where the tables of the maximal object agree pairwise, it has exactly those rows and no other"; request 5: "equality
-- with it is kept for a maximal object where no missing cell stands under an attribute of two of its objects"
pub record NoOtherRow (kinds : List ℕ) (Ts : List Table) (X : ℕ) : Type 0 where
  pub agreed : AgreePairwise Ts → NoneMissing kinds Ts → (cs : List ℕ) → StandFor Ts (kept_sets Ts X) cs → (row : Row)
      → InKeptJoin kinds Ts X cs row → InFullJoin kinds Ts X row

-- the combinations found by early tests are exactly the choices of "one row of each table, cells matching under every
-- attribute that two of the tables share"; and so the rows computed are exactly those of the natural join projected
-- to X
pub record JoinComputed (kinds : List ℕ) (Ts : List Table) (X : ℕ) : Type 0 where
  pub found : (rs : List Row) → Memᴰ rs (combinations kinds Ts) → Picked Ts rs × Matching kinds Ts rs
  pub finds : (rs : List Row) → Picked Ts rs → Matching kinds Ts rs → Memᴰ rs (combinations kinds Ts)
  pub row_found : (row : Row) → Memᴰ row (join_rows kinds Ts X) → InJoin kinds Ts X row
  pub finds_row : (row : Row) → InJoin kinds Ts X row → Memᴰ row (join_rows kinds Ts X)

-- "Their natural join, projected to X, is M's part": the part computed has exactly the rows of the join over the unions
pub record PartComputed (kinds : List ℕ) (Ts : List Table) (X : ℕ) : Type 0 where
  pub row_found : (row : Row) → Memᴰ row (part kinds Ts X) → InPart kinds Ts X row
  pub finds_row : (row : Row) → InPart kinds Ts X row → Memᴰ row (part kinds Ts X)

-- request 2: "M's part is then exactly the union, over every choice of objects that may stand for its kept sets, of
-- demand 3's joins, on any tables at all and whatever the order of reduction"
pub record UnionOfChoices (kinds : List ℕ) (Ts : List Table) (X : ℕ) : Type 0 where
  -- there is a choice
  pub some_choice : (cs : List ℕ) × StandFor Ts (kept_sets Ts X) cs
  pub of_kept : (row : Row) → InPart kinds Ts X row ↔ InSomeChoice kinds Ts (kept_sets Ts X) X row
  -- the sets that a complete list of either form leaves give the same part, and the same union of joins
  pub node : (ms : List Step) → Complete (NodePermits X) (family Ts) ms → (row : Row)
      → (InUnionJoin kinds Ts (leaves (family Ts) ms) X row ↔ InPart kinds Ts X row)
      × (InSomeChoice kinds Ts (leaves (family Ts) ms) X row ↔ InPart kinds Ts X row)
  pub cover : (ms : List Step) → Complete (CoverPermits X) (family Ts) ms → (row : Row)
      → (InUnionJoin kinds Ts (leaves (family Ts) ms) X row ↔ InPart kinds Ts X row)
      × (InSomeChoice kinds Ts (leaves (family Ts) ms) X row ↔ InPart kinds Ts X row)

-- "equality with the full join is still claimed only under pairwise agreement", and by request 5 only where no missing
-- cell stands under an attribute of two of the objects
pub record PartHolds (kinds : List ℕ) (Ts : List Table) (X : ℕ) : Type 0 where
  pub every_row : (row : Row) → InFullJoin kinds Ts X row → InPart kinds Ts X row
  pub equal : AgreePairwise Ts → NoneMissing kinds Ts → (row : Row) → InFullJoin kinds Ts X row ↔ InPart kinds Ts X row
