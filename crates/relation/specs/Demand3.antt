-- Demand 3, for the tables of a maximal object and wanted columns X: "Every list of permitted reduction steps that
-- starts from the maximal object's own sets, each step taken on what the one before left, and stops only where none is
-- permitted, ends with exactly the program's kept sets, each once, whether the steps drop columns and contained sets or
-- whole covered objects. Whichever object of the maximal object stands for each kept set, the join over those kept sets
-- has every row of the full join on the wanted columns; and where the tables of the maximal object agree pairwise, it
-- has exactly those rows and no other."
-- `demand3` of `proofs/Theorems.antt` proves it for all tables over attributes 0 to 31, whatever their rows, and every
-- non-empty X of their attributes.
-- Assumes nothing.
use Rattle.std.specs.Prelude.{◌↔◌, List, ℕ}
use Rattle.reduction.specs.Statements.{KeptByEveryList}
use Rattle.relation.specs.Tables.{Row, Table, family}
use Rattle.relation.specs.Joins.{AgreePairwise, NoneMissing, InFullJoin, StandFor, kept_sets, InKeptJoin}
use Rattle.relation.specs.Statements.{UnionOfChoices, PartHolds}

pub record Demand3 (kinds : List ℕ) (Ts : List Table) (X : ℕ) : Type 0 where
  -- "ends with exactly the program's kept sets, each once": "equal to them as a set of attribute sets, with none left
  -- twice"; and complete lists of both forms exist
  pub every_list : KeptByEveryList X (family Ts)
  -- request 2: what the program computes for M, its part, is exactly the union of the joins over all choices, and
  -- there is a choice, so that what follows is not empty
  pub programs_union : UnionOfChoices kinds Ts X
  -- the same of M's part itself: it has every row of the full join on X, and is equal to it where the tables agree
  -- pairwise and no missing cell stands under an attribute of two of them
  pub programs_part : PartHolds kinds Ts X
  -- "Whichever object of the maximal object stands for each kept set, the join over those kept sets has every row of
  -- the full join on the wanted columns"
  pub every_row : (cs : List ℕ) → StandFor Ts (kept_sets Ts X) cs → (row : Row) → InFullJoin kinds Ts X row
      → InKeptJoin kinds Ts X cs row
  -- "where the tables of the maximal object agree pairwise, it has exactly those rows and no other"; request 5:
  -- "equality with it is kept for a maximal object where no missing cell stands under an attribute of two of its
  -- objects"
  pub no_other : AgreePairwise Ts → NoneMissing kinds Ts → (cs : List ℕ) → StandFor Ts (kept_sets Ts X) cs → (row : Row)
      → InKeptJoin kinds Ts X cs row → InFullJoin kinds Ts X row
  -- "compares it with the full join on X, as sets of rows, for every such choice": there the two are equal
  pub equal : AgreePairwise Ts → NoneMissing kinds Ts → (cs : List ℕ) → StandFor Ts (kept_sets Ts X) cs → (row : Row)
      → InFullJoin kinds Ts X row ↔ InKeptJoin kinds Ts X cs row
