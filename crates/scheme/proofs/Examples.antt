-- Worked examples: what the definitions give beside what the paper says, in one list under one theorem.
-- In order: document 000's banking scheme, three objects in a ring, two objects that do not join, the trials.
-- Assumes nothing.
use mathlib.Core.Path.{◌≡◌, refl}
use mathlib.Core.Bool.{true, false}
use mathlib.Core.List.{List, [], ◌∷◌, map}
use Prim.Native.Nat.{ℕ}
use Rattle.sets.specs.Sets.{bit, has, within, ◌∩◌, ◌∪◌, single, is_empty, rank, count, members, OBJECTS}
use Rattle.reduction.specs.Kept.{union, around, some_holds, removable, stays, staying, settle, left, acyclic}
use Rattle.reduction.specs.Kept.{goes_for, goes, keeps, kept_of}
use Rattle.scheme.specs.Dependencies.{Dependency, pass, passes, closure}
use Rattle.scheme.specs.Growing.{family_of, attributes_of, joins, holding, rounds, grown}
use Rattle.scheme.specs.MaximalObjects.{computed, counted, is_one, removing, adding, maximal_objects}
use Rattle.scheme.specs.MaximalObjects.{some_cyclic}

-- ---- document 000's banking scheme. Attributes: 0 BANK, 1 ACCT, 2 BALANCE, 3 CUST, 4 ADDR, 5 LOAN, 6 AMT

-- "in the order of its example 3": ACCT-BALANCE, ACCT-CUST, ACCT-BANK, CUST-ADDR, CUST-LOAN, LOAN-BANK, LOAN-AMT
unfoldable pub banking_sets : List ℕ
banking_sets = 6 ∷ 10 ∷ 3 ∷ 24 ∷ 40 ∷ 33 ∷ 96 ∷ []

-- LOAN to BANK
unfoldable pub loan_to_bank : Dependency
loan_to_bank = record { left = 32; right = 1 }

-- ACCT to BANK, ACCT to BALANCE, LOAN to AMT, CUST to ADDR
unfoldable pub other_dependencies : List Dependency
other_dependencies =
    record { left = 2; right = 1 } ∷ record { left = 2; right = 4 } ∷ record { left = 32; right = 64 }
    ∷ record { left = 8; right = 16 } ∷ []

-- the maximal objects, with declared ones and removed ones
abbrev banking : List Dependency → List ℕ → List ℕ → List ℕ
banking D declared removed = maximal_objects D banking_sets 127 false declared removed

abbrev only_declared : List ℕ → List ℕ
only_declared declared = maximal_objects other_dependencies banking_sets 127 true declared []

-- ---- three objects in a ring. Attributes: 0 A, 1 B, 2 C

-- objects AB, BC, CA and ABC
unfoldable pub ring_sets : List ℕ
ring_sets = 3 ∷ 6 ∷ 5 ∷ 7 ∷ []

-- A to B and B to C
unfoldable pub ring_dependencies : List Dependency
ring_dependencies = record { left = 1; right = 2 } ∷ record { left = 2; right = 4 } ∷ []

-- the refusal that a scheme of these objects meets: 9, or none
abbrev ring : ℕ → List ℕ
ring objects =
    elim (some_cyclic ring_sets (maximal_objects ring_dependencies ring_sets objects false [] [])) [ true ↦ 9 ∷ [] | false ↦ [] ]

-- ---- two objects that do not join: AB and AC with B to C. They share A, which does not determine C, though all that
-- AB
-- has does

abbrev apart : List ℕ
apart = maximal_objects (record { left = 2; right = 4 } ∷ []) (3 ∷ 5 ∷ []) 3 false [] []

-- ---- the trials

pub record Trial : Type 0 where
  pub gives : List ℕ
  pub says : List ℕ

-- "five dependencies: two maximal objects of four objects each"; "Without loan to bank: three, of four, three and two";
-- "Objects AB, BC, CA with A to B and B to C: 9"; "With object ABC also: accepted"
unfoldable pub trials : List Trial
trials =
    record { gives = banking (loan_to_bank ∷ other_dependencies) [] []; says = 15 ∷ 120 ∷ [] }
    ∷ record { gives = map (count OBJECTS) (banking (loan_to_bank ∷ other_dependencies) [] []); says = 4 ∷ 4 ∷ [] }
    ∷ record { gives = banking other_dependencies [] []; says = 15 ∷ 88 ∷ 96 ∷ [] }
    ∷ record { gives = map (count OBJECTS) (banking other_dependencies [] []); says = 4 ∷ 3 ∷ 2 ∷ [] }
    ∷ record { gives = banking other_dependencies (96 ∷ 127 ∷ 88 ∷ []) (88 ∷ 15 ∷ 88 ∷ []); says = 96 ∷ 127 ∷ 88 ∷ [] }
    ∷ record { gives = banking other_dependencies (127 ∷ 1 ∷ 127 ∷ 88 ∷ []) []; says = 15 ∷ 88 ∷ 96 ∷ 127 ∷ 1 ∷ [] }
    ∷ record { gives = apart; says = 1 ∷ 2 ∷ [] }
    -- request 8: a removal that matches nothing, and only declared ones
    ∷ record { gives = banking other_dependencies [] (1 ∷ []); says = 15 ∷ 88 ∷ 96 ∷ [] }
    ∷ record { gives = only_declared (127 ∷ 1 ∷ 127 ∷ []); says = 127 ∷ 1 ∷ [] }
    ∷ record { gives = only_declared []; says = [] }
    ∷ record { gives = ring 7; says = 9 ∷ [] }
    ∷ record { gives = ring 15; says = [] }
    ∷ []

pub trials_hold : map (λ t. t.gives) trials ≡ map (λ t. t.says) trials
unfolding trials banking_sets loan_to_bank other_dependencies ring_sets ring_dependencies
    maximal_objects computed counted is_one removing adding some_cyclic
    grown rounds holding joins attributes_of family_of closure passes pass
    acyclic left settle staying stays removable some_holds around union kept_of keeps goes goes_for
    bit has within ◌∩◌ ◌∪◌ single is_empty rank members
trials_hold = refl
