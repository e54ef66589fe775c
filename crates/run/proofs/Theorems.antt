-- The theorems of `Statements`, in its order.
-- Assumes nothing.
use mathlib.Core.Path.{◌≡◌}
use mathlib.Core.List.{List}
use Prim.Native.Nat.{ℕ, ◌<◌, ◌^◌}
use native.Mathlib.Omega.{arith}
use lib.ListN.{length}
use Rattle.run.specs.Running.{room, number_of}
use Rattle.run.specs.Statements.{AnsweredPrints, StepInside, OpeningInside, KindsGiven, RunPrints}
use Rattle.run.proofs.Answering as Answering
use Rattle.run.proofs.Stepping as Stepping
use Rattle.run.proofs.Items.{none_of_book, none_of_query, those_of_items}

-- ---- one query

pub answered_prints : (b q : List ℕ) (serial : ℕ) (space : List ℕ) → number_of b q serial ≡ 0 → serial < 2 ^ 32
    → length space ≡ room → AnsweredPrints b q serial space
answered_prints = Answering.answered_prints

pub step_inside : (b q : List ℕ) (serial : ℕ) → serial < 2 ^ 32 → StepInside b q serial
step_inside = Stepping.step_inside

pub opening_inside : (refusal input : ℕ) → OpeningInside refusal input
opening_inside = Stepping.opening_inside

-- ---- the value kinds of its items

pub kinds_given : (b q : List ℕ) → KindsGiven b q
kinds_given b q = record {
  refused_book = λ h. none_of_book b q (λ z. omega (arith, h, z));
  refused_query = λ h. none_of_query b q (λ z. omega (arith, h, z));
  good = those_of_items b q;
}

-- ---- the printout

pub run_prints : (b input : List ℕ) → RunPrints b input
run_prints = Stepping.run_prints
