-- A scheme has a cyclic maximal object exactly if a complete list of steps of one of its maximal objects, with no
-- sacred attributes, leaves a set; and 9 is given exactly there.
-- In order: a cycle by the steps of a form, the number 9.
-- Assumes nothing.
use mathlib.Core.Path.{◌≡◌, refl, subst}
use mathlib.Core.Bool.{Bool, true, false}
use mathlib.Core.List.Memᴰ
use mathlib.Core.List.{List, [], ◌∷◌, Memᴰ}
use Prim.Native.Nat.{ℕ, ◌≤◌}
use lib.ListN.{length}
use Rattle.sets.proofs.Tests.{yes_no, not_yes}
use Rattle.reduction.specs.Steps.{Family, Step, Form, NodePermits, CoverPermits, Complete, leaves}
use Rattle.reduction.specs.Kept.{acyclic}
use Rattle.reduction.specs.Statements.{OfAttributes}
use Rattle.reduction.proofs.Existence.{node_exists, cover_exists}
use Rattle.reduction.proofs.Theorems.{reduces_to_nothing}
use Rattle.scheme.specs.declared.Scheme.{Scheme}
use Rattle.scheme.specs.Growing.{family_of}
use Rattle.scheme.specs.OfScheme.{maximal_of, both_of, cyclic_of}
use Rattle.scheme.proofs.Theorems.{both_is_a_fault, cyclic_is_a_fault}
use Rattle.book.specs.Accepting.{AtLast, cyclic}
use Rattle.book.specs.WellFormed.{WellFormed}
use Rattle.book.specs.Statements.{AcceptedWhole, CycleLeft, OnlyACycle}
use Rattle.book.proofs.WellFormed.{accepted_well_formed, family_of_attributes}

-- a family that is not empty has a set
some_set : (F : Family) → (F ≡ [] → ⊥) → (s : ℕ) × Memᴰ s F
some_set [] n = absurd (n refl)
some_set (s ∷ F) n = (s, Memᴰ.head refl)

-- ---- a cycle by the steps of a form

-- a form has complete lists with no sacred attributes, and they leave nothing exactly of an acyclic family
pub record Reduces (permits : ℕ → Form) : Type 0 where
  pub lists : (F : Family) → (ms : List Step) × Complete (permits 0) F ms
  pub nothing : (F : Family) → OfAttributes F → acyclic F ≡ true → (ms : List Step) → Complete (permits 0) F ms
      → leaves F ms ≡ []
  pub back : (F : Family) → OfAttributes F → (ms : List Step) → Complete (permits 0) F ms → leaves F ms ≡ []
      → acyclic F ≡ true

pub node_reduces : Reduces NodePermits
node_reduces = record {
  lists = node_exists 0;
  nothing = λ F o. (reduces_to_nothing F o).node_yes;
  back = λ F o. (reduces_to_nothing F o).node_back;
}

pub cover_reduces : Reduces CoverPermits
cover_reduces = record {
  lists = cover_exists 0;
  nothing = λ F o. (reduces_to_nothing F o).cover_yes;
  back = λ F o. (reduces_to_nothing F o).cover_back;
}

module _ {permits : ℕ → Form} (form : Reduces permits) where
  cyclic_left : {s : Scheme} → WellFormed s → cyclic_of s ≡ true → CycleLeft permits s
  unfolding cyclic_of
  cyclic_left {s} v e =
      let (M, m, n) = (cyclic_is_a_fault s.sets (maximal_of s)).yes_back e in
      let F = family_of s.sets M in
      let (ms, c) = form.lists F in
      let (set, there) = some_set (leaves F ms) (λ z. yes_no (form.back F (family_of_attributes v M) ms c z) n) in
      record { object = M; remaining = m; steps = ms; complete = c; set = set; left = there }

  left_cyclic : {s : Scheme} → WellFormed s → CycleLeft permits s → cyclic_of s ≡ true
  unfolding cyclic_of
  left_cyclic {s} v l = by (acyclic (family_of s.sets l.object)) refl
    where
      by : (t : Bool) → acyclic (family_of s.sets l.object) ≡ t → cyclic_of s ≡ true
      by true e =
          let z =
          form.nothing (family_of s.sets l.object) (family_of_attributes v l.object) e l.steps
          l.complete in
          absurd (Memᴰ.not-nil (subst (Memᴰ l.set) z l.left))
      by false e = (cyclic_is_a_fault s.sets (maximal_of s)).yes l.object l.remaining e

  -- ---- the number 9: a scheme with a cycle, and not both kinds

  pub whole_cycle : (b : List ℕ) → (length b ≤ 65536) × AcceptedWhole b 9 → OnlyACycle permits b
  unfolding both_of
  whole_cycle b (h, w) = by w.at_last
    where
      by : AtLast w.scheme 9 → OnlyACycle permits b
      by (cyclic p q) = record {
        short = h;
        passed = w.passed;
        scheme = w.scheme;
        rows = w.rows;
        at = w.at;
        accepted = w.accepted;
        ended = w.ended;
        not_both =
            λ k. yes_no ((both_is_a_fault w.scheme.maximal.only w.scheme.maximal.removals).exactly.1 k) p;
        cycle = cyclic_left (accepted_well_formed w.accepted) q;
      }

  pub cycle_whole : (b : List ℕ) → OnlyACycle permits b → (length b ≤ 65536) × AcceptedWhole b 9
  unfolding both_of
  cycle_whole b o = (
    o.short,
    record {
      passed = o.passed;
      scheme = o.scheme;
      rows = o.rows;
      at = o.at;
      accepted = o.accepted;
      ended = o.ended;
      at_last =
          cyclic
          (not_yes (λ e. o.not_both
          ((both_is_a_fault o.scheme.maximal.only o.scheme.maximal.removals).exactly.0 e)))
          (left_cyclic (accepted_well_formed o.accepted) o.cycle);
    },
  )
