-- What accepted records ask fits the arrays that the code has, and names variables and attributes in their range: a
-- record that would not has a fault.
-- In order: a record without a fault, accepted records.
-- Assumes nothing.
use mathlib.Core.Path.{◌≡◌, refl, ap, subst}
use mathlib.Core.Bool.{true}
use mathlib.Core.Logic.{⊎_elim}
use mathlib.Core.List.{List, [], ◌∷◌, ◌++◌}
use mathlib.Core.List.Memᴰ
use mathlib.Core.List.{Memᴰ}
use Prim.Native.Nat.{ℕ, ◌+◌, ◌≤◌, ◌<◌}
use native.Mathlib.Omega.{arith}
use lib.ListN.{length, length-append}
use Rattle.sets.specs.Sets.{ATTRIBUTES}
use Rattle.sets.proofs.Tests.{yes_no}
use Rattle.records.specs.Checks.{first_of}
use Rattle.records.specs.Walking as Walking
use Rattle.records.specs.declared.Record.{Record}
use Rattle.records.specs.declared.Record.TheVariants.{OfBook, OfQuery}
use Rattle.records.specs.declared.QueryRecord.TheVariants.{Item, CompareTwo, CompareConstant, End}
use Rattle.records.proofs.Checks.{none_first}
use Rattle.scheme.specs.declared.Scheme.{Scheme}
use Rattle.query.specs.declared.Asked.{Asked}
use Rattle.query.specs.declared.QueryItem.{QueryItem}
use Rattle.query.specs.Asking.{item_of, items_of, comparison_of, comparisons_of, comparisons_in, conjunction, Named}
use Rattle.query.specs.Asking.{names_of, pair, asks, asked_of}
use Rattle.query.specs.Faults.{checks, fault_of}
use Rattle.query.specs.Reading.{query_rules}
use Rattle.query.proofs.Asking.{NewName, item_accepted, two_accepted, constant_accepted, items_more}
use Rattle.query.proofs.Asking.{comparisons_more, names_more, conjunction_of}
use Rattle.query.proofs.Names.{in_name}
use Rattle.query.specs.Accepting.{Names, item, left, right, of_constant, Accepted}

-- ---- a record without a fault

-- a name of a query: "variables 0 to 3", attributes 0 to 31
pub record NameInRange (v a : ℕ) : Type 0 where
  pub variable : v < 4
  pub attribute : a < ATTRIBUTES

-- a record without a fault, behind what was asked
record Fitting (asked : Asked) (r : Record) : Type 0 where
  items_fit : asked.retrieved ≤ 8 → asked.retrieved + length (item_of r) ≤ 8
  comparisons_fit : asked.compared ≤ 16 → asked.compared + length (comparison_of r) ≤ 16
  names_fit : {v a : ℕ} → Names v a r → NameInRange v a

-- a record that is no query's has a fault
other_faulty : {P : Type 0} → first_of ((true, 2) ∷ []) ≡ 0 → P
other_faulty e = absurd (yes_no refl (none_first true 2 [] (λ z. omega arith) e).0)

name_in_range : {before bound v a : ℕ} → NewName before bound v a → NameInRange v a
name_in_range n = record { variable = n.variable; attribute = n.attribute }

fitting : (s : Scheme) (asked : Asked) (r : Record) → fault_of s asked r ≡ 0 → Fitting asked r
unfolding fault_of checks item_of comparison_of
fitting s asked (OfBook r) e = other_faulty e
fitting s asked (OfQuery (Item v a)) e =
    let n = item_accepted s asked v a e in
    record {
      items_fit = λ h. omega (arith, n.room);
      comparisons_fit = λ h. omega arith;
      names_fit = λ m. named m (name_in_range n);
    }
  where
    named : {w b : ℕ} → Names w b (OfQuery (Item v a)) → NameInRange v a → NameInRange w b
    named item n = n
fitting s asked (OfQuery (CompareTwo v a operator v2 a2)) e =
    let n = two_accepted s asked v a operator v2 a2 e in
    record {
      items_fit = λ h. omega arith;
      comparisons_fit = λ h. omega (arith, n.0.room);
      names_fit = λ m. named m (name_in_range n.0) (name_in_range n.1);
    }
  where
    named : {w b : ℕ} → Names w b (OfQuery (CompareTwo v a operator v2 a2)) → NameInRange v a → NameInRange v2 a2
        → NameInRange w b
    named left m n = m
    named right m n = n
fitting s asked (OfQuery (CompareConstant v a operator cell)) e =
    let n = constant_accepted s asked v a operator cell e in
    record {
      items_fit = λ h. omega arith;
      comparisons_fit = λ h. omega (arith, n.room);
      names_fit = λ m. named m (name_in_range n);
    }
  where
    named : {w b : ℕ} → Names w b (OfQuery (CompareConstant v a operator cell)) → NameInRange v a → NameInRange w b
    named of_constant n = n
fitting s asked (OfQuery End) e = record {
  items_fit = λ h. omega arith;
  comparisons_fit = λ h. omega arith;
  names_fit = λ n. elim n [ ];
}

-- ---- accepted records

-- "items 1 to 8; comparisons 0 to 16 in all; variables 0 to 3"
pub record Fits (rs : List Record) : Type 0 where
  pub items : length (items_of rs) ≤ 8
  pub comparisons : length (comparisons_of rs) ≤ 16
  pub named : {v a : ℕ} → Named (asks rs) v a → NameInRange v a

fits_none : Fits []
unfolding items_of comparisons_of names_of
fits_none = record {
  items = omega arith;
  comparisons = omega arith;
  named = λ n. absurd (Memᴰ.not-nil n);
}

fits_one_more : {rs : List Record} {r : Record} → Fits rs → Fitting (asked_of (asks rs)) r → Fits (rs ++ r ∷ [])
unfolding asked_of
fits_one_more {rs} {r} w f =
    let i : length (items_of rs) + length (item_of r) ≤ 8 = f.items_fit w.items in
    let e : length (comparisons_in (conjunction (comparisons_of rs))) ≡ length (comparisons_of rs) =
    ap length (conjunction_of (comparisons_of rs)) in
    let c : length (comparisons_of rs) + length (comparison_of r) ≤ 16 =
    omega (arith, e, f.comparisons_fit (omega (arith, e, w.comparisons))) in
    record {
      items = rw items_more (simp length-append i);
      comparisons = rw comparisons_more (simp length-append c);
      named = λ {v} {a} n. ⊎_elim (λ m. w.named m) (λ m. f.names_fit (in_name r m))
          (Memᴰ.append_cases (names_of rs) (subst (λ (l : List QueryItem). Memᴰ (pair v a) l) (names_more rs r) n));
    }

module _ (s : Scheme) {b : List ℕ} where
  -- the state of a walk is the records accepted
  pub state_is : {rs st : List Record} {at : ℕ} → Walking.Accepted (query_rules s) b [] rs st at → st ≡ rs
  state_is Walking.none = refl
  state_is (Walking.one {r = r} a e f l) = ap (λ (l : List Record). l ++ r ∷ []) (state_is a)

  state_fits : {rs st : List Record} {at : ℕ} → Walking.Accepted (query_rules s) b [] rs st at → Fits st
  state_fits Walking.none = fits_none
  state_fits (Walking.one {s = st} {r = r} a e f l) =
      fits_one_more (state_fits a) (fitting s (asked_of (asks st)) r f)

  pub accepted_records_fit : {rs : List Record} {at : ℕ} → Accepted s b rs at → Fits rs
  accepted_records_fit a = state_fits a.walked
