-- The tests of the checks say what the conditions say, kind by kind; so the fault of a record is the number of the
-- first condition that holds.
-- In order: each kind, the first, the numbers of faults, kinds of a query.
-- Assumes nothing.
use mathlib.Core.Path.{ap, ◌≡◌, refl}
use mathlib.Core.Bool.{false}
use mathlib.Core.Logic.{◌⊎◌, inl, inr}
use Prim.Native.Nat.{ℕ, ◌≤◌}
use native.Mathlib.Omega.{arith}
use borrow.Author.Tests.{eqb-true, not-false}
use lib.Dec.{eqb}
use Rattle.sets.proofs.Tests.{yes_no}
use Rattle.records.specs.Checks.{first_of, First}
use Rattle.records.specs.Records.{whose, is_kind, of_query, kind_of}
use Rattle.records.specs.Walking.{Sound}
use Rattle.records.specs.declared.Record.{Record}
use Rattle.records.specs.declared.Record.TheVariants.{OfBook, OfQuery}
use Rattle.records.specs.declared.QueryRecord.TheVariants.{Item, CompareTwo, CompareConstant, End}
use Rattle.records.proofs.Records.{of_query_kind}
use Rattle.records.proofs.Checks.{EachNumber, first_number, Agree, ended, next, first_agrees, first_unique, same_always}
use Rattle.records.proofs.Checks.{same_true, same_not, same_or}
use Rattle.records.proofs.Checks.{same_lt, same_le, same_absent}
use Rattle.scheme.specs.declared.Scheme.{Scheme}
use Rattle.query.specs.declared.Asked.{Asked}
use Rattle.query.specs.Asking.{asks, asked_of}
use Rattle.query.specs.Faults.{checks, fault_of}
use Rattle.query.specs.Conditions.{conditions}
use Rattle.query.specs.Reading.{query_rules}

-- ---- each kind

agrees : (s : Scheme) (asked : Asked) (r : Record)
    → Agree (checks s asked r) (conditions s asked r)
unfolding checks conditions
agrees s asked (OfBook r) = next same_always ended
agrees s asked (OfQuery (Item v a)) =
    next (same_le _ _) (next (same_or (same_lt _ _) (same_lt _ _)) (next (same_absent _ _) ended))
agrees s asked (OfQuery (CompareTwo v a operator v2 a2)) =
    next (same_le _ _)
    (next (same_or (same_lt _ _) (same_or (same_lt _ _) (same_or (same_lt _ _) (same_or (same_lt _ _) (same_lt _ _)))))
    (next (same_or (same_absent _ _) (same_absent _ _)) (next (same_not _) ended)))
agrees s asked (OfQuery (CompareConstant v a operator cell)) =
    next (same_le _ _)
    (next (same_or (same_lt _ _) (same_or (same_lt _ _) (same_lt _ _)))
    (next (same_absent _ _) (next (same_not _) (next (same_not _) (next (same_true _) ended)))))
agrees s asked (OfQuery End) = ended

-- ---- the first

pub fault_first : (s : Scheme) (asked : Asked) (r : Record)
    → First (conditions s asked r) (fault_of s asked r)
unfolding fault_of
fault_first s asked r = first_agrees (agrees s asked r)

pub first_fault : (s : Scheme) (asked : Asked) (r : Record) {n : ℕ} → First (conditions s asked r) n
    → fault_of s asked r ≡ n
first_fault s asked r f =
    first_unique (conditions s asked r) (fault_first s asked r) f

-- ---- the numbers of faults: "for each record 2, 3, 4, 5, 7 as above", and 11

pub data FaultNumber : ℕ → Type 0 where
  two : FaultNumber 2
  three : FaultNumber 3
  four : FaultNumber 4
  five : FaultNumber 5
  seven : FaultNumber 7
  eleven : FaultNumber 11

numbered : (s : Scheme) (asked : Asked) (r : Record) → EachNumber FaultNumber (conditions s asked r)
unfolding EachNumber conditions
numbered s asked (OfBook r) = (two, tt)
numbered s asked (OfQuery (Item v a)) = (four, (five, (seven, tt)))
numbered s asked (OfQuery (CompareTwo v a operator v2 a2)) = (four, (five, (seven, (eleven, tt))))
numbered s asked (OfQuery (CompareConstant v a operator cell)) =
    (four, (five, (seven, (eleven, (five, (five, tt))))))
numbered s asked (OfQuery End) = tt

pub fault_number : (s : Scheme) (asked : Asked) (r : Record) → (fault_of s asked r ≡ 0 → ⊥)
    → FaultNumber (fault_of s asked r)
fault_number s asked r d =
    first_number FaultNumber (conditions s asked r) (fault_of s asked r)
    (numbered s asked r)
    (fault_first s asked r) d

pub fault_splits : {n : ℕ} → FaultNumber n → ((2 ≤ n) × (n ≤ 7)) ⊎ (n ≡ 11)
fault_splits two = inl (omega arith)
fault_splits three = inl (omega arith)
fault_splits four = inl (omega arith)
fault_splits five = inl (omega arith)
fault_splits seven = inl (omega arith)
fault_splits eleven = inr refl

-- ---- kinds of a query

-- a number that is no kind is none of a query
no_kind_no_query : (k : ℕ) → is_kind k ≡ false → of_query k ≡ false
unfolding is_kind of_query
no_kind_no_query k e = ap (λ (w : ℕ). eqb w 2) (eqb-true (whose k) 0 (not-false (eqb (whose k) 0) e))

-- a record of another kind has the fault 2
fault_not_of_query : (s : Scheme) (asked : Asked) (r : Record) → of_query (kind_of r) ≡ false
    → fault_of s asked r ≡ 2
unfolding fault_of checks first_of
fault_not_of_query s asked (OfBook r) e = refl
fault_not_of_query s asked (OfQuery r) e = absurd (yes_no (of_query_kind r) e)

pub query_sound : (s : Scheme) → Sound (query_rules s)
query_sound s = record {
  known = no_kind_no_query;
  others = λ rs r e. fault_not_of_query s (asked_of (asks rs)) r e;
}
