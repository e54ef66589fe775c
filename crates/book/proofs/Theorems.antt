-- The theorems of `Statements`, in its order.
-- Assumes nothing.
use mathlib.Core.Path.{◌≡◌, refl, sym, subst}
use mathlib.Core.Logic.{◌⊎◌, inl, inr, ⊎_elim}
use mathlib.Core.Bool.{false}
use mathlib.Core.List.{List, []}
use Prim.Native.Nat.{ℕ, ◌≤◌, ◌<◌}
use native.Mathlib.Omega.{arith}
use lib.ListN.{length}
use Rattle.sets.specs.Sets.{◌⊆◌}
use Rattle.sets.proofs.Numbers.{lt_or_le}
use Rattle.reduction.specs.Steps.{Family}
use Rattle.reduction.specs.Kept.{union}
use Rattle.reduction.specs.Statements.{OfAttributes}
use Rattle.records.specs.Checks.{First}
use Rattle.records.specs.Walking.{none}
use Rattle.records.specs.declared.Record.{Record}
use Rattle.relation.proofs.Theorems.{demand3}
use Rattle.scheme.specs.declared.Scheme.{Scheme}
use Rattle.scheme.specs.Growing.{attributes_of}
use Rattle.scheme.specs.OfScheme.{dependencies_of, declared_of, removed_of, maximal_of, cyclic_of}
use Rattle.scheme.proofs.Theorems.{object_joins_by_the_rule, grown_is_the_same_in_every_order, computed_is_the_list}
use Rattle.scheme.proofs.Theorems.{maximal_objects_are_the_list, cyclic_is_a_fault}
use Rattle.book.specs.Reading.{Outcome, read, book_with, book_of}
use Rattle.records.proofs.Refused.{HasRefusal, small_has, other_has}
use Rattle.book.specs.Accepting.{Accepted, AtLast, good}
use Rattle.book.specs.Conditions.{conditions}
use Rattle.book.specs.Faults.{checks, fault_of}
use Rattle.book.specs.Declaring.{declare}
use Rattle.book.specs.Statements.{FaultMeans, KindFifteen, ReadExactly, StopsWith, NumberMeans, RefusalNumbered, NineMeans, AcceptedSay}
use Rattle.book.specs.Statements.{RowInBytes}
use Rattle.book.specs.Statements.{SchemeWellFormed, MaximalObjectsRead, TablesOfBook, MaximalObjectsOfBook}
use Rattle.book.specs.TablesOf.{tables_of}
use Rattle.book.proofs.Conditions.{fault_first, first_fault}
use Rattle.book.proofs.Outcomes.{read_over, read_stops, stops_read, number_one_of}
use Rattle.book.proofs.Outcomes.{record_number_not}
use Rattle.book.proofs.Outcomes.{number_within, number_faulty, faulty_number, number_whole, whole_number}
use Rattle.book.proofs.Outcomes.{good_last, number_over, number_not_one}
use Rattle.book.proofs.Cycles.{node_reduces, cover_reduces, whole_cycle, cycle_whole}
use Rattle.book.proofs.WellFormed.{accepted_well_formed, family_of_attributes, scheme_bounded, maximal_some}
use Rattle.book.proofs.TablesOf.{tables_family, tables_in_range}
use Rattle.book.proofs.RecordsSay.{accepted_scheme_said, accepted_rows_said, table_said, row_whole}
use Rattle.book.proofs.RecordsSay.{row_in_bytes_is, row_in_tables}

-- ---- the fault of a record

pub fault_means : (s : Scheme) (r : Record) → FaultMeans s r
fault_means s r = record {
  exactly = λ n. (λ e. subst (First (conditions s r)) e (fault_first s r), λ f. first_fault s r f);
}

pub kind_fifteen : (s : Scheme) (M : ℕ) → KindFifteen s M
unfolding fault_of checks declare
kind_fifteen s M = record { fault = refl; adds = refl }

-- ---- where reading stops

pub read_exactly : (b : List ℕ) → ReadExactly b
read_exactly b = record {
  over = read_over b;
  exactly = λ h o. (λ e. subst (StopsWith b) e (read_stops b h), λ w. stops_read b o h w);
}

-- ---- the number

pub number_means : (b : List ℕ) → NumberMeans b
number_means b = record {
  one_of = number_one_of b;
  one = (
    λ e. ⊎_elim (λ h. h) (λ h. absurd (number_not_one b h e)) (lt_or_le 65536 (length b)),
    λ h. number_over b h,
  );
  of_record = λ n r. (
    λ e. let h = number_within b (λ z. record_number_not r (inl (omega arith))) in (h, number_faulty b n r h e),
    λ p. faulty_number b n p.0 p.1,
  );
  zero = (
    λ e. let h = number_within b (λ z. omega arith) in (h, number_whole b 0 (inl (omega arith)) h e),
    λ p. whole_number b 0 p.0 p.1,
  );
  twenty_one = (
    λ e. let h = number_within b (λ z. omega arith) in (h, number_whole b 21 (inr (inr refl)) h e),
    λ p. whole_number b 21 p.0 p.1,
  );
  nine = (
    λ e. let h = number_within b (λ z. omega arith) in (h, number_whole b 9 (inr (inl refl)) h e),
    λ p. whole_number b 9 p.0 p.1,
  );
}

pub refusal_numbered : (b : List ℕ) → RefusalNumbered b
unfolding book_of book_with
refusal_numbered b = record { numbered = has (number_one_of b) }
  where
    has : {n : ℕ} → (n ≤ 7) ⊎ ((n ≡ 9) ⊎ ((n ≡ 20) ⊎ (n ≡ 21))) → HasRefusal n
    has {n} (inl h) = small_has n (omega arith)
    has (inr (inl e)) = subst HasRefusal (sym e) other_has.0
    has (inr (inr (inl e))) = subst HasRefusal (sym e) other_has.4
    has (inr (inr (inr e))) = subst HasRefusal (sym e) other_has.5

-- ---- a cycle

pub nine_means : (b : List ℕ) → NineMeans b
nine_means b =
    let nine = (number_means b).nine in
    record {
      node = (λ e. whole_cycle node_reduces b (nine.0 e), λ o. nine.1 (cycle_whole node_reduces b o));
      cover = (λ e. whole_cycle cover_reduces b (nine.0 e), λ o. nine.1 (cycle_whole cover_reduces b o));
    }

-- ---- what accepted records say

pub accepted_say : (b : List ℕ) (rs : List Record) (o : Outcome) (at : ℕ) → Accepted b rs o.scheme o.rows at
    → AcceptedSay b rs o at
accepted_say b rs o at a = record {
  scheme = accepted_scheme_said a;
  rows = accepted_rows_said a;
  tables = λ M k h i. table_said o (accepted_rows_said a) M h i;
}

pub row_in_bytes : (b : List ℕ) (at : ℕ) → RowInBytes b at
row_in_bytes b at = record {
  whole = λ k r next row e w. row_whole b at e w;
  in_bytes = λ k r next row e w. row_in_bytes_is b at e w;
  in_tables = λ k r next row e w. row_in_tables b at e w;
}

-- ---- the scheme

-- the scheme and the rows of any outcome are those of accepted records
record SomeAccepted (b : List ℕ) : Type 0 where
  passed : List Record
  at : ℕ
  accepted : Accepted b passed (read b).scheme (read b).rows at

some_accepted : (b : List ℕ) → SomeAccepted b
some_accepted b = ⊎_elim over within (lt_or_le 65536 (length b))
  where
    over : 65536 < length b → SomeAccepted b
    over h = record {
      passed = [];
      at = 0;
      accepted = subst (λ (o : Outcome). Accepted b [] o.scheme o.rows 0) (sym (read_over b h)) none;
    }

    within : length b ≤ 65536 → SomeAccepted b
    within h = let w = read_stops b h in record { passed = w.passed; at = w.at; accepted = w.accepted }

pub scheme_well_formed : (b : List ℕ) → SchemeWellFormed b
scheme_well_formed b = record { well_formed = accepted_well_formed (some_accepted b).accepted }

pub maximal_objects_read : (b : List ℕ) → MaximalObjectsRead b
maximal_objects_read b =
    let s = (read b).scheme in
    let o = scheme_bounded (scheme_well_formed b).well_formed in
    record {
      joining = object_joins_by_the_rule (dependencies_of s) s.sets s.objects o;
      growing = grown_is_the_same_in_every_order (dependencies_of s) s.sets s.objects o;
      computed = computed_is_the_list (dependencies_of s) s.sets s.objects o;
      list =
          maximal_objects_are_the_list (dependencies_of s) s.sets s.objects o s.maximal.only (declared_of s)
          (removed_of s);
    }

-- ---- the tables and maximal objects of a good book

pub tables_of_book : (b : List ℕ) (M : ℕ) → TablesOfBook b M
tables_of_book b M = record {
  family_is = tables_family b (read b) M;
  rows_in_range = tables_in_range (read b) (some_accepted b).accepted M;
}

-- no maximal object of a good book has a cycle
good_acyclic : {s : Scheme} → AtLast s 0 → cyclic_of s ≡ false
good_acyclic (good p q) = q

pub maximal_objects_of_book : (b : List ℕ) → MaximalObjectsOfBook b
unfolding cyclic_of attributes_of
maximal_objects_of_book b = record {
  good = λ e M m.
      let v = (scheme_well_formed b).well_formed in
      let F = tables_family b (read b) M in
      record {
        some_objects = maximal_some v M m;
        is_acyclic = (cyclic_is_a_fault (read b).scheme.sets (maximal_of (read b).scheme)).no_back (good_acyclic
            (good_last b e)) M m;
        demand3 = λ X some inside.
            demand3 (read b).scheme.kinds (tables_of b (read b) M) X
            (subst OfAttributes (sym F) (family_of_attributes v M))
            (subst (λ (G : Family). X ⊆ union G) (sym F) inside) some;
      };
}
