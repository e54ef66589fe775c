-- The theorems of `Statements`, in its order.
-- Assumes nothing.
use mathlib.Core.Path.{◌≡◌, refl, sym, ap, ◌∙◌, subst}
use mathlib.Core.Logic.{◌⊎◌, inl, inr, ⊎_elim}
use mathlib.Core.List.{List}
use Prim.Native.Nat.{ℕ, ◌≤◌}
use native.Mathlib.Omega.{arith}
use lib.ListN.{length}
use Rattle.sets.proofs.Numbers.{lt_or_le}
use Rattle.records.specs.Checks.{First}
use Rattle.records.specs.declared.Record.{Record}
use Rattle.scheme.specs.declared.Scheme.{Scheme}
use Rattle.records.specs.Gathered.{Gathered}
use Rattle.query.specs.declared.Asked.{Asked}
use Rattle.query.specs.Asking.{Asking, comparisons_of, asks}
use Rattle.query.specs.Conditions.{conditions}
use Rattle.records.proofs.Refused.{HasRefusal, small_has, other_has}
use Rattle.query.specs.Reading.{query_of}
use Rattle.query.specs.Accepting.{StopsWith}
use Rattle.query.specs.Statements.{FaultMeans, SaysComparison, RecordsAsk, AttributesAre, ContainingList}
use Rattle.query.specs.Statements.{ReadExactly, AcceptedFits, NumberMeans, RefusalNumbered}
use Rattle.query.proofs.Conditions.{fault_first, first_fault}
use Rattle.query.proofs.Names.{items_gathered, comparisons_gathered, names_in, in_names, names_whole, named_in}
use Rattle.query.proofs.Names.{in_named, asked_whole}
use Rattle.query.proofs.Asking.{conjunction_of}
use Rattle.query.proofs.Fits.{accepted_records_fit}
use Rattle.query.proofs.Whole.{containing_only, containing_has, containing_ordered}
use Rattle.query.proofs.Outcomes.{read_over, read_stops, stops_read, faulty_number, unended_number, ended_number}
use Rattle.query.proofs.Outcomes.{number_over, number_within, number_not_one, number_one_of, number_of_record}
use Rattle.query.proofs.Outcomes.{number_three, number_of_query, record_not_one, query_not_one}

-- ---- the fault of a record

pub fault_means : (s : Scheme) (q : Asked) (r : Record) → FaultMeans s q r
fault_means s q r = record {
  exactly = λ n. (λ e. subst (First (conditions s q r)) e (fault_first s q r), λ f. first_fault s q r f);
}

-- ---- what records ask

pub records_ask : (rs : List Record) → RecordsAsk rs
records_ask rs = record {
  items = items_gathered rs;
  comparisons = subst (Gathered SaysComparison rs) (sym (conjunction_of (comparisons_of rs))) (comparisons_gathered rs);
  names = λ v a. (λ m. in_names rs m, λ n. names_in n.there n.names);
  whole = names_whole rs;
  attributes = λ v a. (
    λ i. in_names rs (named_in (asks rs) v i),
    λ n. in_named (asks rs) v (names_in n.there n.names),
  );
}

pub attributes_are : (q : Asking) → AttributesAre q
attributes_are q = record { attributes = λ v a. (λ i. named_in q v i, λ n. in_named q v n) }

-- ---- maximal objects that contain a set

pub containing_is_the_list : (sets Ms : List ℕ) (X : ℕ) → ContainingList sets Ms X
containing_is_the_list sets Ms X = record {
  IsIn = λ M. (λ m. containing_only sets X Ms m, λ p. containing_has sets X p.0 p.1);
  ordered = containing_ordered sets X Ms;
}

-- ---- where reading stops

pub read_exactly : (s : Scheme) (Ms b : List ℕ) → ReadExactly s Ms b
read_exactly s Ms b = record {
  over = read_over s Ms b;
  exactly = λ h o. (λ e. subst (StopsWith s Ms b) e (read_stops s Ms b h), λ w. stops_read s Ms b h w);
}

pub accepted_fits : (s : Scheme) (b : List ℕ) → AcceptedFits s b
accepted_fits s b = record {
  whole = λ rs at a.
      let w = accepted_records_fit s a in
      asked_whole (asks rs) w.items (omega (arith, ap length (conjunction_of (comparisons_of rs)), w.comparisons));
  named = λ rs at v a k n. let w = (accepted_records_fit s k).named n in (w.variable, w.attribute);
}

-- ---- the number

pub number_means : (s : Scheme) (Ms b : List ℕ) → NumberMeans s Ms b
number_means s Ms b = record {
  one_of = λ n e. number_one_of s Ms b e;
  one = (
    λ e. ⊎_elim (λ h. h) (λ h. absurd (number_not_one s Ms b h e)) (lt_or_le 65536 (length b)),
    λ h. number_over s Ms b h,
  );
  three = (
    λ e. let h = number_within s Ms b (λ z. omega arith) in (h, number_three s Ms b h e),
    λ p. ⊎_elim (λ f. faulty_number s Ms b p.0 f) (λ u. unended_number s Ms b p.0 u) p.1,
  );
  of_record = λ n c. (
    λ e. let h = number_within s Ms b (λ z. record_not_one c (sym e ∙ z)) in (h, number_of_record s Ms b h c e),
    λ p. faulty_number s Ms b p.0 p.1,
  );
  of_whole = λ n c. (
    λ e. let h = number_within s Ms b (λ z. query_not_one c (sym e ∙ z)) in (h, number_of_query s Ms b h c e),
    λ p. ended_number s Ms b p.0 p.1,
  );
}

pub refusal_numbered : (s : Scheme) (Ms b : List ℕ) → RefusalNumbered s Ms b
unfolding query_of
refusal_numbered s Ms b = record { numbered = has (number_one_of s Ms b refl) }
  where
    has : {n : ℕ} → (n ≤ 5) ⊎ ((n ≡ 7) ⊎ ((n ≡ 10) ⊎ ((n ≡ 11) ⊎ (n ≡ 12)))) → HasRefusal n
    has {n} (inl h) = small_has n (omega arith)
    has {n} (inr (inl e)) = small_has n (omega arith)
    has (inr (inr (inl e))) = subst HasRefusal (sym e) other_has.1
    has (inr (inr (inr (inl e)))) = subst HasRefusal (sym e) other_has.2
    has (inr (inr (inr (inr e)))) = subst HasRefusal (sym e) other_has.3
