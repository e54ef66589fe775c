-- The names of a query that was read are in range, whatever its number.
-- Assumes nothing.
use mathlib.Core.Path.{refl, sym, subst}
use mathlib.Core.Logic.{⊎_elim}
use mathlib.Core.List.Memᴰ
use mathlib.Core.List.{List, []}
use Prim.Native.Nat.{ℕ}
use lib.ListN.{length}
use Rattle.sets.proofs.Numbers.{lt_or_le}
use Rattle.records.specs.declared.Record.{Record}
use Rattle.scheme.specs.declared.Scheme.{Scheme}
use Rattle.query.specs.Reading.{QueryOutcome, read}
use Rattle.query.specs.Asking.{names_of, asks}
use Rattle.query.specs.Accepting.{Accepted, StopsWith, faulty, unended, refused, answered}
use Rattle.query.proofs.Theorems.{records_ask, read_exactly, accepted_fits}
use Rattle.connection.specs.Statements.{NamesInRange}

asked_in_range : {s : Scheme} {b : List ℕ} {rs : List Record} {at : ℕ} → Accepted s b rs at → NamesInRange (asks rs)
asked_in_range {s} {b} {rs} {at} k = record {
  each = λ v a n. (accepted_fits s b).named rs at v a k n;
  whole = (records_ask rs).whole;
}

stops_in_range : {s : Scheme} {Ms b : List ℕ} {o : QueryOutcome} → StopsWith s Ms b o → NamesInRange o.asking
stops_in_range (faulty k f) = asked_in_range k
stops_in_range (unended k h) = asked_in_range k
stops_in_range (refused k e w n) = asked_in_range k
stops_in_range (answered k e w) = asked_in_range k

none_in_range : NamesInRange (asks [])
unfolding names_of
none_in_range = record { each = λ v a n. absurd (Memᴰ.not-nil n); whole = (records_ask []).whole }

pub read_in_range : (s : Scheme) (Ms b : List ℕ) → NamesInRange (read s Ms b).asking
read_in_range s Ms b =
    ⊎_elim (λ h. subst (λ (o : QueryOutcome). NamesInRange o.asking) (sym ((read_exactly s Ms b).over h)) none_in_range)
    (λ h. stops_in_range (((read_exactly s Ms b).exactly h (read s Ms b)).0 refl)) (lt_or_le 65536 (length b))
