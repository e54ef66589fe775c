-- What the loop over the records keeps, and how a turn carries it on: the records passed are accepted, their rows are
-- counted and stored.
-- In order: the start, what the code needs of it, a turn, the ways out.
-- Assumes nothing.
use mathlib.Core.Path.{◌≡◌, refl, sym, ap, ap₂, ◌∙◌, subst}
use mathlib.Core.Bool.{true, false}
use mathlib.Core.List.{List, [], ◌∷◌, ◌++◌}
use Prim.Native.Nat.{ℕ, ◌+◌, ◌≤◌, ◌<◌}
use native.Mathlib.Omega.{arith}
use lib.ListN.{length, set, length-append}
use Rattle.std.specs.Prelude.{Option, Some}
use Rattle.refusals.specs.declared.Refusal.{Refusal}
use Rattle.refusals.specs.Refusals.{number_of, number_of_any}
use Rattle.records.proofs.Walking.{accepted_inside, stops_nothing, stops_unknown, stops_short, stops_faulty}
use Rattle.records.specs.Reader.{read_at}
use Rattle.records.specs.Walking.{Stop, unread_number, walk, none, one}
use Rattle.records.proofs.Refused.{refused_by, number_not_zero}
use Rattle.records.specs.declared.Record.{Record}
use Rattle.records.specs.declared.Reading.{Reading}
use Rattle.records.specs.declared.Reading.TheVariants.{Nothing, Unknown, Short, Found}
use Rattle.scheme.specs.declared.Scheme.{Scheme}
use Rattle.book.specs.Faults.{SixAtMost, fault_of}
use Rattle.book.specs.Declaring.{nothing_declared, declare}
use Rattle.book.specs.Reading.{is_row, with_row, stop_number, Held, nothing_held, book_rules, outcome_of, records}
use Rattle.book.specs.Reading.{walked_of, stored}
use Rattle.book.specs.Accepting.{Accepted}
use Rattle.book.specs.declared.Walked.{Walked}
use Rattle.book.proofs.WellFormed.{accepted_well_formed, well_formed_six}
use Rattle.book.proofs.Lists.{stored_none, length_stored, stored_one, stored_full}
use Rattle.book.proofs.Accepting.{accepted_rows, with_row_yes, with_row_no}

pub record Walking (b dir₀ dir : List ℕ) (s : Scheme) (rows at : ℕ) : Type 0 where
  pub passed : List Record
  pub places : List ℕ
  pub accepted : Accepted b passed s places at
  pub counted : rows ≡ length places
  pub kept : dir ≡ stored places dir₀

pub walking_start : (b dir : List ℕ) {s : Scheme} → s ≡ nothing_declared → Walking b dir dir s 0 0
walking_start b dir e = record {
  passed = [];
  places = [];
  accepted = subst (λ (s : Scheme). Accepted b [] s [] 0) (sym e) none;
  counted = refl;
  kept = sym (stored_none dir);
}

-- what the code has at a way out, with a refusal or none
pub record WalkedOut (b dir₀ dir : List ℕ) (s : Scheme) (rows : ℕ) (n : Option Refusal) : Type 0 where
  pub value : ◌≡◌ {A = Walked} (record { refusal = n; rows = rows; scheme = s }) (walked_of (records b))
  pub numbered : number_of_any n ≡ (records b).number
  pub directory_after : dir ≡ stored (records b).rows dir₀

module _ {b dir₀ dir : List ℕ} {s : Scheme} {rows at : ℕ} (v : Walking b dir₀ dir s rows at) where
  -- ---- what the code needs of it

  pub walking_same : length dir ≡ length dir₀
  walking_same = ap length v.kept ∙ length_stored v.places dir₀

  pub walking_inside : at ≤ length b
  walking_inside = accepted_inside v.accepted

  pub walking_rows : rows ≤ at
  walking_rows = omega (arith, accepted_rows v.accepted, v.counted)

  pub walking_six : SixAtMost s
  walking_six = well_formed_six (accepted_well_formed v.accepted)

  -- ---- a turn

  module _ {r : Record} {next : ℕ} (e : read_at b at ≡ Found r next) (f : fault_of s r ≡ 0) where
    walking_next : (d : List ℕ) (n : ℕ) → n ≡ length (with_row v.places r at)
        → d ≡ stored (with_row v.places r at) dir₀ → Walking b dir₀ d (declare s r) n next
    walking_next d n c k = record {
      passed = v.passed ++ r ∷ [];
      places = with_row v.places r at;
      accepted = one v.accepted e f refl;
      counted = c;
      kept = k;
    }

    one_more : is_row r ≡ true → rows + 1 ≡ length (with_row v.places r at)
    one_more y =
        omega (arith, v.counted, length-append v.places (at ∷ []), ap length (with_row_yes v.places r at y))

    pub walking_stored : is_row r ≡ true → rows < length dir → Walking b dir₀ (set dir rows at) (declare s r) (rows +
        1) next
    walking_stored y l =
        walking_next (set dir rows at) (rows + 1) (one_more y)
        (ap₂ (λ (d : List ℕ) (k : ℕ). set d k at) v.kept v.counted
        ∙ stored_one v.places dir₀ at (omega (arith, v.counted, walking_same))
        ∙ ap (λ (p : List ℕ). stored p dir₀) (sym (with_row_yes v.places r at y)))

    pub walking_full : is_row r ≡ true → length dir ≤ rows → Walking b dir₀ dir (declare s r) (rows + 1) next
    walking_full y l =
        walking_next dir (rows + 1) (one_more y)
        (v.kept ∙ stored_full v.places dir₀ at (omega (arith, v.counted, walking_same))
        ∙ ap (λ (p : List ℕ). stored p dir₀) (sym (with_row_yes v.places r at y)))

    pub walking_other : is_row r ≡ false → Walking b dir₀ dir (declare s r) rows next
    walking_other n =
        walking_next dir rows (v.counted ∙ ap length (sym (with_row_no v.places r at n)))
        (v.kept ∙ ap (λ (p : List ℕ). stored p dir₀) (sym (with_row_no v.places r at n)))

  -- ---- the ways out: a refusal or none, with the scheme and the rows of the records passed

  walking_out : (n : Option Refusal) {m : ℕ}
      → walk book_rules b nothing_held ≡ record { number = m; state = record { scheme = s; rows = v.places }; at = at }
      → number_of_any n ≡ m → WalkedOut b dir₀ dir s rows n
  unfolding walked_of records
  walking_out n e q = record {
    value =
        ap₂ {C = Walked} (λ (i : Option Refusal) (k : ℕ). record { refusal = i; rows = k; scheme = s }) (refused_by n q)
        v.counted
        ∙ ap (λ (w : Stop Held). walked_of (outcome_of w)) (sym e);
    numbered = q ∙ ap (λ (w : Stop Held). w.number) (sym e);
    directory_after = v.kept ∙ ap (λ (w : Stop Held). stored w.state.rows dir₀) (sym e);
  }

  -- no whole record stands there
  pub walking_unread : (n : Option Refusal) (x : Reading) → read_at b at ≡ x
      → ((r : Record) (next : ℕ) → x ≡ Found r next → ⊥)
      → number_of_any n ≡ stop_number x → WalkedOut b dir₀ dir s rows n
  unfolding unread_number
  walking_unread n Nothing e k q = walking_out n (stops_nothing v.accepted e) q
  walking_unread n Unknown e k q = walking_out n (stops_unknown v.accepted e) q
  walking_unread n (Short kind) e k q = walking_out n (stops_short v.accepted e) q
  walking_unread n (Found r next) e k q = absurd (k r next refl)

  pub walking_faulty : {r : Record} {next : ℕ} (n : Refusal) → read_at b at ≡ Found r next
      → number_of n ≡ fault_of s r → WalkedOut b dir₀ dir s rows (Some n)
  walking_faulty n e q = walking_out (Some n) (stops_faulty v.accepted e (λ z. number_not_zero n (q ∙ z))) q

-- the same of a directory, a scheme and a count that are equal to these
pub walking_as : {b dir₀ dir d : List ℕ} {s t : Scheme} {rows at n : ℕ} → Walking b dir₀ dir s rows at → d ≡ dir → t ≡ s
    → n ≡ rows → Walking b dir₀ d t n at
walking_as {b} {at = at} v e q c = record {
  passed = v.passed;
  places = v.places;
  accepted = subst (λ (x : Scheme). Accepted b v.passed x v.places at) (sym q) v.accepted;
  counted = c ∙ v.counted;
  kept = e ∙ v.kept;
}
