-- What the loops of `query` keep, and how a turn carries it on.
-- In order: the fault where no whole record stands, the walk over the records, the search for a maximal object, the
-- search for a variable, the ways out of reading.
-- Assumes nothing.
use mathlib.Core.Path.{◌≡◌, refl, sym, ap, ap₂, ◌∙◌}
use mathlib.Core.Bool.{Bool, true, false, not, ◌&&◌, ◌||◌}
use mathlib.Core.List.{List, [], ◌∷◌, ◌++◌}
use Prim.Native.Nat.{ℕ, ◌+◌, ◌≤◌, ◌<◌}
use native.Mathlib.Omega.{arith}
use borrow.Author.Tests.{eq-eqb, ne_eqb, not-true, not-false}
use lib.ListN.{length, get_or}
use Rattle.std.specs.Prelude.{Option, None, Some}
use Rattle.numbers.specs.Numbers.{is_nil}
use Rattle.refusals.specs.declared.Refusal.{Refusal}
use Rattle.refusals.specs.declared.Refusal.TheVariants.{TooManyBytes}
use Rattle.refusals.specs.Refusals.{number_of, number_of_any, refusals, refusal_of_number}
use Rattle.sets.specs.Sets.{within, is_empty}
use Rattle.sets.proofs.Tests.{and_yes}
use Rattle.records.specs.Reader.{read_at}
use Rattle.records.specs.Walking as Walks
use Rattle.records.specs.Walking.{Stop, unread_number}
use Rattle.records.specs.declared.Owner.TheVariants as Owners
use Rattle.records.proofs.Refused.{refused_by, its_refusal, number_not_zero}
use Rattle.records.proofs.Walking.{accepted_inside, stops_nothing, stops_unknown, stops_short, stops_last, stops_faulty}
use Rattle.records.specs.declared.Record.{Record}
use Rattle.records.specs.declared.Reading.{Reading}
use Rattle.records.specs.declared.Reading.TheVariants.{Nothing, Unknown, Short, Found}
use Rattle.scheme.specs.declared.Scheme.{Scheme}
use Rattle.scheme.specs.Growing.{attributes_of}
use Rattle.scheme.proofs.Lists.{Asks, NoneSoFar, none_start, none_found, none_next, none_end}
use Rattle.query.specs.declared.Asked.{Asked}
use Rattle.query.specs.declared.Walked.{Walked}
use Rattle.query.specs.declared.Query.{Query}
use Rattle.query.specs.Asking.{asks, asked_of, nothing_asked, with_record}
use Rattle.query.specs.Faults.{fault_of}
use Rattle.query.specs.Reading.{is_end, query_rules, walk_query, stop_number, walked_of, containing}
use Rattle.query.specs.Reading.{unconnected}
use Rattle.query.specs.Reading.{some_unconnected, whole_number, read, query_of}
use Rattle.query.proofs.Asking.{asked_nothing, asked_record, asks_end, last_is_end}
use Rattle.query.proofs.Outcomes.{after_fault, after_end, end_fault, end_good, read_over, read_within}

-- ---- the fault where no whole record stands

pub unread_elsewhere : (x : Reading) → (x ≡ Nothing → ⊥) → unread_number Owners.Query x ≡ stop_number x
unfolding unread_number stop_number
unread_elsewhere Nothing d = absurd (d refl)
unread_elsewhere Unknown d = refl
unread_elsewhere (Short k) d = refl
unread_elsewhere (Found r next) d = refl

-- ---- the walk over the records

-- the end of a query asks nothing
asked_last : (rs : List Record) (r : Record) → is_end r ≡ true → asked_of (asks rs) ≡ asked_of (asks (rs ++ r ∷ []))
asked_last rs r l = ap asked_of (sym (asks_end rs)) ∙ ap (λ (x : Record). asked_of (asks (rs ++ x ∷ []))) (sym (last_is_end r l))

-- the records passed are accepted, and the code has what they ask
pub record Walking (s : Scheme) (b : List ℕ) (q : Asked) (at : ℕ) : Type 0 where
  pub passed : List Record
  pub accepted : Walks.Accepted (query_rules s) b [] passed passed at
  pub same : q ≡ asked_of (asks passed)

pub walking_start : (s : Scheme) (b : List ℕ) {q : Asked} → q ≡ nothing_asked → Walking s b q 0
walking_start s b e = record { passed = []; accepted = Walks.none; same = e ∙ asked_nothing }

-- what the code has at a way out, with a refusal or none
pub record WalkedOut (s : Scheme) (b : List ℕ) (q : Asked) (n : Option Refusal) (at : ℕ) : Type 0 where
  pub value : ◌≡◌ {A = Walked} (record { refusal = n; asked = q; at = at }) (walked_of (walk_query s b))
  pub numbered : number_of_any n ≡ (walk_query s b).number

module _ {s : Scheme} {b : List ℕ} {q : Asked} {at : ℕ} (v : Walking s b q at) where
  pub walking_inside : at ≤ length b
  walking_inside = accepted_inside v.accepted

  -- the fault behind what the code has is the fault behind the records passed
  fault_here : (r : Record) → fault_of s q r ≡ fault_of s (asked_of (asks v.passed)) r
  fault_here r = ap (λ (x : Asked). fault_of s x r) v.same

  pub walking_next : {r : Record} {next : ℕ} (d : Asked) → read_at b at ≡ Found r next
      → fault_of s q r ≡ 0 → is_end r ≡ false → d ≡ with_record q r → Walking s b d next
  walking_next {r} d e f l w =
      let f' = sym (fault_here r) ∙ f in
      record {
        passed = v.passed ++ r ∷ [];
        accepted = Walks.one v.accepted e f' l;
        same = w ∙ ap (λ (x : Asked). with_record x r) v.same ∙ asked_record s v.passed r f';
      }

  walking_out : (n : Option Refusal) {m : ℕ} (p : ℕ) (rs : List Record) → asked_of (asks v.passed) ≡ asked_of (asks rs)
      → number_of_any n ≡ m → walk_query s b ≡ record { number = m; state = rs; at = p } → WalkedOut s b q n p
  unfolding walked_of
  walking_out n p rs same k e = record {
    value =
        ap₂ {C = Walked} (λ (i : Option Refusal) (x : Asked). record { refusal = i; asked = x; at = p }) (refused_by n k)
        (v.same ∙ same)
        ∙ ap walked_of (sym e);
    numbered = k ∙ ap (λ (w : Stop (List Record)). w.number) (sym e);
  }

  -- no whole record stands there
  pub walking_unread : (n : Option Refusal) (x : Reading) → read_at b at ≡ x
      → ((r : Record) (next : ℕ) → x ≡ Found r next → ⊥) → number_of_any n ≡ stop_number x → WalkedOut s b q n at
  unfolding stop_number walk_query
  walking_unread n Nothing e k p = walking_out n at v.passed refl p (stops_nothing v.accepted e)
  walking_unread n Unknown e k p = walking_out n at v.passed refl p (stops_unknown v.accepted e)
  walking_unread n (Short kind) e k p = walking_out n at v.passed refl p (stops_short v.accepted e)
  walking_unread n (Found r next) e k p = absurd (k r next refl)

  pub walking_faulty : {r : Record} {next : ℕ} (n : Refusal) → read_at b at ≡ Found r next
      → number_of n ≡ fault_of s q r → WalkedOut s b q (Some n) at
  unfolding walk_query
  walking_faulty {r} n e p =
      let p' = p ∙ fault_here r in
      walking_out (Some n) at v.passed refl p' (stops_faulty v.accepted e (λ z. number_not_zero n (p' ∙ z)))

  pub walking_last : {r : Record} {next : ℕ} → read_at b at ≡ Found r next
      → fault_of s q r ≡ 0 → is_end r ≡ true → WalkedOut s b q None next
  unfolding walk_query
  walking_last {r} {next} e f l =
      let f' = sym (fault_here r) ∙ f in
      walking_out None next (v.passed ++ r ∷ []) (asked_last v.passed r l) refl (stops_last v.accepted e f' l)

-- ---- the search for a maximal object: some one of the list contains X

abbrev pub some_contains : List ℕ → ℕ → List ℕ → Bool
some_contains sets X Ms = not (is_nil (containing sets Ms X))

pub contains_asks : (sets : List ℕ) (X : ℕ) → Asks (λ M. within X (attributes_of sets M)) (some_contains sets X)
unfolding containing is_nil
contains_asks sets X = record { none = refl; more = λ M Ms. by (within X (attributes_of sets M)) Ms M }
  where
    by : (t : Bool) (Ms : List ℕ) (M : ℕ)
        → not (is_nil {A = ℕ} (elim t [ true ↦ M ∷ containing sets Ms X | false ↦ containing sets Ms X ]))
        ≡ (t || not (is_nil (containing sets Ms X)))
    by true Ms M = refl
    by false Ms M = refl

-- the code's test, with the attributes of M by themselves
pub contains_found : (sets Ms : List ℕ) (X : ℕ) {i A : ℕ} {r : Bool} → NoneSoFar (contains_asks sets X) Ms i → i < length Ms
    → A ≡ attributes_of sets (get_or Ms i 0) → r ≡ within X A → r ≡ true → false ≡ is_nil (containing sets Ms X)
contains_found sets Ms X v h a e y =
    sym (not-true (is_nil (containing sets Ms X))
    (sym (none_found (contains_asks sets X) v h (ap (within X) (sym a) ∙ sym e ∙ y))))

pub contains_next : (sets Ms : List ℕ) (X : ℕ) {i A : ℕ} {r : Bool} → NoneSoFar (contains_asks sets X) Ms i → i < length Ms
    → A ≡ attributes_of sets (get_or Ms i 0) → r ≡ within X A → r ≡ false → NoneSoFar (contains_asks sets X) Ms (i + 1)
contains_next sets Ms X v h a e n = none_next (contains_asks sets X) v h (ap (within X) (sym a) ∙ sym e ∙ n)

pub contains_none : (sets Ms : List ℕ) (X : ℕ) {i : ℕ} → NoneSoFar (contains_asks sets X) Ms i → length Ms ≤ i
    → true ≡ is_nil (containing sets Ms X)
contains_none sets Ms X v h =
    sym (not-false (is_nil (containing sets Ms X)) (sym (none_end (contains_asks sets X) v h)))

-- ---- the search for a variable

pub unconnected_asks : (sets Ms : List ℕ) → Asks (unconnected sets Ms) (some_unconnected sets Ms)
unfolding some_unconnected
unconnected_asks sets Ms = record { none = refl; more = λ X Xs. refl }

-- no variable before v is unconnected
pub record NoneUnconnected (sets Ms Xs : List ℕ) (v : ℕ) : Type 0 where
  pub sized : length Xs ≡ 4
  pub so_far : NoneSoFar (unconnected_asks sets Ms) Xs v

pub variables_start : (sets Ms Xs : List ℕ) → length Xs ≡ 4 → NoneUnconnected sets Ms Xs 0
variables_start sets Ms Xs e = record { sized = e; so_far = none_start (unconnected_asks sets Ms) Xs }

module _ {sets Ms Xs : List ℕ} {v : ℕ} (n : NoneUnconnected sets Ms Xs v) (h : v < 4) {r : Bool}
    (e : r ≡ is_empty (get_or Xs v 0)) where
  inside : v < length Xs
  inside = omega (arith, n.sized)

  next_variable : unconnected sets Ms (get_or Xs v 0) ≡ false → NoneUnconnected sets Ms Xs (v + 1)
  next_variable x = record {
    sized = n.sized;
    so_far = none_next (unconnected_asks sets Ms) n.so_far inside x;
  }

  pub variable_not_named : not r ≡ false → NoneUnconnected sets Ms Xs (v + 1)
  unfolding unconnected
  variable_not_named x =
      next_variable (ap (λ (t : Bool). t && is_nil (containing sets Ms (get_or Xs v 0))) (ap not (sym e) ∙ x))

  module _ (named : not r ≡ true) {t : Bool} (f : t ≡ is_nil (containing sets Ms (get_or Xs v 0))) where
    pub variable_found : t ≡ true → true ≡ some_unconnected sets Ms Xs
    unfolding unconnected
    variable_found y =
        none_found (unconnected_asks sets Ms) n.so_far inside (and_yes (ap not (sym e) ∙ named) (sym f ∙ y))

    pub variable_connected : t ≡ false → NoneUnconnected sets Ms Xs (v + 1)
    unfolding unconnected
    variable_connected x = next_variable (ap₂ ◌&&◌ (ap not (sym e) ∙ named) (sym f ∙ x))

pub variables_end : {sets Ms Xs : List ℕ} {v : ℕ} → NoneUnconnected sets Ms Xs v → 4 ≤ v
    → false ≡ some_unconnected sets Ms Xs
variables_end {sets} {Ms} n h = none_end (unconnected_asks sets Ms) n.so_far (omega (arith, n.sized))

-- ---- the ways out of reading

module _ (s : Scheme) (Ms : List ℕ) (q : Asked) where
  pub whole_no_item : q.retrieved ≡ 0 → 10 ≡ whole_number s Ms q
  unfolding whole_number
  whole_no_item e =
      ap (λ (t : Bool). elim t [
        | true ↦ 10
        | false ↦ elim (some_unconnected s.sets Ms q.attributes) [ true ↦ 12 | false ↦ 0 ]
      ])
      (sym (eq-eqb q.retrieved 0 e))

  -- with an item, by the test of its variables
  whole_by : {r : Bool} → (q.retrieved ≡ 0 → ⊥) → r ≡ some_unconnected s.sets Ms q.attributes
      → elim r [ true ↦ 12 | false ↦ 0 ] ≡ whole_number s Ms q
  unfolding whole_number
  whole_by d e =
      ap (λ (t : Bool). elim t [ true ↦ 12 | false ↦ 0 ]) e
      ∙ ap (λ (t : Bool). elim t [
        | true ↦ 10
        | false ↦ elim (some_unconnected s.sets Ms q.attributes) [ true ↦ 12 | false ↦ 0 ]
      ])
      (sym (ne_eqb q.retrieved 0 d))

  pub whole_unconnected : {r : Bool} → (q.retrieved ≡ 0 → ⊥) → r ≡ some_unconnected s.sets Ms q.attributes
      → r ≡ true → 12 ≡ whole_number s Ms q
  whole_unconnected d e y = ap (λ (t : Bool). elim t [ true ↦ 12 | false ↦ 0 ]) (sym y) ∙ whole_by d e

  pub whole_good : {r : Bool} → (q.retrieved ≡ 0 → ⊥) → r ≡ some_unconnected s.sets Ms q.attributes
      → r ≡ false → 0 ≡ whole_number s Ms q
  whole_good d e n = ap (λ (t : Bool). elim t [ true ↦ 12 | false ↦ 0 ]) (sym n) ∙ whole_by d e

module _ (s : Scheme) (Ms b : List ℕ) where
  pub query_over : {q : Asked} → 65536 < length b → q ≡ nothing_asked
      → ◌≡◌ {A = Query} (record { refusal = Some TooManyBytes; asked = q; read = 0 }) (query_of (read s Ms b))
  unfolding query_of refusals refusal_of_number
  query_over h e =
      ap {B = Query} (λ (x : Asked). record { refusal = Some TooManyBytes; asked = x; read = 0 }) (e ∙ asked_nothing)
      ∙ ap query_of (sym (read_over s Ms b h))

  module _ {w : Walked} (h : length b ≤ 65536) (e : w ≡ walked_of (walk_query s b))
      (known : number_of_any w.refusal ≡ (walk_query s b).number) where
    -- the fields of what the code walked
    asked_is : w.asked ≡ asked_of (asks (walk_query s b).state)
    unfolding walked_of
    asked_is = ap (λ (x : Walked). x.asked) e

    at_is : w.at ≡ (walk_query s b).at
    unfolding walked_of
    at_is = ap (λ (x : Walked). x.at) e

    pub query_faulty : (n : Refusal) → w.refusal ≡ Some n
        → ◌≡◌ {A = Query} (record { refusal = Some n; asked = w.asked; read = 0 }) (query_of (read s Ms b))
    unfolding query_of
    query_faulty n is =
        let p : number_of n ≡ (walk_query s b).number = ap number_of_any (sym is) ∙ known in
        ap₂ {C = Query} (λ (i : Option Refusal) (x : Asked). record { refusal = i; asked = x; read = 0 }) (its_refusal n p)
        asked_is
        ∙ ap query_of (sym (read_within s Ms b h ∙ after_fault s Ms (walk_query s b) (λ z. number_not_zero n (p ∙ z))))

    module _ (none : w.refusal ≡ None) where
      zero_is : (walk_query s b).number ≡ 0
      zero_is = sym known ∙ ap number_of_any none

      whole_is : {n : ℕ} → n ≡ whole_number s Ms w.asked → n ≡ whole_number s Ms (asked_of (asks (walk_query s b).state))
      whole_is p = p ∙ ap (whole_number s Ms) asked_is

      pub query_refused_law : (n : Refusal) → number_of n ≡ whole_number s Ms w.asked
          → ◌≡◌ {A = Query} (record { refusal = Some n; asked = w.asked; read = 0 }) (query_of (read s Ms b))
      unfolding query_of
      query_refused_law n p =
          let ended = read_within s Ms b h ∙ after_end s Ms (walk_query s b) zero_is in
          let out = end_fault (whole_number s Ms (asked_of (asks (walk_query s b).state))) (asks (walk_query s b).state)
          (walk_query s b).at (λ y. number_not_zero n (whole_is p ∙ y)) in
          ap₂ {C = Query} (λ (i : Option Refusal) (x : Asked). record { refusal = i; asked = x; read = 0 })
          (its_refusal n (whole_is p)) asked_is
          ∙ ap query_of (sym (ended ∙ out))

      pub query_answered : 0 ≡ whole_number s Ms w.asked
          → ◌≡◌ {A = Query} (record { refusal = None; asked = w.asked; read = w.at }) (query_of (read s Ms b))
      unfolding query_of
      query_answered p =
          let ended = read_within s Ms b h ∙ after_end s Ms (walk_query s b) zero_is in
          let out = end_good (whole_number s Ms (asked_of (asks (walk_query s b).state))) (asks (walk_query s b).state)
          (walk_query s b).at (sym (whole_is p)) in
          ap₂ {C = Query} (λ (x : Asked) (k : ℕ). record { refusal = None; asked = x; read = k }) asked_is at_is
          ∙ ap {B = Query} (λ (i : Option Refusal). record {
            refusal = i;
            asked = asked_of (asks (walk_query s b).state);
            read = (walk_query s b).at;
          })
          (refused_by None refl)
          ∙ ap query_of (sym (ended ∙ out))
