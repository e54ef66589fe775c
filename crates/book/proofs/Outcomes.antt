-- The outcome of reading is where reading stops behind the accepted records, and nothing else is: where a walk by the
-- rules of a book stops is known (`records`).
-- In order: the rules of a book, the numbers of the walk, after the last record, the book, its number.
-- Assumes nothing.
use mathlib.Core.Path.{◌≡◌, refl, sym, ap, ap₂, ◌∙◌, subst}
use mathlib.Core.Bool.{Bool, true, false}
use mathlib.Core.Logic.{◌⊎◌, inl, inr, ⊎_elim}
use mathlib.Core.List.{List, []}
use Prim.Native.Nat.{ℕ, ◌≤◌, ◌<◌}
use native.Mathlib.Omega.{arith}
use borrow.Author.Tests.{eqb-true, not-false, eq-eqb, ne_eqb, lt-ltb, le-ltb}
use lib.Dec.{eqb}
use lib.ListN.{length}
use Rattle.sets.proofs.Tests.{yes_no}
use Rattle.sets.proofs.Numbers.{lt_or_le}
use Rattle.records.specs.Checks.{first_of}
use Rattle.records.specs.Records.{whose, is_kind, of_book, kind_of}
use Rattle.records.specs.Walking as Walking
use Rattle.records.specs.Walking.{Sound, Stop, not_allowed, cut_short, wrong, StopsAt}
use Rattle.records.specs.declared.Record.{Record}
use Rattle.records.specs.declared.Record.TheVariants.{OfBook, OfQuery}
use Rattle.records.proofs.Records.{of_book_kind}
use Rattle.records.proofs.Walking.{walk_stops, stops_walk}
use Rattle.scheme.specs.declared.Scheme.{Scheme}
use Rattle.scheme.specs.OfScheme.{both_of, cyclic_of}
use Rattle.book.specs.Faults.{checks, fault_of}
use Rattle.book.specs.Declaring.{nothing_declared}
use Rattle.book.specs.Reading.{Outcome, Held, nothing_held, book_rules, outcome_of, records, last_number, last_fault}
use Rattle.book.specs.Reading.{after_last, read}
use Rattle.book.specs.Accepting.{Faulty, AtLast, both, cyclic, good, Stops, faulty, at_end}
use Rattle.book.specs.Statements.{StopsWith, FaultyRecord, AcceptedWhole, RecordNumber}
use Rattle.book.proofs.Conditions.{fault_between}

-- ---- the rules of a book

no_kind_no_book : (k : ℕ) → is_kind k ≡ false → of_book k ≡ false
unfolding is_kind of_book
no_kind_no_book k e = ap (λ (w : ℕ). eqb w 1) (eqb-true (whose k) 0 (not-false (eqb (whose k) 0) e))

-- a record of another kind has the fault 2
fault_not_of_book : (s : Scheme) (r : Record) → of_book (kind_of r) ≡ false → fault_of s r ≡ 2
unfolding fault_of checks first_of
fault_not_of_book s (OfBook r) e = absurd (yes_no (of_book_kind r) e)
fault_not_of_book s (OfQuery r) e = refl

book_sound : Sound book_rules
book_sound = record { known = no_kind_no_book; others = λ h r. fault_not_of_book h.scheme r }

-- ---- the numbers of the walk

faulty_between : (s : Scheme) {b : List ℕ} {at n : ℕ} → Faulty b s at n → RecordNumber n
faulty_between s (not_allowed h e) = inl (omega arith)
faulty_between s (cut_short y c) = inl (omega arith)
faulty_between s (wrong {r = r} w y e d) =
    subst RecordNumber e (fault_between s r (λ z. d (sym e ∙ z)))

-- which is neither 0 or 1 nor a number after the last record
pub record_number_not : {n : ℕ} → RecordNumber n → (n ≤ 1) ⊎ ((n ≡ 9) ⊎ (n ≡ 21)) → ⊥
record_number_not (inl p) (inl h) = omega arith
record_number_not (inl p) (inr (inl e)) = omega arith
record_number_not (inl p) (inr (inr e)) = omega arith
record_number_not (inr p) (inl h) = omega arith
record_number_not (inr p) (inr (inl e)) = omega arith
record_number_not (inr p) (inr (inr e)) = omega arith

walk_number : {b : List ℕ} {w : Stop Held} → StopsAt book_rules b nothing_held w
    → (w.number ≡ 0) ⊎ RecordNumber w.number
walk_number (Walking.faulty {s = h} a f) = inr (faulty_between h.scheme f)
walk_number (Walking.at_end a l) = inl refl
walk_number (Walking.at_last a e f l) = inl refl

pub records_number : (b : List ℕ) → ((records b).number ≡ 0) ⊎ RecordNumber (records b).number
unfolding records
records_number b = walk_number (walk_stops book_rules book_sound b nothing_held)

-- ---- after the last record

at_last_law : (s : Scheme) → AtLast s (last_fault s)
unfolding last_fault last_number
at_last_law s = choose (both_of s) refl (cyclic_of s) refl
  where
    choose : (u : Bool) → both_of s ≡ u → (c : Bool) → cyclic_of s ≡ c → AtLast s (last_number u c)
    choose true p c q = both p
    choose false p true q = cyclic p q
    choose false p false q = good p q

at_last_is : {s : Scheme} {n : ℕ} → AtLast s n → last_fault s ≡ n
unfolding last_fault last_number
at_last_is {s} (both p) = ap (λ (u : Bool). last_number u (cyclic_of s)) p
at_last_is (cyclic p q) = ap₂ last_number p q
at_last_is (good p q) = ap₂ last_number p q

pub after_end : (o : Outcome) → o.number ≡ 0
    → after_last o ≡ record { number = last_fault o.scheme; scheme = o.scheme; rows = o.rows }
unfolding after_last
after_end o e =
    ap {B = Outcome}
    (λ (t : Bool). elim t [
      | true ↦ record { number = last_fault o.scheme; scheme = o.scheme; rows = o.rows }
      | false ↦ o
    ])
    (eq-eqb o.number 0 e)

pub after_fault : (o : Outcome) → (o.number ≡ 0 → ⊥) → after_last o ≡ o
unfolding after_last
after_fault o d =
    ap {B = Outcome}
    (λ (t : Bool). elim t [
      | true ↦ record { number = last_fault o.scheme; scheme = o.scheme; rows = o.rows }
      | false ↦ o
    ])
    (ne_eqb o.number 0 d)

-- ---- the book

pub read_over : (b : List ℕ) → 65536 < length b → read b ≡ record { number = 1; scheme = nothing_declared; rows = [] }
unfolding read
read_over b h =
    ap {B = Outcome}
    (λ (t : Bool). elim t [
      | true ↦ record { number = 1; scheme = nothing_declared; rows = [] }
      | false ↦ after_last
          (records b)
    ])
    (lt-ltb 65536 (length b) h)

pub read_within : (b : List ℕ) → length b ≤ 65536 → read b ≡ after_last (records b)
unfolding read
read_within b h =
    ap {B = Outcome}
    (λ (t : Bool). elim t [
      | true ↦ record { number = 1; scheme = nothing_declared; rows = [] }
      | false ↦ after_last
          (records b)
    ])
    (le-ltb 65536 (length b) h)

-- where the walk stops, reading stops with the number of the faulty record, or after the last record
walk_stops_with : {b : List ℕ} {w : Stop Held} → StopsAt book_rules b nothing_held w
    → StopsWith b (after_last (outcome_of w))
walk_stops_with {b} (Walking.faulty {rs = rs} {s = h} {at = at} {n = n} a f) =
    subst (StopsWith b)
    (sym (after_fault (record { number = n; scheme = h.scheme; rows = h.rows })
    (λ z. record_number_not (faulty_between h.scheme f) (inl (omega arith)))))
    (record { passed = rs; at = at; accepted = a; stops = faulty f })
walk_stops_with {b} (Walking.at_end {rs = rs} {s = h} {at = at} a l) =
    subst (StopsWith b) (sym (after_end (record { number = 0; scheme = h.scheme; rows = h.rows }) refl))
    (record { passed = rs; at = at; accepted = a; stops = at_end l (at_last_law h.scheme) })
walk_stops_with (Walking.at_last a e f l) = absurd (yes_no l refl)

pub read_stops : (b : List ℕ) → length b ≤ 65536 → StopsWith b (read b)
unfolding records
read_stops b h =
    subst (StopsWith b) (sym (read_within b h)) (walk_stops_with (walk_stops book_rules book_sound b nothing_held))

-- and where reading stops is the outcome
pub stops_read : (b : List ℕ) (o : Outcome) → length b ≤ 65536 → StopsWith b o → read b ≡ o
unfolding records
stops_read b o h w = read_within b h ∙ by w.stops
  where
    walked : {x : Stop Held} → StopsAt book_rules b nothing_held x → after_last (records b) ≡ after_last (outcome_of x)
    walked p = ap (λ (x : Stop Held). after_last (outcome_of x)) (stops_walk book_rules book_sound b nothing_held p)

    by : Stops b o.scheme w.at o.number → after_last (records b) ≡ o
    by (faulty f) =
        walked (Walking.faulty w.accepted f)
        ∙ after_fault o (λ z. record_number_not (faulty_between o.scheme f) (inl (omega arith)))
    by (at_end l t) =
        walked (Walking.at_end w.accepted l)
        ∙ after_end (record { number = 0; scheme = o.scheme; rows = o.rows }) refl
        ∙ ap {B = Outcome} (λ (n : ℕ). record { number = n; scheme = o.scheme; rows = o.rows }) (at_last_is t)

-- ---- its number

at_last_number : {s : Scheme} {n : ℕ} → AtLast s n → (n ≡ 0) ⊎ (n ≡ 9) ⊎ (n ≡ 21)
at_last_number (both p) = inr (inr refl)
at_last_number (cyclic p q) = inr (inl refl)
at_last_number (good p q) = inl refl

pub number_one_of : (b : List ℕ)
    → ((read b).number ≤ 7) ⊎ (((read b).number ≡ 9) ⊎ (((read b).number ≡ 20) ⊎ ((read b).number ≡ 21)))
number_one_of b =
    ⊎_elim (λ h. inl (omega (arith, ap (λ (o : Outcome). o.number) (read_over b h))))
    (λ h. within (read_stops b h).stops) (lt_or_le 65536 (length b))
  where
    within : {at : ℕ} → Stops b (read b).scheme at (read b).number
        → ((read b).number ≤ 7) ⊎ (((read b).number ≡ 9) ⊎ (((read b).number ≡ 20) ⊎ ((read b).number ≡ 21)))
    within (faulty f) = ⊎_elim (λ p. inl p.1) (λ e. inr (inr (inl e))) (faulty_between (read b).scheme f)
    within (at_end l t) =
        ⊎_elim (λ z. inl (omega arith)) (λ p. inr (⊎_elim inl (λ e. inr (inr e)) p)) (at_last_number t)

pub number_over : (b : List ℕ) → 65536 < length b → (read b).number ≡ 1
number_over b h = ap (λ (o : Outcome). o.number) (read_over b h)

pub number_not_one : (b : List ℕ) → length b ≤ 65536 → (read b).number ≡ 1 → ⊥
number_not_one b h e = within (read_stops b h).stops
  where
    within : {at : ℕ} → Stops b (read b).scheme at (read b).number → ⊥
    within (faulty f) = record_number_not (faulty_between (read b).scheme f) (inl (omega arith))
    within (at_end l t) =
        ⊎_elim (λ z. absurd (omega arith)) (λ p. ⊎_elim (λ z. absurd (omega arith)) (λ z. absurd (omega arith)) p)
        (at_last_number t)

-- a number other than 1 comes from a book that is not too long
pub number_within : (b : List ℕ) → ((read b).number ≡ 1 → ⊥) → length b ≤ 65536
number_within b d = ⊎_elim (λ h. absurd (d (number_over b h))) (λ h. h) (lt_or_le 65536 (length b))

pub number_faulty : (b : List ℕ) (n : ℕ) → RecordNumber n → length b ≤ 65536 → (read b).number ≡ n → FaultyRecord b n
number_faulty b n r h e = within (read_stops b h)
  where
    within : StopsWith b (read b) → FaultyRecord b n
    within w = by w.stops
      where
        by : Stops b (read b).scheme w.at (read b).number → FaultyRecord b n
        by (faulty f) = record {
          passed = w.passed;
          scheme = (read b).scheme;
          rows = (read b).rows;
          at = w.at;
          accepted = w.accepted;
          faulty = subst (Faulty b (read b).scheme w.at) e f;
        }
        by (at_end x t) =
            absurd (record_number_not r
            (⊎_elim (λ z. inl (omega arith)) (λ p. inr (⊎_elim (λ z. inl (sym e ∙ z)) (λ z. inr (sym e ∙ z)) p))
            (at_last_number t)))

pub faulty_number : (b : List ℕ) (n : ℕ) → length b ≤ 65536 → FaultyRecord b n → (read b).number ≡ n
faulty_number b n h f =
    ap (λ (o : Outcome). o.number)
    (stops_read b (record { number = n; scheme = f.scheme; rows = f.rows }) h
    (record { passed = f.passed; at = f.at; accepted = f.accepted; stops = faulty f.faulty }))

-- the scheme of a good book has no fault
pub good_last : (b : List ℕ) → (read b).number ≡ 0 → AtLast (read b).scheme 0
good_last b e = by (read_stops b (number_within b (λ z. omega arith))).stops
  where
    by : {at : ℕ} → Stops b (read b).scheme at (read b).number → AtLast (read b).scheme 0
    by (faulty f) = absurd (record_number_not (faulty_between (read b).scheme f) (inl (omega arith)))
    by (at_end x t) = subst (AtLast (read b).scheme) e t

pub number_whole : (b : List ℕ) (n : ℕ) → (n ≤ 1) ⊎ ((n ≡ 9) ⊎ (n ≡ 21)) → length b ≤ 65536 → (read b).number ≡ n
    → AcceptedWhole b n
number_whole b n c h e = within (read_stops b h)
  where
    within : StopsWith b (read b) → AcceptedWhole b n
    within w = by w.stops
      where
        by : Stops b (read b).scheme w.at (read b).number → AcceptedWhole b n
        by (faulty f) =
            absurd (record_number_not (subst RecordNumber e (faulty_between (read b).scheme f)) c)
        by (at_end x t) = record {
          passed = w.passed;
          scheme = (read b).scheme;
          rows = (read b).rows;
          at = w.at;
          accepted = w.accepted;
          ended = x;
          at_last = subst (AtLast (read b).scheme) e t;
        }

pub whole_number : (b : List ℕ) (n : ℕ) → length b ≤ 65536 → AcceptedWhole b n → (read b).number ≡ n
whole_number b n h f =
    ap (λ (o : Outcome). o.number)
    (stops_read b (record { number = n; scheme = f.scheme; rows = f.rows }) h
    (record { passed = f.passed; at = f.at; accepted = f.accepted; stops = at_end f.ended f.at_last }))
