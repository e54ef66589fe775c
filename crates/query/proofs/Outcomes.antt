-- The outcome of reading is where reading stops behind the accepted records, and nothing else is.
-- In order: accepted records of a walk, after a walk, the query, where its number comes from, which numbers there are.
-- Assumes nothing.
use mathlib.Core.Path.{◌≡◌, refl, sym, ap, ◌∙◌, subst}
use mathlib.Core.Bool.{true, false}
use mathlib.Core.Logic.{◌⊎◌, inl, inr, ⊎_elim}
use mathlib.Core.List.{List, [], ◌∷◌, ◌++◌}
use Prim.Native.Nat.{ℕ, ◌≤◌, ◌<◌}
use native.Mathlib.Omega.{arith}
use borrow.Author.Tests.{eq-eqb, ne_eqb, lt-ltb, le-ltb}
use lib.Dec.{eqb}
use lib.ListN.{length}
use Rattle.sets.proofs.Numbers.{eq_or_ne, lt_or_le}
use Rattle.records.specs.Checks.{first_of}
use Rattle.records.specs.Records.{kind_of}
use Rattle.records.specs.Reader.{read_at}
use Rattle.records.specs.Walking as Walking
use Rattle.records.specs.Walking.{Stop, StopsAt}
use Rattle.records.specs.declared.Record.{Record}
use Rattle.records.specs.declared.Record.TheVariants.{OfQuery}
use Rattle.records.specs.declared.QueryRecord.TheVariants.{End}
use Rattle.records.specs.declared.Reading.TheVariants.{Found}
use Rattle.records.proofs.Walking.{walk_stops, stops_walk}
use Rattle.scheme.specs.declared.Scheme.{Scheme}
use Rattle.query.specs.Asking.{Asking, asks, asked_of}
use Rattle.query.specs.Faults.{checks, fault_of}
use Rattle.query.specs.Reading.{is_end, query_rules, walk_query, whole_number, QueryOutcome, refused_with, at_end, read}
use Rattle.query.specs.Accepting.{OfWhole, Accepted, Faulty, StopsWith, faulty, unended, refused, answered}
use Rattle.query.specs.Statements.{FaultyRecord, Unended, Ended}
use Rattle.query.proofs.Conditions.{FaultNumber, two, three, four, five, seven, eleven, fault_number}
use Rattle.query.proofs.Conditions.{fault_splits, query_sound}
use Rattle.query.proofs.Asking.{asks_end, last_is_end}
use Rattle.query.proofs.Fits.{state_is}
use Rattle.query.proofs.Whole.{whole_at_end, at_end_whole, whole_numbers}

-- ---- accepted records of a walk

walk_accepted : (s : Scheme) {b : List ℕ} {rs st : List Record} {at : ℕ}
    → Walking.Accepted (query_rules s) b [] rs st at → Accepted s b st at
walk_accepted s {b} {rs} {st} {at} a = record {
  walked = subst (λ (l : List Record). Walking.Accepted (query_rules s) b [] l st at) (sym (state_is s a)) a;
}

-- the numbers of faulty records
pub faulty_number_is : (s : Scheme) (rs : List Record) {b : List ℕ} {at n : ℕ} → Faulty s b rs at n → FaultNumber n
faulty_number_is s rs (Walking.not_allowed h e) = two
faulty_number_is s rs (Walking.cut_short y c) = three
faulty_number_is s rs (Walking.wrong {r = r} w y e d) =
    subst FaultNumber e (fault_number s (asked_of (asks rs)) r (λ z. d (sym e ∙ z)))

no_zero : {n : ℕ} → FaultNumber n → n ≡ 0 → ⊥
no_zero f z = ⊎_elim (λ p. absurd (omega arith)) (λ p. absurd (omega arith)) (fault_splits f)

-- ---- after a walk

-- the outcome that a walk's stop gives
pub after : Scheme → List ℕ → Stop (List Record) → QueryOutcome
after s Ms w =
    elim (eqb w.number 0) [
      | true ↦ at_end (whole_number s Ms (asked_of (asks w.state))) (asks w.state) w.at
      | false ↦ refused_with w.number (asks w.state)
    ]

module _ (s : Scheme) (Ms : List ℕ) where
  pub after_fault : (w : Stop (List Record)) → (w.number ≡ 0 → ⊥) → after s Ms w ≡ refused_with w.number (asks w.state)
  unfolding after
  after_fault w d = rw (after, ne_eqb w.number 0 d)

  pub after_end : (w : Stop (List Record)) → w.number ≡ 0
      → after s Ms w ≡ at_end (whole_number s Ms (asked_of (asks w.state))) (asks w.state) w.at
  unfolding after
  after_end w z = rw (after, eq-eqb w.number 0 z)

pub end_fault : (n : ℕ) (q : Asking) (at : ℕ) → (n ≡ 0 → ⊥) → at_end n q at ≡ refused_with n q
unfolding at_end
end_fault n q at d = rw (at_end, ne_eqb n 0 d)

pub end_good : (n : ℕ) (q : Asking) (at : ℕ) → n ≡ 0 → at_end n q at
    ≡ record { number = 0; asking = q; read = at }
unfolding at_end
end_good n q at z = rw (at_end, eq-eqb n 0 z)

-- where a walk stops, reading stops
module _ (s : Scheme) (Ms b : List ℕ) where
  at_end_stops : {rs : List Record} {at next : ℕ} → Accepted s b rs at → read_at b at ≡ Found (OfQuery End) next
      → StopsWith s Ms b (at_end (whole_number s Ms (asked_of (asks rs))) (asks rs) next)
  at_end_stops {rs} {at} {next} a e =
      let n = whole_number s Ms (asked_of (asks rs)) in
      let w = whole_at_end s Ms a in
      ⊎_elim
      (λ z. subst (StopsWith s Ms b) (sym (end_good n (asks rs) next z))
      (answered a e (subst (OfWhole s Ms (asks rs)) z w)))
      (λ d. subst (StopsWith s Ms b) (sym (end_fault n (asks rs) next d)) (refused a e w d))
      (eq_or_ne n 0)

  walk_reading : (w : Stop (List Record)) → StopsAt (query_rules s) b [] w → StopsWith s Ms b (after s Ms w)
  walk_reading w (Walking.faulty {s = st} a f) =
      subst (StopsWith s Ms b) (sym (after_fault s Ms w (no_zero (faulty_number_is s st f))))
      (faulty (walk_accepted s a) f)
  walk_reading w (Walking.at_end a l) =
      subst (StopsWith s Ms b) (sym (after_fault s Ms w (λ z. absurd (omega arith)))) (unended (walk_accepted s a) l)
  walk_reading w (Walking.at_last {s = st} {at = at} {r = r} {next = next} a e f l) =
      let q = last_is_end r l in
      subst (StopsWith s Ms b)
      (sym (after_end s Ms w refl
      ∙ ap (λ (x : Record). at_end (whole_number s Ms (asked_of (asks (st ++ x ∷ [])))) (asks (st ++ x ∷ [])) next) q
      ∙ ap (λ (x : Asking). at_end (whole_number s Ms (asked_of x)) x next) (asks_end st)))
      (at_end_stops (walk_accepted s a) (subst (λ (x : Record). read_at b at ≡ Found x next) q e))

  -- ---- the query

  pub read_over : 65536 < length b → read s Ms b ≡ refused_with 1 (asks [])
  unfolding read
  read_over h = rw (read, lt-ltb 65536 (length b) h)

  pub read_within : length b ≤ 65536 → read s Ms b ≡ after s Ms (walk_query s b)
  unfolding read after
  read_within h = rw (read, le-ltb 65536 (length b) h)

  pub read_stops : length b ≤ 65536 → StopsWith s Ms b (read s Ms b)
  unfolding walk_query
  read_stops h =
      subst (StopsWith s Ms b) (sym (read_within h))
      (walk_reading (walk_query s b) (walk_stops (query_rules s) (query_sound s) b []))

  -- behind accepted records, the walk stops there
  walk_is : {w : Stop (List Record)} → StopsAt (query_rules s) b [] w → after s Ms (walk_query s b) ≡ after s Ms w
  unfolding walk_query
  walk_is t = ap (after s Ms) (stops_walk (query_rules s) (query_sound s) b [] t)

  walk_at_end : {rs : List Record} {at next : ℕ} → Accepted s b rs at → read_at b at ≡ Found (OfQuery End) next
      → after s Ms (walk_query s b)
      ≡ at_end (whole_number s Ms (asked_of (asks rs))) (asks rs) next
  unfolding fault_of checks first_of is_end kind_of
  walk_at_end {rs} {at} {next} a e =
      walk_is (Walking.at_last a.walked e refl refl)
      ∙ after_end s Ms (record { number = 0; state = rs ++ OfQuery End ∷ []; at = next }) refl
      ∙ ap (λ (x : Asking). at_end (whole_number s Ms (asked_of x)) x next) (asks_end rs)

  pub stops_read : {o : QueryOutcome} → length b ≤ 65536 → StopsWith s Ms b o → read s Ms b ≡ o
  stops_read h w = read_within h ∙ by w
    where
      by : {o : QueryOutcome} → StopsWith s Ms b o → after s Ms (walk_query s b) ≡ o
      by (faulty {rs} {at} {n} a f) =
          walk_is (Walking.faulty a.walked f)
          ∙ after_fault s Ms (record { number = n; state = rs; at = at }) (no_zero (faulty_number_is s rs f))
      by (unended {rs} {at} a l) =
          walk_is (Walking.at_end a.walked l)
          ∙ after_fault s Ms (record { number = 3; state = rs; at = at }) (λ z. absurd (omega arith))
      by (refused {rs} {at} {next} {n} a e w d) =
          walk_at_end a e
          ∙ ap (λ (k : ℕ). at_end k (asks rs) next) (at_end_whole s Ms a w)
          ∙ end_fault n (asks rs) next d
      by (answered {rs} {at} {next} a e w) =
          walk_at_end a e
          ∙ end_good (whole_number s Ms (asked_of (asks rs))) (asks rs) next (at_end_whole s Ms a w)

-- ---- where its number comes from

module _ (s : Scheme) (Ms b : List ℕ) where
  -- a faulty record, the end of the bytes, or the whole query
  From : ℕ → Type 0
  From n = FaultyRecord s b n ⊎ (((n ≡ 3) × Unended s b) ⊎ Ended s Ms b n)

  stops_from : {o : QueryOutcome} → StopsWith s Ms b o → From o.number
  unfolding From
  stops_from (faulty {rs} {at} a f) = inl (record { passed = rs; at = at; accepted = a; faulty = f })
  stops_from (unended {rs} {at} a l) = inr (inl (refl, record { passed = rs; at = at; accepted = a; ended = l }))
  stops_from (refused {rs} {at} {next} a e w d) =
      inr (inr (record { passed = rs; at = at; next = next; accepted = a; at_kind_ten = e; whole = w }))
  stops_from (answered {rs} {at} {next} a e w) =
      inr (inr (record { passed = rs; at = at; next = next; accepted = a; at_kind_ten = e; whole = w }))

  module _ (h : length b ≤ 65536) where
    -- what stops the reading gives its number
    number_stops : {o : QueryOutcome} → StopsWith s Ms b o → (read s Ms b).number ≡ o.number
    number_stops w = ap (λ (o : QueryOutcome). o.number) (stops_read s Ms b h w)

    pub faulty_number : {n : ℕ} → FaultyRecord s b n → (read s Ms b).number ≡ n
    faulty_number f = number_stops (faulty f.accepted f.faulty)

    pub unended_number : Unended s b → (read s Ms b).number ≡ 3
    unended_number u = number_stops (unended u.accepted u.ended)

    pub ended_number : {n : ℕ} → Ended s Ms b n → (read s Ms b).number ≡ n
    ended_number {n} w =
        ⊎_elim
        (λ z.
        let v = subst (OfWhole s Ms (asks w.passed)) z w.whole in
        number_stops (answered w.accepted w.at_kind_ten v) ∙ sym z)
        (λ d. number_stops (refused w.accepted w.at_kind_ten w.whole d)) (eq_or_ne n 0)

-- ---- which numbers there are

abbrev OfRecord : ℕ → Type 0
OfRecord n = (n ≡ 2) ⊎ ((n ≡ 4) ⊎ ((n ≡ 5) ⊎ ((n ≡ 7) ⊎ (n ≡ 11))))

abbrev OfWholeQuery : ℕ → Type 0
OfWholeQuery n = (n ≡ 0) ⊎ ((n ≡ 10) ⊎ (n ≡ 12))

-- a number of a whole query is none of a record
not_of_query : {n : ℕ} → FaultNumber n → OfWholeQuery n → ⊥
not_of_query f (inl z) = no_zero f z
not_of_query f (inr (inl z)) = ⊎_elim (λ p. absurd (omega arith)) (λ p. absurd (omega arith)) (fault_splits f)
not_of_query f (inr (inr z)) = ⊎_elim (λ p. absurd (omega arith)) (λ p. absurd (omega arith)) (fault_splits f)

not_three : {n : ℕ} → OfRecord n → n ≡ 3 → ⊥
not_three (inl z) t = absurd (omega arith)
not_three (inr (inl z)) t = absurd (omega arith)
not_three (inr (inr (inl z))) t = absurd (omega arith)
not_three (inr (inr (inr (inl z)))) t = absurd (omega arith)
not_three (inr (inr (inr (inr z)))) t = absurd (omega arith)

of_record_fault : {n : ℕ} → OfRecord n → FaultNumber n
of_record_fault (inl z) = subst FaultNumber (sym z) two
of_record_fault (inr (inl z)) = subst FaultNumber (sym z) four
of_record_fault (inr (inr (inl z))) = subst FaultNumber (sym z) five
of_record_fault (inr (inr (inr (inl z)))) = subst FaultNumber (sym z) seven
of_record_fault (inr (inr (inr (inr z)))) = subst FaultNumber (sym z) eleven

-- none is 1
fault_not_one : {n : ℕ} → FaultNumber n → n ≡ 1 → ⊥
fault_not_one f z = ⊎_elim (λ p. absurd (omega arith)) (λ p. absurd (omega arith)) (fault_splits f)

pub record_not_one : {n : ℕ} → OfRecord n → n ≡ 1 → ⊥
record_not_one c z = fault_not_one (of_record_fault c) z

pub query_not_one : {n : ℕ} → OfWholeQuery n → n ≡ 1 → ⊥
query_not_one (inl c) z = absurd (omega arith)
query_not_one (inr (inl c)) z = absurd (omega arith)
query_not_one (inr (inr c)) z = absurd (omega arith)

-- the numbers of a query that is read
abbrev OneOf : ℕ → Type 0
OneOf n = (n ≤ 5) ⊎ ((n ≡ 7) ⊎ ((n ≡ 10) ⊎ ((n ≡ 11) ⊎ (n ≡ 12))))

fault_one_of : {n : ℕ} → FaultNumber n → OneOf n
fault_one_of two = inl (omega arith)
fault_one_of three = inl (omega arith)
fault_one_of four = inl (omega arith)
fault_one_of five = inl (omega arith)
fault_one_of seven = inr (inl refl)
fault_one_of eleven = inr (inr (inr (inl refl)))

query_one_of : {n : ℕ} → OfWholeQuery n → OneOf n
query_one_of (inl z) = inl (omega arith)
query_one_of (inr (inl z)) = inr (inr (inl z))
query_one_of (inr (inr z)) = inr (inr (inr (inr z)))

faulty_record_number : {s : Scheme} {b : List ℕ} {n : ℕ} → FaultyRecord s b n → FaultNumber n
faulty_record_number {s} f = faulty_number_is s f.passed f.faulty

module _ (s : Scheme) (Ms b : List ℕ) where
  pub number_over : 65536 < length b → (read s Ms b).number ≡ 1
  number_over h = ap (λ (o : QueryOutcome). o.number) (read_over s Ms b h)

  -- a number other than 1 comes from a query that is not too long
  pub number_within : ((read s Ms b).number ≡ 1 → ⊥) → length b ≤ 65536
  number_within d = ⊎_elim (λ h. absurd (d (number_over h))) (λ h. h) (lt_or_le 65536 (length b))

  module _ (h : length b ≤ 65536) where
    number_from_law : {n : ℕ} → (read s Ms b).number ≡ n → From s Ms b n
    number_from_law e = subst (From s Ms b) e (stops_from s Ms b (read_stops s Ms b h))

    -- it is a fault's, or the whole query's
    number_kinds : {n : ℕ} → (read s Ms b).number ≡ n → FaultNumber n ⊎ OfWholeQuery n
    unfolding From
    number_kinds e =
        ⊎_elim (λ f. inl (faulty_record_number f))
        (λ p. ⊎_elim (λ u. inl (subst FaultNumber (sym u.0) three)) (λ w. inr (whole_numbers w.whole)) p)
        (number_from_law e)

    pub number_of_record : {n : ℕ} → OfRecord n → (read s Ms b).number ≡ n → FaultyRecord s b n
    unfolding From
    number_of_record c e =
        ⊎_elim (λ f. f)
        (λ p. ⊎_elim (λ u. absurd (not_three c u.0))
        (λ w. absurd (not_of_query (of_record_fault c) (whole_numbers w.whole))) p)
        (number_from_law e)

    pub number_three : (read s Ms b).number ≡ 3 → FaultyRecord s b 3 ⊎ Unended s b
    unfolding From
    number_three e =
        ⊎_elim (λ f. inl f)
        (λ p. ⊎_elim (λ u. inr u.1) (λ w. absurd (not_of_query three (whole_numbers w.whole))) p)
        (number_from_law e)

    pub number_of_query : {n : ℕ} → OfWholeQuery n → (read s Ms b).number ≡ n → Ended s Ms b n
    unfolding From
    number_of_query c e =
        ⊎_elim (λ f. absurd (not_of_query (faulty_record_number f) c))
        (λ p. ⊎_elim (λ u. absurd (not_of_query (subst FaultNumber (sym u.0) three) c)) (λ w. w) p)
        (number_from_law e)

  pub number_not_one : length b ≤ 65536 → (read s Ms b).number ≡ 1 → ⊥
  number_not_one h e = ⊎_elim (λ f. fault_not_one f refl) (λ q. query_not_one q refl) (number_kinds h e)

  pub number_one_of : {n : ℕ} → (read s Ms b).number ≡ n → OneOf n
  number_one_of {n} e =
      ⊎_elim (λ h. inl (omega (arith, number_over h)))
      (λ h. ⊎_elim (λ f. fault_one_of f) (λ q. query_one_of q) (number_kinds h e)) (lt_or_le 65536 (length b))
