-- A walk stops exactly where the paper's words say. Accepted records lead to the walk from their position on; what
-- stands there is read, and gives one of the ways to stop or one record more.
-- In order: what each reading makes of the rest, the position of accepted records, walking on from them, faulty
-- records, where a walk stops, and that it stops nowhere else.
-- Assumes nothing.
use mathlib.Core.Path.{◌≡◌, refl, sym, ap, ◌∙◌, subst}
use mathlib.Core.Bool.{Bool, true, false}
use mathlib.Core.Logic.{⊎_elim}
use mathlib.Core.List.{List, [], ◌∷◌, ◌++◌}
use Prim.Native.Nat.{ℕ, zero, suc, ◌-◌, ◌≤◌, ◌<◌}
use native.Mathlib.Omega.{arith}
use borrow.Author.Tests.{eq-eqb, ne_eqb}
use lib.ListN.{length, get_or}
use Rattle.sets.proofs.Tests.{yes_or_no}
use Rattle.sets.proofs.Numbers.{eq_or_ne}
use Rattle.records.specs.Records.{kind_of}
use Rattle.records.specs.Reader.{read_at}
use Rattle.records.specs.Walking.{Rules, Sound, Stop, short_number, walk_from, walk, Accepted, none, one, Faulty}
use Rattle.records.specs.Walking.{not_allowed, cut_short, wrong, StopsAt, faulty, at_end, at_last}
use Rattle.records.specs.declared.Record.{Record}
use Rattle.records.specs.declared.Reading.{Reading}
use Rattle.records.specs.declared.Reading.TheVariants.{Nothing, Unknown, Short, Found}
use Rattle.records.proofs.Reader.{read_at_nothing, read_at_short, read_at_whole, nothing_read_at, unknown_read_at}
use Rattle.records.proofs.Reader.{short_read_at, whole_read_at, found_after}

-- ---- what each reading makes of the rest

module _ {S : Type 0} (R : Rules S) (n : ℕ) (b : List ℕ) (at : ℕ) (s : S) where
  from_nothing : read_at b at ≡ Nothing → walk_from R (suc n) b at s ≡ record { number = R.unended; state = s; at = at }
  unfolding walk_from
  from_nothing e = rw (e, walk_from)

  from_unknown : read_at b at ≡ Unknown → walk_from R (suc n) b at s ≡ record { number = 2; state = s; at = at }
  unfolding walk_from
  from_unknown e = rw (e, walk_from)

  from_short : {k : ℕ} → read_at b at ≡ Short k
      → walk_from R (suc n) b at s ≡ record { number = short_number R.allowed k; state = s; at = at }
  unfolding walk_from
  from_short e = rw (e, walk_from)

  from_found : {r : Record} {next : ℕ} → read_at b at ≡ Found r next → R.fault s r ≡ 0 → R.is_last r ≡ false
      → walk_from R (suc n) b at s ≡ walk_from R n b next (R.taken s r at)
  unfolding walk_from
  from_found {r} e f l = rw (e, walk_from, eq-eqb (R.fault s r) 0 f, l)

  from_last : {r : Record} {next : ℕ} → read_at b at ≡ Found r next → R.fault s r ≡ 0 → R.is_last r ≡ true
      → walk_from R (suc n) b at s ≡ record { number = 0; state = R.taken s r at; at = next }
  unfolding walk_from
  from_last {r} e f l = rw (e, walk_from, eq-eqb (R.fault s r) 0 f, l)

  from_faulty : {r : Record} {next : ℕ} → read_at b at ≡ Found r next → (R.fault s r ≡ 0 → ⊥)
      → walk_from R (suc n) b at s ≡ record { number = R.fault s r; state = s; at = at }
  unfolding walk_from
  from_faulty {r} e d = rw (e, walk_from, ne_eqb (R.fault s r) 0 d)

-- ---- the position of accepted records

pub accepted_inside : {S : Type 0} {R : Rules S} {b : List ℕ} {start : S} {rs : List Record} {s : S} {at : ℕ}
    → Accepted R b start rs s at → at ≤ length b
accepted_inside none = omega arith
accepted_inside {b = b} (one {at = at} a e f l) = (whole_read_at b at e).within

-- ---- walking on from accepted records

-- some number of records, enough for what is left, leads from the position to where the walk stops
record Leads {S : Type 0} (R : Rules S) (b : List ℕ) (start : S) (at : ℕ) (s : S) : Type 0 where
  left : ℕ
  enough : length b - at ≤ left
  leads : walk_from R (suc left) b at s ≡ walk R b start

leads_on : {S : Type 0} (R : Rules S) {r : Record} {next : ℕ} (b : List ℕ) (start : S) (at : ℕ) (s : S) (n : ℕ)
    → length b - at ≤ n → walk_from R (suc n) b at s ≡ walk R b start → read_at b at ≡ Found r next
    → R.fault s r ≡ 0 → R.is_last r ≡ false → Leads R b start next (R.taken s r at)
leads_on R b start at s zero l q e f t =
    let inside : at < length b = omega (arith, found_after b at e, (whole_read_at b at e).within) in
    absurd (omega arith)
leads_on R b start at s (suc n) l q e f t = record {
  left = n;
  enough = omega (arith, found_after b at e, (whole_read_at b at e).within);
  leads = sym (from_found R (suc n) b at s e f t) ∙ q;
}

accepted_leads : {S : Type 0} {R : Rules S} {b : List ℕ} {start : S} {rs : List Record} {s : S} {at : ℕ}
    → Accepted R b start rs s at → Leads R b start at s
unfolding walk
accepted_leads {b = b} none = record { left = length b; enough = omega arith; leads = refl }
accepted_leads {R = R} {b = b} {start = start} (one {s = s} {at = at} a e f l) =
    let v = accepted_leads a in
    leads_on R b start at s v.left v.enough v.leads e f l

module _ {S : Type 0} {R : Rules S} {b : List ℕ} {start : S} {rs : List Record} {s : S} {at : ℕ}
    (a : Accepted R b start rs s at) where
  pub stops_nothing : read_at b at ≡ Nothing → walk R b start ≡ record { number = R.unended; state = s; at = at }
  stops_nothing e = sym (accepted_leads a).leads ∙ from_nothing R (accepted_leads a).left b at s e

  pub stops_unknown : read_at b at ≡ Unknown → walk R b start ≡ record { number = 2; state = s; at = at }
  stops_unknown e = sym (accepted_leads a).leads ∙ from_unknown R (accepted_leads a).left b at s e

  pub stops_short : {k : ℕ} → read_at b at ≡ Short k
      → walk R b start ≡ record { number = short_number R.allowed k; state = s; at = at }
  stops_short e = sym (accepted_leads a).leads ∙ from_short R (accepted_leads a).left b at s e

  pub stops_last : {r : Record} {next : ℕ} → read_at b at ≡ Found r next → R.fault s r ≡ 0 → R.is_last r ≡ true
      → walk R b start ≡ record { number = 0; state = R.taken s r at; at = next }
  stops_last e f l = sym (accepted_leads a).leads ∙ from_last R (accepted_leads a).left b at s e f l

  pub stops_faulty : {r : Record} {next : ℕ} → read_at b at ≡ Found r next → (R.fault s r ≡ 0 → ⊥)
      → walk R b start ≡ record { number = R.fault s r; state = s; at = at }
  stops_faulty e d = sym (accepted_leads a).leads ∙ from_faulty R (accepted_leads a).left b at s e d

-- ---- faulty records

short_allowed : (allowed : ℕ → Bool) (k : ℕ) → allowed k ≡ true → short_number allowed k ≡ 3
unfolding short_number
short_allowed allowed k e = ap (λ (b : Bool). elim b [ true ↦ 3 | false ↦ 2 ]) e

short_not_allowed : (allowed : ℕ → Bool) (k : ℕ) → allowed k ≡ false → short_number allowed k ≡ 2
unfolding short_number
short_not_allowed allowed k e = ap (λ (b : Bool). elim b [ true ↦ 3 | false ↦ 2 ]) e

module _ {S : Type 0} (R : Rules S) (w : Sound R) (b : List ℕ) (s : S) (at : ℕ) where
  faulty_unknown : read_at b at ≡ Unknown → Faulty R.allowed (R.fault s) b at 2
  faulty_unknown e = let u = unknown_read_at b at e in not_allowed u.within (w.known (get_or b at 0) u.kind)

  faulty_short : {k : ℕ} → read_at b at ≡ Short k → Faulty R.allowed (R.fault s) b at (short_number R.allowed k)
  faulty_short {k} e =
      let c = short_read_at b at e in
      ⊎_elim
      (λ y. subst (Faulty R.allowed (R.fault s) b at) (sym (short_allowed R.allowed k y)) (cut_short y c))
      (λ n. subst (Faulty R.allowed (R.fault s) b at) (sym (short_not_allowed R.allowed k n))
      (not_allowed c.within (ap R.allowed c.byte ∙ n)))
      (yes_or_no (R.allowed k))

  faulty_found : {r : Record} {next : ℕ} → read_at b at ≡ Found r next → (R.fault s r ≡ 0 → ⊥)
      → Faulty R.allowed (R.fault s) b at (R.fault s r)
  faulty_found {r} e d =
      let v = whole_read_at b at e in
      let inside : at < length b = omega (arith, v.place, v.within) in
      ⊎_elim (λ y. wrong v y refl d)
      (λ n. subst (Faulty R.allowed (R.fault s) b at) (sym (w.others s r n))
      (not_allowed inside (ap R.allowed v.byte ∙ n)))
      (yes_or_no (R.allowed (kind_of r)))

-- ---- where a walk stops

module _ {S : Type 0} (R : Rules S) (w : Sound R) (b : List ℕ) (start : S) where
  -- from a position on, by what stands there; where it goes on, what follows is known
  step : (n at : ℕ) (rs : List Record) (s : S) → Accepted R b start rs s at
      → ((r : Record) (next : ℕ) → read_at b at ≡ Found r next → R.fault s r ≡ 0 → R.is_last r ≡ false
      → StopsAt R b start (walk_from R n b next (R.taken s r at)))
      → (x : Reading) → read_at b at ≡ x → StopsAt R b start (walk_from R (suc n) b at s)
  step n at rs s a later Nothing e =
      subst (StopsAt R b start) (sym (from_nothing R n b at s e)) (at_end a (nothing_read_at b at e))
  step n at rs s a later Unknown e =
      subst (StopsAt R b start) (sym (from_unknown R n b at s e)) (faulty a (faulty_unknown R w b s at e))
  step n at rs s a later (Short k) e =
      subst (StopsAt R b start) (sym (from_short R n b at s e)) (faulty a (faulty_short R w b s at e))
  step n at rs s a later (Found r next) e =
      ⊎_elim (λ f. ⊎_elim
      (λ t. subst (StopsAt R b start) (sym (from_last R n b at s e f t)) (at_last a e f t))
      (λ t. subst (StopsAt R b start) (sym (from_found R n b at s e f t)) (later r next e f t))
      (yes_or_no (R.is_last r)))
      (λ d. subst (StopsAt R b start) (sym (from_faulty R n b at s e d)) (faulty a (faulty_found R w b s at e d)))
      (eq_or_ne (R.fault s r) 0)

  reach : (n at : ℕ) (rs : List Record) (s : S) → length b - at ≤ n → Accepted R b start rs s at
      → StopsAt R b start (walk_from R (suc n) b at s)
  reach zero at rs s l a =
      step 0 at rs s a (λ r next e f t. absurd (omega (arith, found_after b at e, (whole_read_at b at e).within)))
      (read_at b at) refl
  reach (suc n) at rs s l a =
      step (suc n) at rs s a
      (λ r next e f t. reach n next (rs ++ r ∷ []) (R.taken s r at)
      (omega (arith, found_after b at e, (whole_read_at b at e).within)) (one a e f t))
      (read_at b at) refl

  pub walk_stops : StopsAt R b start (walk R b start)
  unfolding walk
  walk_stops = reach (length b) 0 [] start (omega arith) none

-- ---- and nowhere else

module _ {S : Type 0} (R : Rules S) (w : Sound R) (b : List ℕ) (start : S) {rs : List Record} {s : S} {at : ℕ}
    (a : Accepted R b start rs s at) where
  numbered : {n m : ℕ} → walk R b start ≡ record { number = n; state = s; at = at } → n ≡ m
      → walk R b start ≡ record { number = m; state = s; at = at }
  numbered e q = e ∙ ap {B = Stop S} (λ (k : ℕ). record { number = k; state = s; at = at }) q

  not_allowed_stops : at < length b → R.allowed (get_or b at 0) ≡ false → (x : Reading) → read_at b at ≡ x
      → walk R b start ≡ record { number = 2; state = s; at = at }
  not_allowed_stops h n Nothing e = absurd (omega (arith, nothing_read_at b at e))
  not_allowed_stops h n Unknown e = stops_unknown a e
  not_allowed_stops h n (Short k) e =
      numbered (stops_short a e)
      (short_not_allowed R.allowed k (ap R.allowed (sym (short_read_at b at e).byte) ∙ n))
  not_allowed_stops h n (Found r next) e =
      let two = w.others s r (ap R.allowed (sym (whole_read_at b at e).byte) ∙ n) in
      numbered (stops_faulty a e (λ z. absurd (omega (arith, two)))) two

  faulty_walk : {n : ℕ} → Faulty R.allowed (R.fault s) b at n
      → walk R b start ≡ record { number = n; state = s; at = at }
  faulty_walk (not_allowed h n) = not_allowed_stops h n (read_at b at) refl
  faulty_walk (cut_short {k} y c) =
      numbered (stops_short a (read_at_short b at k c)) (short_allowed R.allowed k y)
  faulty_walk (wrong v y e d) = numbered (stops_faulty a (read_at_whole b at v) (λ z. d (sym e ∙ z))) e

pub stops_walk : {S : Type 0} (R : Rules S) → Sound R → (b : List ℕ) (start : S) {w : Stop S} → StopsAt R b start w
    → walk R b start ≡ w
stops_walk R w b start (faulty a f) = faulty_walk R w b start a f
stops_walk R w b start (at_end {at = at} a l) = stops_nothing a (read_at_nothing b at l)
stops_walk R w b start (at_last a e f l) = stops_last a e f l
