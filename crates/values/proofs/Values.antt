-- Laws of cells, their values and their keys, in the order of `specs/Values.antt`.
-- In order: missing cells, the range, lengths, keys and values, the order by value, values of any two kinds, match.
-- Assumes nothing.
use Rattle.std.proofs.Common.{◌≡◌, ℕ, suc, ◌+◌, ◌-◌, ◌%◌, ◌^◌, ◌<◌, ◌≤◌, Bool, true, false, cond, not, ◌&&◌, ◌||◌, eqb, ltb, leb, ◌⊎◌, ◌↔◌, pos, negsuc, ◌<ℤ◌, sym, refl, ap, ◌∙◌, ap₂, inl, inr, true≢false, arith}
use mathlib.Core.Bool.{and-true, or-true, false≢true}
use lib.Signed.{lt_z, le_z, <ℤ_irrefl, <ℤ-≤ℤ_trans}
use borrow.Author.Tests as Tests
use Rattle.values.specs.Values.{length_kind, angle_kind, missing, in_range, signed, value_of, less_cell, key, raised, matches}
use Rattle.values.specs.Operators.{eq_z}
use Rattle.values.proofs.Tests.{not_true, yes_both, yes_not, ltb_same, leb_not_ltb, eqb_not_ltb}
use Rattle.values.proofs.Tests.{le_z_not_lt_z, eq_z_not_lt_z, lt_z_true, <ℤ_≤ℤ}

-- ---- missing cells

pub missing_length : (kind cell : ℕ) → kind ≡ length_kind → missing kind cell ≡ eqb cell (2 ^ 31)
unfolding missing
missing_length kind cell e = rw (Tests.eq-eqb kind length_kind e)

pub missing_other : (kind cell : ℕ) → ¬ (kind ≡ length_kind) → missing kind cell ≡ eqb cell 4294967295
unfolding missing
missing_other kind cell f = rw (Tests.ne_eqb kind length_kind f)

pub missing_lengths : (cell : ℕ) → (missing 1 cell ≡ true) ↔ (cell ≡ 2147483648)
missing_lengths cell = (
  λ e. Tests.eqb-true cell (2 ^ 31) (sym (missing_length 1 cell refl) ∙ e),
  λ e. missing_length 1 cell refl ∙ Tests.eq-eqb cell (2 ^ 31) e,
)

pub missing_others : (kind cell : ℕ) → ¬ (kind ≡ 1) → (missing kind cell ≡ true) ↔ (cell ≡ 4294967295)
missing_others kind cell f = (
  λ e. Tests.eqb-true cell 4294967295 (sym (missing_other kind cell f) ∙ e),
  λ e. missing_other kind cell f ∙ Tests.eq-eqb cell 4294967295 e,
)

missing_below : (kind cell : ℕ) → missing kind cell ≡ true → cell < 2 ^ 32
unfolding missing
missing_below kind cell e = by (eqb kind length_kind) e
  where
    by : (t : Bool) → cond t (eqb cell (2 ^ 31)) (eqb cell 4294967295) ≡ true → cell < 2 ^ 32
    by true d = omega (arith, Tests.eqb-true cell (2 ^ 31) d)
    by false d = omega (arith, Tests.eqb-true cell 4294967295 d)

pub least_length : value_of 1 2147483648 ≡ negsuc 2147483647
unfolding value_of signed
least_length = refl

pub minus_one_law : (value_of 1 4294967295 ≡ negsuc 0) × (missing 1 4294967295 ≡ false)
unfolding value_of signed missing
minus_one_law = (refl, refl)

-- ---- the range

in_range_angle : (kind cell : ℕ) → kind ≡ angle_kind → in_range kind cell ≡ ltb cell 36000 || missing kind cell
unfolding in_range
in_range_angle kind cell e = rw (Tests.eq-eqb kind angle_kind e)

pub in_range_below : (kind cell : ℕ) → kind ≡ angle_kind → cell < 36000 → in_range kind cell ≡ ltb cell 36000
in_range_below kind cell e h =
    in_range_angle kind cell e ∙ ap (λ (t : Bool). t || missing kind cell) (Tests.lt-ltb cell 36000 h)
    ∙ sym (Tests.lt-ltb cell 36000 h)

pub in_range_above : (kind cell : ℕ) → kind ≡ angle_kind → 36000 ≤ cell → in_range kind cell ≡ missing kind cell
in_range_above kind cell e h =
    in_range_angle kind cell e ∙ ap (λ (t : Bool). t || missing kind cell) (Tests.le-ltb cell 36000 h)

pub in_range_other : (kind cell : ℕ) → ¬ (kind ≡ angle_kind) → cell < 2 ^ 32 → in_range kind cell ≡ ltb kind 4
unfolding in_range
in_range_other kind cell f p = rw (Tests.ne_eqb kind angle_kind f, Tests.lt-ltb cell (2 ^ 32) p) (and-true (ltb kind 4))

-- a cell in range is one of 32 bits
pub in_range_lt : (kind cell : ℕ) → in_range kind cell ≡ true → cell < 2 ^ 32
unfolding in_range
in_range_lt kind cell e = by (eqb kind angle_kind) e
  where
    angles : (s t : Bool) → ltb cell 36000 ≡ s → missing kind cell ≡ t → s || t ≡ true → cell < 2 ^ 32
    angles true t d m h = omega (arith, Tests.ltb-true cell 36000 d)
    angles false true d m h = missing_below kind cell m
    angles false false d m h = absurd (false≢true h)

    by : (t : Bool) → cond t (ltb cell 36000 || missing kind cell) (ltb kind 4 && ltb cell (2 ^ 32)) ≡ true
        → cell < 2 ^ 32
    by true h = angles (ltb cell 36000) (missing kind cell) refl refl h
    by false h = Tests.ltb-true cell (2 ^ 32) (yes_both (ltb kind 4) (ltb cell (2 ^ 32)) h).1

-- a missing cell of a kind that there is is in range
pub missing_in_range : (kind cell : ℕ) → kind < 4 → missing kind cell ≡ true → in_range kind cell ≡ true
missing_in_range kind cell h e = by (eqb kind angle_kind) refl
  where
    by : (t : Bool) → eqb kind angle_kind ≡ t → in_range kind cell ≡ true
    by true d =
        in_range_angle kind cell (Tests.eqb-true kind angle_kind d)
        ∙ ap (λ (m : Bool). ltb cell 36000 || m) e ∙ or-true (ltb cell 36000)
    by false d =
        in_range_other kind cell (Tests.eqb-false kind angle_kind d) (missing_below kind cell e) ∙ Tests.lt-ltb kind 4 h

pub others_in_range : (kind cell : ℕ) → kind < 4 → ¬ (kind ≡ 2) → cell < 2 ^ 32 → in_range kind cell ≡ true
others_in_range kind cell h f l = in_range_other kind cell f l ∙ Tests.lt-ltb kind 4 h

pub angles_in_range : (cell : ℕ) → (in_range 2 cell ≡ true) ↔ ((cell ≤ 35999) ⊎ (cell ≡ 4294967295))
angles_in_range cell = (λ e. there (ltb cell 36000) refl (sym (in_range_angle 2 cell refl) ∙ e), back)
  where
    there : (t : Bool) → ltb cell 36000 ≡ t → (t || missing 2 cell) ≡ true → (cell ≤ 35999) ⊎ (cell ≡ 4294967295)
    there true d e = inl (omega (arith, Tests.ltb-true cell 36000 d))
    there false d e = inr (Tests.eqb-true cell 4294967295 (sym (missing_other 2 cell (λ p. omega (arith, p))) ∙ e))

    back : (cell ≤ 35999) ⊎ (cell ≡ 4294967295) → in_range 2 cell ≡ true
    back (inl h) =
        in_range_angle 2 cell refl ∙ ap (λ (t : Bool). t || missing 2 cell) (Tests.lt-ltb cell 36000 (omega (arith, h)))
    back (inr e) =
        in_range_angle 2 cell refl
        ∙ ap (λ (m : Bool). ltb cell 36000 || m)
        (missing_other 2 cell (λ p. omega (arith, p)) ∙ Tests.eq-eqb cell 4294967295 e)
        ∙ or-true (ltb cell 36000)

-- ---- lengths

signed_small : {a : ℕ} → a < 2 ^ 31 → signed a ≡ pos a
unfolding signed
signed_small {a} h = rw (Tests.lt-ltb a (2 ^ 31) h)

signed_large : {a : ℕ} → 2 ^ 31 ≤ a → a < 2 ^ 32 → signed a ≡ negsuc (2 ^ 32 - suc a)
unfolding signed
signed_large {a} low high = rw (Tests.le-ltb a (2 ^ 31) low, Tests.lt-ltb a (2 ^ 32) high)

-- a cell of a length stands in the lower or in the upper half of the cells
halves : (a : ℕ) → (a < 2 ^ 31) ⊎ (2 ^ 31 ≤ a)
halves a = by (ltb a (2 ^ 31)) refl
  where
    by : (t : Bool) → ltb a (2 ^ 31) ≡ t → (a < 2 ^ 31) ⊎ (2 ^ 31 ≤ a)
    by true e = inl (Tests.ltb-true a (2 ^ 31) e)
    by false e = inr (Tests.ltb-false a (2 ^ 31) e)

abbrev length_key : ℕ → ℕ
length_key a = (a + 2 ^ 31) % 2 ^ 32

length_key_lt : {a b : ℕ} → a < 2 ^ 32 → b < 2 ^ 32 → ltb (length_key a) (length_key b) ≡ lt_z (signed a) (signed b)
length_key_lt {a} {b} p q = by (halves a) (halves b)
  where
    by : (a < 2 ^ 31) ⊎ (2 ^ 31 ≤ a) → (b < 2 ^ 31) ⊎ (2 ^ 31 ≤ b)
        → ltb (length_key a) (length_key b) ≡ lt_z (signed a) (signed b)
    by (inl h) (inl k) = rw (signed_small h, signed_small k)
        (ltb_same (length_key a) (length_key b) a b (omega arith) (omega arith))
    by (inl h) (inr k) = rw (signed_small h, signed_large k q) (Tests.le-ltb (length_key a) (length_key b) (omega arith))
    by (inr h) (inl k) = rw (signed_large h p, signed_small k) (Tests.lt-ltb (length_key a) (length_key b) (omega arith))
    by (inr h) (inr k) = rw (signed_large h p, signed_large k q)
        (ltb_same (length_key a) (length_key b) (2 ^ 32 - suc b) (2 ^ 32 - suc a) (omega arith) (omega arith))

-- ---- keys and values

pub key_length : (kind cell : ℕ) → kind ≡ length_kind → key kind cell ≡ (cell + 2 ^ 31) % 2 ^ 32
unfolding key
key_length kind cell e = rw (Tests.eq-eqb kind length_kind e)

pub key_other : (kind cell : ℕ) → ¬ (kind ≡ length_kind) → key kind cell ≡ (cell + 1) % 2 ^ 32
unfolding key
key_other kind cell f = rw (Tests.ne_eqb kind length_kind f)

-- an unsigned cell of another kind than lengths
abbrev other_key : ℕ → ℕ
other_key a = (a + 1) % 2 ^ 32

other_key_lt : {a b : ℕ} → a < 4294967295 → b < 4294967295 → ltb (other_key a) (other_key b) ≡ ltb a b
other_key_lt {a} {b} p q = ltb_same (other_key a) (other_key b) a b (omega arith) (omega arith)

-- where the key of the missing cell, m, is 0 and no other cell's is, keys that stand in the order of the values of the
-- other cells stand in the order of the cells
module _ (m : ℕ) (key_of : ℕ → ℕ) (a b : ℕ) (less : Bool) (zero-key : (c : ℕ) → c ≡ m → key_of c ≡ 0)
    (some_key : ¬ (b ≡ m) → 0 < key_of b)
    (values : ¬ (a ≡ m) → ¬ (b ≡ m) → ltb (key_of a) (key_of b) ≡ less) where
  keys_in_order : ltb (key_of a) (key_of b) ≡ not (eqb b m) && (eqb a m || less)
  keys_in_order = by (eqb a m) (eqb b m) refl refl
    where
      by : (s t : Bool) → eqb a m ≡ s → eqb b m ≡ t → ltb (key_of a) (key_of b) ≡ not t && (s || less)
      by s true d e =
          Tests.le-ltb (key_of a) (key_of b) (omega (arith, zero-key b (Tests.eqb-true b m e)))
      by true false d e =
          Tests.lt-ltb (key_of a) (key_of b)
          (omega (arith, zero-key a (Tests.eqb-true a m d), some_key (Tests.eqb-false b m e)))
      by false false d e = values (Tests.eqb-false a m d) (Tests.eqb-false b m e)

-- ---- the order by value

pub less_key : (kind : ℕ) {a b : ℕ} → a < 2 ^ 32 → b < 2 ^ 32 → ltb (key kind a) (key kind b) ≡ less_cell kind a b
unfolding key less_cell missing value_of
less_key kind {a} {b} p q = by (eqb kind length_kind)
  where
    by : (t : Bool) → ltb (cond t (length_key a) (other_key a)) (cond t (length_key b) (other_key b))
        ≡ not (cond t (eqb b (2 ^ 31)) (eqb b 4294967295))
        && (cond t (eqb a (2 ^ 31)) (eqb a 4294967295) || lt_z (cond t (signed a) (pos a)) (cond t (signed b) (pos b)))
    by true =
        keys_in_order (2 ^ 31) length_key a b (lt_z (signed a) (signed b)) (λ c e. omega (arith, e))
        (λ f. omega (arith, f, q))
        (λ f g. length_key_lt p q)
    by false =
        keys_in_order 4294967295 other_key a b (ltb a b) (λ c e. omega (arith, e)) (λ f. omega (arith, f, q))
        (λ f g. other_key_lt {a = a} {b = b} (omega (arith, f, p)) (omega (arith, g, q)))

pub key_injective : (kind : ℕ) {a b : ℕ} → a < 2 ^ 32 → b < 2 ^ 32 → key kind a ≡ key kind b → a ≡ b
unfolding key
key_injective kind {a} {b} p q e = by (eqb kind length_kind) e
  where
    by : (t : Bool) → cond t (length_key a) (other_key a) ≡ cond t (length_key b) (other_key b) → a ≡ b
    by true e' = omega arith
    by false e' = omega arith

-- what the order says
pub less_agrees : (kind a b : ℕ) → (less_cell kind a b ≡ true)
    ↔ ((missing kind b ≡ false) × ((missing kind a ≡ true) ⊎ (value_of kind a <ℤ value_of kind b)))
unfolding less_cell
less_agrees kind a b = (λ e. from (missing kind a) (missing kind b) refl refl e, λ (n, h). to n h)
  where
    from : (s t : Bool) → missing kind a ≡ s → missing kind b ≡ t
        → not t && (s || lt_z (value_of kind a) (value_of kind b)) ≡ true
        → (missing kind b ≡ false) × ((missing kind a ≡ true) ⊎ (value_of kind a <ℤ value_of kind b))
    from s true d e h = absurd (false≢true h)
    from true false d e h = (e, inl d)
    from false false d e h = (e, inr ((lt_z_true _ _).0 h))

    to : missing kind b ≡ false → (missing kind a ≡ true) ⊎ (value_of kind a <ℤ value_of kind b)
        → not (missing kind b) && (missing kind a || lt_z (value_of kind a) (value_of kind b)) ≡ true
    to n (inl m) = rw (n, m)
    to n (inr h) = rw (n, (lt_z_true _ _).1 h) (or-true (missing kind a))

-- the test that the code makes, on keys that it has computed
pub less_at : (kind x y : ℕ) {a b : ℕ} → a ≡ key kind x → b ≡ key kind y → x < 2 ^ 32 → y < 2 ^ 32
    → ltb a b ≡ less_cell kind x y
less_at kind x y d e p q = rw (d, e) (less_key kind p q)

pub less_irreflexive : (kind a : ℕ) → less_cell kind a a ≡ false
less_irreflexive kind a = Tests.not-true _ (not_true.1 (λ e. none ((less_agrees kind a a).0 e)))
  where
    none : (missing kind a ≡ false) × ((missing kind a ≡ true) ⊎ (value_of kind a <ℤ value_of kind a)) → ⊥
    none (n, inl m) = true≢false (sym m ∙ n)
    none (n, inr h) = <ℤ_irrefl h

pub less_transitive : (kind a b c : ℕ) → less_cell kind a b ≡ true → less_cell kind b c ≡ true → less_cell kind a c ≡ true
less_transitive kind a b c d e = (less_agrees kind a c).1 (both ((less_agrees kind a b).0 d) ((less_agrees kind b c).0 e))
  where
    both : (missing kind b ≡ false) × ((missing kind a ≡ true) ⊎ (value_of kind a <ℤ value_of kind b))
        → (missing kind c ≡ false) × ((missing kind b ≡ true) ⊎ (value_of kind b <ℤ value_of kind c))
        → (missing kind c ≡ false) × ((missing kind a ≡ true) ⊎ (value_of kind a <ℤ value_of kind c))
    both (n, h) (k, inl m) = absurd (true≢false (sym m ∙ n))
    both (n, inl m) (k, inr g) = (k, inl m)
    both (n, inr h) (k, inr g) = (k, inr (<ℤ-≤ℤ_trans h (<ℤ_≤ℤ g)))

pub less_total : (kind : ℕ) {a b : ℕ} → a < 2 ^ 32 → b < 2 ^ 32
    → (less_cell kind a b ≡ true) ⊎ ((a ≡ b) ⊎ (less_cell kind b a ≡ true))
less_total kind {a} {b} p q = by (ltb (key kind a) (key kind b)) (ltb (key kind b) (key kind a)) refl refl
  where
    by : (s t : Bool) → ltb (key kind a) (key kind b) ≡ s → ltb (key kind b) (key kind a) ≡ t
        → (less_cell kind a b ≡ true) ⊎ ((a ≡ b) ⊎ (less_cell kind b a ≡ true))
    by true t d e = inl (sym (less_key kind p q) ∙ d)
    by false true d e = inr (inr (sym (less_key kind q p) ∙ e))
    by false false d e =
        let low = Tests.ltb-false (key kind a) (key kind b) d in
        let high = Tests.ltb-false (key kind b) (key kind a) e in
        inr (inl (key_injective kind p q (omega arith)))

-- ---- values of any two kinds

pub raised_length : (kind cell : ℕ) {k : ℕ} → kind ≡ length_kind → k ≡ key kind cell → k ≡ raised kind cell
unfolding raised
raised_length kind cell e d = d ∙ sym (rw (Tests.eq-eqb kind length_kind e))

pub raised_other : (kind cell : ℕ) → ¬ (kind ≡ length_kind) → cell + 2 ^ 31 ≡ raised kind cell
unfolding raised
raised_other kind cell f = sym (rw (Tests.ne_eqb kind length_kind f))

-- a length beside a value of another kind
length_below : {a : ℕ} (b : ℕ) → a < 2 ^ 32 → ltb (length_key a) (b + 2 ^ 31) ≡ lt_z (signed a) (pos b)
length_below {a} b p = by (halves a)
  where
    by : (a < 2 ^ 31) ⊎ (2 ^ 31 ≤ a) → ltb (length_key a) (b + 2 ^ 31) ≡ lt_z (signed a) (pos b)
    by (inl h) = rw (signed_small h) (ltb_same (length_key a) (b + 2 ^ 31) a b (omega arith) (omega arith))
    by (inr h) = rw (signed_large h p) (Tests.lt-ltb (length_key a) (b + 2 ^ 31) (omega arith))

length_above : (a : ℕ) {b : ℕ} → b < 2 ^ 32 → ltb (a + 2 ^ 31) (length_key b) ≡ lt_z (pos a) (signed b)
length_above a {b} q = by (halves b)
  where
    by : (b < 2 ^ 31) ⊎ (2 ^ 31 ≤ b) → ltb (a + 2 ^ 31) (length_key b) ≡ lt_z (pos a) (signed b)
    by (inl h) = rw (signed_small h) (ltb_same (a + 2 ^ 31) (length_key b) a b (omega arith) (omega arith))
    by (inr h) = rw (signed_large h q) (Tests.le-ltb (a + 2 ^ 31) (length_key b) (omega arith))

pub raised_lt : (kind kind2 : ℕ) {a b : ℕ} → a < 2 ^ 32 → b < 2 ^ 32
    → ltb (raised kind a) (raised kind2 b) ≡ lt_z (value_of kind a) (value_of kind2 b)
unfolding raised key value_of
raised_lt kind kind2 {a} {b} p q = by (eqb kind length_kind) (eqb kind2 length_kind)
  where
    by : (s t : Bool)
        → ltb (cond s (cond s (length_key a) (other_key a)) (a + 2 ^ 31))
        (cond t (cond t (length_key b) (other_key b)) (b + 2 ^ 31))
        ≡ lt_z (cond s (signed a) (pos a)) (cond t (signed b) (pos b))
    by true true = length_key_lt p q
    by true false = length_below b p
    by false true = length_above a q
    by false false = ltb_same (a + 2 ^ 31) (b + 2 ^ 31) a b (omega arith) (omega arith)

pub raised_le : (kind kind2 : ℕ) {a b : ℕ} → a < 2 ^ 32 → b < 2 ^ 32
    → leb (raised kind a) (raised kind2 b) ≡ le_z (value_of kind a) (value_of kind2 b)
raised_le kind kind2 {a} {b} p q =
    leb_not_ltb (raised kind a) (raised kind2 b)
    ∙ ap not (raised_lt kind2 kind q p)
    ∙ sym (le_z_not_lt_z (value_of kind a) (value_of kind2 b))

pub raised_eq : (kind kind2 : ℕ) {a b : ℕ} → a < 2 ^ 32 → b < 2 ^ 32
    → eqb (raised kind a) (raised kind2 b) ≡ eq_z (value_of kind a) (value_of kind2 b)
raised_eq kind kind2 {a} {b} p q =
    eqb_not_ltb (raised kind a) (raised kind2 b)
    ∙ ap₂ (λ s t. not s && not t) (raised_lt kind kind2 p q) (raised_lt kind2 kind q p)
    ∙ sym (eq_z_not_lt_z (value_of kind a) (value_of kind2 b))

-- two cells of one kind with one raised number are one
pub raised_injective : (kind : ℕ) {a b : ℕ} → a < 2 ^ 32 → b < 2 ^ 32 → raised kind a ≡ raised kind b → a ≡ b
unfolding raised key
raised_injective kind {a} {b} p q e = by (eqb kind length_kind) e
  where
    by : (t : Bool)
        → cond t (cond t (length_key a) (other_key a)) (a + 2 ^ 31)
        ≡ cond t (cond t (length_key b) (other_key b)) (b + 2 ^ 31) → a ≡ b
    by true e' = omega arith
    by false e' = omega arith

pub raised_order : (kind kind2 : ℕ) {a b : ℕ} → a < 2 ^ 32 → b < 2 ^ 32
    → (raised kind a < raised kind2 b) ↔ (value_of kind a <ℤ value_of kind2 b)
raised_order kind kind2 {a} {b} p q = (
  λ h. (lt_z_true _ _).0 (sym (raised_lt kind kind2 p q) ∙ Tests.lt-ltb _ _ h),
  λ h. Tests.ltb-true _ _ (raised_lt kind kind2 p q ∙ (lt_z_true _ _).1 h),
)

-- ---- match

pub matches_yes : (kind : ℕ) {a b : ℕ} → missing kind a ≡ false → a ≡ b → matches kind a b ≡ true
unfolding matches
matches_yes kind {a} {b} n e = rw (n, Tests.eq-eqb a b e)

pub matches_equal : (kind a b : ℕ) → matches kind a b ≡ true → a ≡ b
unfolding matches
matches_equal kind a b e = Tests.eqb-true a b (yes_both (not (missing kind a)) (eqb a b) e).1

pub matches_stated : (kind a b : ℕ) → matches kind a b ≡ true → missing kind a ≡ false
unfolding matches
matches_stated kind a b e = yes_not (missing kind a) (yes_both (not (missing kind a)) (eqb a b) e).0

-- the test that the code makes
pub matches_none : (kind a b : ℕ) {m : Bool} → m ≡ missing kind a → m ≡ true → false ≡ matches kind a b
unfolding matches
matches_none kind a b d e = sym (rw (← d, e))

pub matches_test : (kind a b : ℕ) {m : Bool} → m ≡ missing kind a → m ≡ false → eqb a b ≡ matches kind a b
unfolding matches
matches_test kind a b d e = sym (rw (← d, e))
