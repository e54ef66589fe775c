-- Laws of numbers in decimal, in the order of `specs/Decimal.antt`.
-- In order: the digits of a number, what digits look like, the number of digits, how many digits, integers, cells.
-- Assumes nothing.
use mathlib.Core.Path.{◌≡◌, refl, sym, ap, ap₂, subst, ◌∙◌}
use mathlib.Core.Bool.{Bool, true, false, cond, ◌&&◌}
use mathlib.Core.Logic.{⊎_elim}
use mathlib.Core.List.Memᴰ
use mathlib.Core.List.{List, [], ◌∷◌, ◌++◌, Memᴰ, append_assoc, append-nil}
use Prim.Native.Nat.{ℕ, zero, suc, ◌+◌, ◌-◌, ◌*◌, ◌/◌, ◌%◌, ◌^◌, ◌≤◌, ◌<◌}
use native.Mathlib.Nat.{pow-suc, div-lt_iff_lt-mul}
use native.Mathlib.Omega.{arith}
use borrow.Author.Tests as Tests
use lib.Arith.{digits_div, digits_mod}
use lib.Dec.{eqb, ltb, leb, lit<}
use lib.IntN.{ℤ, pos, negsuc}
use lib.ListN.{length, get_or, length-append, get_or-append}
use lib.Signed.{◌<ℤ◌, <ℤ_irrefl}
use Rattle.sets.proofs.Tests.{yes_no, yes_and, no_and}
use Rattle.sets.proofs.Numbers.{lt_or_le}
use Rattle.values.specs.Values.{missing, value_of, signed, less_cell}
use Rattle.values.proofs.Theorems.{ordered_by_value}
use Rattle.printout.specs.Decimal.{decimal_within, decimal, Numeral, number_from, number_of, integer_text, integer_of}
use Rattle.printout.specs.Decimal.{value_text, cell_text}

-- ---- the digits of a number

-- one digit, or what stands before the last one and the last one
abbrev digits : ℕ → List ℕ → Bool → List ℕ
digits n before t = elim t [ true ↦ (48 + n) ∷ [] | false ↦ before ++ (48 + n % 10) ∷ [] ]

-- the fuel is never used up
within_enough : (f g n : ℕ) → n < f → n < g → decimal_within f n ≡ decimal_within g n
unfolding decimal_within
within_enough zero g n h k = absurd (omega (arith, h))
within_enough (suc f) zero n h k = absurd (omega (arith, k))
within_enough (suc f) (suc g) n h k = by (ltb n 10) refl (λ l. within_enough f g (n / 10) (omega arith) (omega arith))
  where
    by : (t : Bool) → ltb n 10 ≡ t → (10 ≤ n → decimal_within f (n / 10) ≡ decimal_within g (n / 10))
        → digits n (decimal_within f (n / 10)) t ≡ digits n (decimal_within g (n / 10)) t
    by true e same = refl
    by false e same = ap (λ (l : List ℕ). l ++ (48 + n % 10) ∷ []) (same (Tests.ltb-false n 10 e))

pub decimal_small : {n : ℕ} → n < 10 → decimal n ≡ (48 + n) ∷ []
unfolding decimal decimal_within
decimal_small {n} h = ap (digits n (decimal_within n (n / 10))) (Tests.lt-ltb n 10 h)

pub decimal_large : {n : ℕ} → 10 ≤ n → decimal n ≡ decimal (n / 10) ++ (48 + n % 10) ∷ []
unfolding decimal decimal_within
decimal_large {n} h =
    ap (digits n (decimal_within n (n / 10))) (Tests.le-ltb n 10 h)
    ∙ ap (λ (l : List ℕ). l ++ (48 + n % 10) ∷ []) (within_enough n (suc (n / 10)) (n / 10) (omega arith) (omega arith))

-- what holds of numbers below 10, and of every other if it holds of its tenth part, holds of all
by_digits : (P : ℕ → Type 0) → ((n : ℕ) → n < 10 → P n) → ((n : ℕ) → 10 ≤ n → P (n / 10) → P n) → (n : ℕ) → P n
by_digits P small large n = within (suc n) n (omega arith)
  where
    within : (f m : ℕ) → m < f → P m
    within zero m h = absurd (omega (arith, h))
    within (suc f) m h =
        ⊎_elim (λ (s : m < 10). small m s) (λ (l : 10 ≤ m). large m l (within f (m / 10) (omega arith))) (lt_or_le m 10)

-- ---- what digits look like

some_digits : (n : ℕ) → 1 ≤ length (decimal n)
some_digits = by_digits (λ n. 1 ≤ length (decimal n))
    (λ n h. rw (decimal_small h) (omega arith))
    (λ n h p. rw (decimal_large h) (omega (arith, p, length-append (decimal (n / 10)) ((48 + n % 10) ∷ []))))

each_digit : (n b : ℕ) → Memᴰ b (decimal n) → (48 ≤ b) × (b ≤ 57)
each_digit n b = by_digits (λ n. Memᴰ b (decimal n) → (48 ≤ b) × (b ≤ 57))
    (λ n h m. one n h (Memᴰ.eq_of_singleton (rw (decimal_small h) at m)))
    (λ n h p m. ⊎_elim p (λ k. one (n % 10) (omega arith) (Memᴰ.eq_of_singleton k))
    (Memᴰ.append_cases (decimal (n / 10)) (rw (decimal_large h) at m)))
    n
  where
    one : (d : ℕ) → d < 10 → b ≡ 48 + d → (48 ≤ b) × (b ≤ 57)
    one d h e = (omega arith, omega arith)

leading_zero : (n : ℕ) → get_or (decimal n) 0 0 ≡ 48 → n ≡ 0
leading_zero = by_digits (λ n. get_or (decimal n) 0 0 ≡ 48 → n ≡ 0)
    (λ n h e. omega (arith, rw (decimal_small h) at e))
    (λ n h p e.
    let z : n / 10 ≡ 0 = p (sym (get_or-append (decimal (n / 10)) _ 0 0 (some_digits (n / 10)))
    ∙ (rw (decimal_large h) at e)) in
    omega arith)

pub decimal_numeral : (n : ℕ) → Numeral (decimal n)
decimal_numeral n = record {
  some = some_digits n;
  each = each_digit n;
  leading = λ e. ap length (decimal_small {n = n} (omega (arith, leading_zero n e)));
}

-- ---- the number of digits

number_append : (m : ℕ) (xs ys : List ℕ) → number_from m (xs ++ ys) ≡ number_from (number_from m xs) ys
unfolding number_from
number_append m [] ys = refl
number_append m (d ∷ xs) ys = number_append (m * 10 + (d - 48)) xs ys

pub number_decimal : (n : ℕ) → number_of (decimal n) ≡ n
unfolding number_of number_from
number_decimal = by_digits (λ n. number_from 0 (decimal n) ≡ n)
    (λ n h. rw (decimal_small h) (omega arith))
    (λ n h p. rw (decimal_large h) (number_append 0 (decimal (n / 10)) ((48 + n % 10) ∷ [])
    ∙ ap (λ (k : ℕ). k * 10 + (48 + n % 10 - 48)) p ∙ omega arith))

-- digits behind those of a number over 0
decimal_behind : (m : ℕ) (digits : List ℕ) → 0 < m → ((b : ℕ) → Memᴰ b digits → (48 ≤ b) × (b ≤ 57))
    → decimal (number_from m digits) ≡ decimal m ++ digits
unfolding number_from
decimal_behind m [] h each = sym (append-nil (decimal m))
decimal_behind m (d ∷ digits) h each =
    decimal_behind (m * 10 + (d - 48)) digits (omega arith) (λ b k. each b (Memᴰ.tail k))
    ∙ ap (λ (l : List ℕ). l ++ digits) more
    ∙ append_assoc (decimal m) (d ∷ []) digits
  where
    here : (48 ≤ d) × (d ≤ 57)
    here = each d (Memᴰ.head refl)

    more : decimal (m * 10 + (d - 48)) ≡ decimal m ++ d ∷ []
    more =
        decimal_large (omega arith)
        ∙ ap₂ (λ (q r : ℕ). decimal q ++ r ∷ []) (digits_div m (omega (arith, here)))
        (ap (λ (r : ℕ). 48 + r) (digits_mod m (omega (arith, here))) ∙ omega (arith, here))

pub numeral_decimal : (digits : List ℕ) → Numeral digits → decimal (number_of digits) ≡ digits
unfolding number_of number_from
numeral_decimal [] v = absurd (omega (arith, v.some))
numeral_decimal (d ∷ digits) v = ⊎_elim from_one zero_alone (lt_or_le 48 d)
  where
    here : (48 ≤ d) × (d ≤ 57)
    here = v.each d (Memᴰ.head refl)

    one : decimal (0 * 10 + (d - 48)) ≡ d ∷ []
    one = decimal_small (omega (arith, here)) ∙ ap (λ (b : ℕ). b ∷ []) (omega (arith, here))

    from_one : 48 < d → decimal (number_from (0 * 10 + (d - 48)) digits) ≡ d ∷ digits
    from_one h =
        decimal_behind (0 * 10 + (d - 48)) digits (omega arith) (λ b k. v.each b (Memᴰ.tail k))
        ∙ ap (λ (l : List ℕ). l ++ digits) one

    none : (l : List ℕ) → suc (length l) ≡ 1 → l ≡ []
    none [] e = refl
    none (b ∷ l) e = absurd (omega (arith, e))

    zero_alone : d ≤ 48 → decimal (number_from (0 * 10 + (d - 48)) digits) ≡ d ∷ digits
    zero_alone h = rw (none digits (v.leading (omega (arith, here)))) one

-- ---- how many digits

pub decimal_short : (k n : ℕ) → n < 10 ^ suc k → length (decimal n) ≤ suc k
decimal_short zero n h = rw (decimal_small {n = n} (omega (arith, h))) (omega arith)
decimal_short (suc k) n h =
    ⊎_elim (λ (s : n < 10). rw (decimal_small s) (omega arith))
    (λ (l : 10 ≤ n). rw (decimal_large l) (omega (
      arith,
      length-append (decimal (n / 10)) ((48 + n % 10) ∷ []),
      decimal_short k (n / 10) ((div-lt_iff_lt-mul (lit< tt)).1 (rw pow-suc at h)),
    )))
    (lt_or_le n 10)

-- ---- integers

integer_plain : (text : List ℕ) → (get_or text 0 0 ≡ 45 → ⊥) → integer_of text ≡ pos (number_of text)
unfolding integer_of number_of number_from
integer_plain [] f = refl
integer_plain (b ∷ text) f = rw (Tests.ne_eqb b 45 f)

first_digit : (n : ℕ) → get_or (decimal n) 0 0 ≡ 45 → ⊥
first_digit n e = by (decimal n) (decimal_numeral n) e
  where
    by : (l : List ℕ) → Numeral l → get_or l 0 0 ≡ 45 → ⊥
    by [] v f = omega (arith, v.some)
    by (b ∷ l) v f = omega (arith, v.each b (Memᴰ.head refl))

pub integer_read : (z : ℤ) → integer_of (integer_text z) ≡ z
unfolding integer_text integer_of
integer_read (pos n) = integer_plain (decimal n) (first_digit n) ∙ ap pos (number_decimal n)
integer_read (negsuc n) = ap negsuc (ap (λ (k : ℕ). k - 1) (number_decimal (suc n)) ∙ omega arith)

integer_byte : (z : ℤ) (b : ℕ) → Memᴰ b (integer_text z) → 32 < b
unfolding integer_text
integer_byte (pos n) b m = omega (arith, each_digit n b m)
integer_byte (negsuc n) b (Memᴰ.head e) = omega (arith, e)
integer_byte (negsuc n) b (Memᴰ.tail m) = omega (arith, each_digit (suc n) b m)

-- ---- cells

module _ (kind : ℕ) {a b : ℕ} (p : a < 2 ^ 32) (q : b < 2 ^ 32) where
  -- values of cells that are there are different for different cells
  value_same : missing kind a ≡ false → missing kind b ≡ false → value_of kind a ≡ value_of kind b → a ≡ b
  value_same m n e =
      ⊎_elim (λ l. absurd (apart a b m e l)) (λ k. ⊎_elim (λ (s : a ≡ b). s) (λ l. absurd (apart b a n (sym e) l)) k)
      ((ordered_by_value kind).total p q)
    where
      apart : (x y : ℕ) → missing kind x ≡ false → value_of kind x ≡ value_of kind y → less_cell kind x y ≡ true → ⊥
      apart x y k f l =
          ⊎_elim (λ u. yes_no u k) (λ u. <ℤ_irrefl (subst (λ (z : ℤ). value_of kind x <ℤ z) (sym f) u))
          (((ordered_by_value kind).agrees x y).0 l).1

  -- and a missing cell is one
  gone_same : missing kind a ≡ true → missing kind b ≡ true → a ≡ b
  gone_same m n =
      ⊎_elim (λ l. absurd (yes_no n (((ordered_by_value kind).agrees a b).0 l).0))
      (λ k. ⊎_elim (λ (s : a ≡ b). s) (λ l. absurd (yes_no m (((ordered_by_value kind).agrees b a).0 l).0)) k)
      ((ordered_by_value kind).total p q)

-- no integer is a minus alone
not_minus : (z : ℤ) → integer_text z ≡ 45 ∷ [] → ⊥
unfolding integer_text
not_minus (pos n) e = first_digit n (ap (λ (l : List ℕ). get_or l 0 0) e)
not_minus (negsuc n) e = omega (arith, some_digits (suc n), ap length e)

pub cell_missing : (kind cell : ℕ) → missing kind cell ≡ true → cell_text kind cell ≡ 45 ∷ []
unfolding cell_text
cell_missing kind cell m = rw m

pub cell_stated : (kind cell : ℕ) → missing kind cell ≡ false → cell_text kind cell ≡ value_text kind cell
unfolding cell_text
cell_stated kind cell m = rw m

pub cell_same : (kind : ℕ) {a b : ℕ} → a < 2 ^ 32 → b < 2 ^ 32 → cell_text kind a ≡ cell_text kind b → a ≡ b
unfolding value_text
cell_same kind {a} {b} p q e = by (missing kind a) (missing kind b) refl refl
  where
    by : (s t : Bool) → missing kind a ≡ s → missing kind b ≡ t → a ≡ b
    by true true m n = gone_same kind p q m n
    by true false m n =
        absurd (not_minus (value_of kind b) (sym (cell_stated kind b n) ∙ sym e ∙ cell_missing kind a m))
    by false true m n = absurd (not_minus (value_of kind a) (sym (cell_stated kind a m) ∙ e ∙ cell_missing kind b n))
    by false false m n =
        value_same kind p q m n
        (sym (integer_read (value_of kind a)) ∙ ap integer_of (sym (cell_stated kind a m) ∙ e ∙ cell_stated kind b n)
        ∙ integer_read (value_of kind b))

pub cell_byte : (kind cell b : ℕ) → Memᴰ b (cell_text kind cell) → 32 < b
unfolding value_text
cell_byte kind cell b i = by (missing kind cell) refl
  where
    by : (t : Bool) → missing kind cell ≡ t → 32 < b
    by true m =
        omega (arith, Memᴰ.eq_of_singleton (subst (Memᴰ b) (cell_missing kind cell m) i))
    by false m = integer_byte (value_of kind cell) b (subst (Memᴰ b) (cell_stated kind cell m) i)

-- whether the text of a value begins with a minus, as the code tests it
abbrev pub minus : ℕ → ℕ → Bool
minus kind cell = eqb kind 1 && leb (2 ^ 31) cell

pub minus_length : (kind cell : ℕ) → kind ≡ 1 → leb (2 ^ 31) cell ≡ minus kind cell
minus_length kind cell e = rw (Tests.eq-eqb kind 1 e)

pub minus_other : (kind cell : ℕ) → (kind ≡ 1 → ⊥) → false ≡ minus kind cell
minus_other kind cell f = rw (Tests.ne_eqb kind 1 f)

-- the cell as the code has it, the number w
module _ (kind cell : ℕ) {t : Bool} (e : t ≡ minus kind cell) {w : ℕ} (s : (w ≡ cell) × (w < 2 ^ 32)) where
  pub value_minus : t ≡ true → value_text kind cell ≡ 45 ∷ decimal (2 ^ 32 - w)
  unfolding value_text value_of signed integer_text
  value_minus y =
      let (k, l) = yes_and (eqb kind 1) (leb (2 ^ 31) cell) (sym e ∙ y) in
      rw (k, Tests.le-ltb cell (2 ^ 31) (Tests.leb-true (2 ^ 31) cell l), Tests.lt-ltb cell (2 ^ 32) (omega arith))
      (ap (λ (n : ℕ). 45 ∷ decimal n) (omega arith))

  pub value_no_minus : t ≡ false → value_text kind cell ≡ decimal w
  unfolding value_text value_of signed integer_text
  value_no_minus n =
      ⊎_elim (λ (k : eqb kind 1 ≡ false). rw k refl)
      (λ (l : leb (2 ^ 31) cell ≡ false). by (eqb kind 1) (Tests.leb-false (2 ^ 31) cell l))
      (no_and (eqb kind 1) (leb (2 ^ 31) cell) (sym e ∙ n))
      ∙ ap decimal (sym s.0)
    where
      by : (s : Bool) → cell < 2 ^ 31 → integer_text (cond s (signed cell) (pos cell)) ≡ decimal cell
      by true h = rw (Tests.lt-ltb cell (2 ^ 31) h)
      by false h = refl

pub value_short : (kind cell : ℕ) → cell < 2 ^ 32 → length (value_text kind cell) ≤ 11
value_short kind cell h = by (minus kind cell) refl
  where
    by : (t : Bool) → t ≡ minus kind cell → length (value_text kind cell) ≤ 11
    by true e = rw (value_minus kind cell e (refl, h) refl)
        (omega (arith, decimal_short 9 (2 ^ 32 - cell) (omega arith)))
    by false e = rw (value_no_minus kind cell e (refl, h) refl) (omega (arith, decimal_short 9 cell (omega arith)))

-- the lengths that the code sums up
module _ (kind cell : ℕ) {t : Bool} (e : t ≡ minus kind cell) {w n : ℕ} (s : (w ≡ cell) × (w < 2 ^ 32)) where
  pub minus_counted : t ≡ true → n ≡ length (decimal (2 ^ 32 - w))
      → (1 + n ≡ length (value_text kind cell)) × (1 + n ≤ 11)
  minus_counted y p =
      let all : 1 + n ≡ length (value_text kind cell) = omega (arith, p, ap length (value_minus kind cell e s y)) in
      (all, omega (arith, all, value_short kind cell (omega arith)))

  pub plain_counted : t ≡ false → n ≡ length (decimal w) → (n ≡ length (value_text kind cell)) × (n ≤ 11)
  plain_counted y p =
      let all : n ≡ length (value_text kind cell) = omega (arith, p, ap length (value_no_minus kind cell e s y)) in
      (all, omega (arith, all, value_short kind cell (omega arith)))

pub cell_short : (kind cell : ℕ) → cell < 2 ^ 32 → length (cell_text kind cell) ≤ 11
cell_short kind cell h = by (missing kind cell) refl
  where
    by : (t : Bool) → missing kind cell ≡ t → length (cell_text kind cell) ≤ 11
    by true m = omega (arith, ap length (cell_missing kind cell m))
    by false m = omega (arith, ap length (cell_stated kind cell m), value_short kind cell h)

-- a cell's text as the code has it
module _ (kind cell : ℕ) {t : Bool} (e : t ≡ missing kind cell) where
  pub missing_counted : t ≡ true → (1 ≡ length (cell_text kind cell)) × (1 ≤ 11)
  missing_counted y = (sym (ap length (cell_missing kind cell (sym e ∙ y))), omega arith)

  pub value_counted : t ≡ false → {n : ℕ} → n ≡ length (value_text kind cell) → n ≤ 11
      → (n ≡ length (cell_text kind cell)) × (n ≤ 11)
  value_counted y p h = (p ∙ sym (ap length (cell_stated kind cell (sym e ∙ y))), h)
