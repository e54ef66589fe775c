-- Which number is given, and the bytes afterwards.
-- In order: the two tests, what each result of them gives, the number as the statement has it, as the code gives it.
-- Assumes nothing.
use mathlib.Core.Path.{◌≡◌, refl, sym, ap, ap₂, subst, ◌∙◌}
use mathlib.Core.Bool.{Bool, true, false, not}
use mathlib.Core.Logic.{◌⊎◌, inl, inr, ⊎_elim}
use mathlib.Core.List.{List, ◌++◌}
use Prim.Native.Nat.{ℕ, ◌^◌, ◌≤◌, ◌<◌}
use native.Mathlib.Nat.{zero-add}
use native.Mathlib.Omega.{arith}
use borrow.Author.Tests as Tests
use lib.Dec.{eqb, ltb}
use lib.ListN.{length, drop}
use Rattle.sets.proofs.Tests.{yes_no, or_left, or_right, or_no}
use Rattle.sets.proofs.Numbers.{lt_or_le}
use Rattle.printout.specs.Lines.{FitToPrint, fits}
use Rattle.printout.specs.Printing.{written}
use Rattle.printout.proofs.Fit.{fits_fit, fit_fits}
use Rattle.sheets.specs.Sheets.{sheet_text, sheet_count, unprintable, no_such_sheet, sheet_number, after_sheet}
use Rattle.sheets.specs.Statements.{SheetGiven}
use Rattle.sheets.proofs.Shape.{sheet_shaped}

module _ (serial rows : ℕ) (kinds cells : List ℕ) (number : ℕ) (bytes : List ℕ) where
  abbrev gives : ℕ
  gives = sheet_number rows kinds cells number bytes

  abbrev leaves : List ℕ
  leaves = after_sheet serial rows kinds cells number bytes

  abbrev text : List ℕ
  text = sheet_text serial rows kinds cells number

  abbrev Fit : Type 0
  Fit = FitToPrint rows kinds cells

  -- ---- the two tests

  few_bytes : length bytes < 3880 → unprintable rows kinds cells bytes ≡ true
  unfolding unprintable
  few_bytes h = or_left (not (fits rows kinds cells)) (Tests.lt-ltb (length bytes) 3880 h)

  not_fit : fits rows kinds cells ≡ false → unprintable rows kinds cells bytes ≡ true
  unfolding unprintable
  not_fit n = or_right (ltb (length bytes) 3880) (ap not n)

  printable : 3880 ≤ length bytes → fits rows kinds cells ≡ true → unprintable rows kinds cells bytes ≡ false
  unfolding unprintable
  printable h y = or_no (Tests.le-ltb (length bytes) 3880 h) (ap not y)

  zero_sheet : number ≡ 0 → no_such_sheet rows number ≡ true
  unfolding no_such_sheet
  zero_sheet e = or_left (ltb (sheet_count rows) number) (Tests.eq-eqb number 0 e)

  past_sheet : sheet_count rows < number → no_such_sheet rows number ≡ true
  unfolding no_such_sheet
  past_sheet h = or_right (eqb number 0) (Tests.lt-ltb (sheet_count rows) number h)

  some_sheet : (number ≡ 0 → ⊥) → number ≤ sheet_count rows → no_such_sheet rows number ≡ false
  unfolding no_such_sheet
  some_sheet f h = or_no (Tests.ne_eqb number 0 f) (Tests.le-ltb (sheet_count rows) number h)

  -- ---- what each result of them gives

  abbrev number_by : Bool → Bool → ℕ
  number_by s t = elim s [ true ↦ 18 | false ↦ elim t [ true ↦ 19 | false ↦ 0 ] ]

  abbrev bytes_by : Bool → Bool → List ℕ
  bytes_by s t = elim s [ true ↦ bytes | false ↦ elim t [ true ↦ bytes | false ↦ text ++ drop 3880 bytes ] ]

  gives_18 : unprintable rows kinds cells bytes ≡ true → (gives ≡ 18) × (leaves ≡ bytes)
  unfolding sheet_number after_sheet
  gives_18 y = (
    ap (λ (s : Bool). number_by s (no_such_sheet rows number)) y,
    ap (λ (s : Bool). bytes_by s (no_such_sheet rows
        number)) y,
  )

  gives_19 : unprintable rows kinds cells bytes ≡ false → no_such_sheet rows number ≡ true
      → (gives ≡ 19) × (leaves ≡ bytes)
  unfolding sheet_number after_sheet
  gives_19 n y = (ap₂ number_by n y, ap₂ bytes_by n y)

  gives_0 : unprintable rows kinds cells bytes ≡ false → no_such_sheet rows number ≡ false
      → (gives ≡ 0) × (leaves ≡ text ++ drop 3880 bytes)
  unfolding sheet_number after_sheet
  gives_0 n m = (ap₂ number_by n m, ap₂ bytes_by n m)

  -- ---- the number as the statement has it

  data Case : Type 0 where
    unprinted : ((length bytes < 3880) ⊎ (Fit → ⊥)) → (gives ≡ 18) × (leaves ≡ bytes) → Case
    absent : 3880 ≤ length bytes → Fit → (number ≡ 0) ⊎ (sheet_count rows < number)
        → (gives ≡ 19) × (leaves ≡ bytes) → Case
    there : 3880 ≤ length bytes → Fit → 1 ≤ number → number ≤ sheet_count rows
        → (gives ≡ 0) × (leaves ≡ text ++ drop 3880 bytes) → Case

  unfit : (t : Bool) → fits rows kinds cells ≡ t → t ≡ false → Fit → ⊥
  unfit t e n v = yes_no (fit_fits rows kinds cells v) (e ∙ n)

  case_of : Case
  case_of = ⊎_elim (λ (h : length bytes < 3880). unprinted (inl h) (gives_18 (few_bytes h)))
      (λ (h : 3880 ≤ length bytes). by_fit (fits rows kinds cells) refl h) (lt_or_le (length bytes) 3880)
    where
      by_number : 3880 ≤ length bytes → fits rows kinds cells ≡ true → Case
      by_number h y = ⊎_elim (λ (z : number < 1). absent h (fits_fit rows kinds cells y) (inl (omega arith))
          (gives_19 (printable h y) (zero_sheet (omega arith))))
          (λ (s : 1 ≤ number). ⊎_elim (λ (l : sheet_count rows < number). absent h (fits_fit rows kinds cells y) (inr l)
          (gives_19 (printable h y) (past_sheet l)))
          (λ (l : number ≤ sheet_count rows). there h (fits_fit rows kinds cells y) s l
          (gives_0 (printable h y) (some_sheet (λ e. omega (arith, e, s)) l)))
          (lt_or_le (sheet_count rows) number)) (lt_or_le number 1)

      by_fit : (t : Bool) → fits rows kinds cells ≡ t → 3880 ≤ length bytes → Case
      by_fit true y h = by_number h y
      by_fit false n h = unprinted (inr (unfit false n refl)) (gives_18 (not_fit n))

  pub sheet_given : SheetGiven serial rows kinds cells number bytes
  sheet_given = by case_of
    where
      no : {k m : ℕ} → gives ≡ k → gives ≡ m → (k ≡ m → ⊥) → ⊥
      no p q f = f (sym p ∙ q)

      by : Case → SheetGiven serial rows kinds cells number bytes
      by (unprinted a (p, q)) = record {
        eighteen = (λ e. a, λ b. p);
        nineteen = (λ e. absurd (no p e (λ f. omega (arith, f))), λ (h, (v, b)). absurd (clash a h v));
        given = (λ e. absurd (no p e (λ f. omega (arith, f))), λ (h, (v, b)). absurd (clash a h v));
        written = λ e. absurd (no p e (λ f. omega (arith, f)));
        unchanged = λ f. q;
      }
        where
          clash : ((length bytes < 3880) ⊎ (Fit → ⊥)) → 3880 ≤ length bytes → Fit → ⊥
          clash (inl l) h v = omega (arith, l, h)
          clash (inr f) h v = f v
      by (absent h v a (p, q)) = record {
        eighteen = (λ e. absurd (no p e (λ f. omega (arith, f))), λ b. absurd (clash b));
        nineteen = (λ e. (h, (v, a)), λ b. p);
        given = (λ e. absurd (no p e (λ f. omega (arith, f))), λ (k, (u, (s, l))). absurd (none a s l));
        written = λ e. absurd (no p e (λ f. omega (arith, f)));
        unchanged = λ f. q;
      }
        where
          clash : ((length bytes < 3880) ⊎ (Fit → ⊥)) → ⊥
          clash (inl l) = omega (arith, l, h)
          clash (inr f) = f v

          none : (number ≡ 0) ⊎ (sheet_count rows < number) → 1 ≤ number → number ≤ sheet_count rows → ⊥
          none (inl e) s l = omega (arith, e, s)
          none (inr m) s l = omega (arith, m, l)
      by (there h v s l (p, q)) = record {
        eighteen = (λ e. absurd (no p e (λ f. omega (arith, f))), λ b. absurd (clash b));
        nineteen = (λ e. absurd (no p e (λ f. omega (arith, f))), λ (k, (u, a)). absurd (none a));
        given = (λ e. (h, (v, (s, l))), λ b. p);
        written = λ e. q;
        unchanged = λ f. absurd (f p);
      }
        where
          clash : ((length bytes < 3880) ⊎ (Fit → ⊥)) → ⊥
          clash (inl k) = omega (arith, k, h)
          clash (inr f) = f v

          none : (number ≡ 0) ⊎ (sheet_count rows < number) → ⊥
          none (inl e) = omega (arith, e, s)
          none (inr m) = omega (arith, m, l)

  -- ---- as the code gives it

  back : {k : ℕ} {l : List ℕ} → (gives ≡ k) × (leaves ≡ l) → (k ≡ gives) × (l ≡ leaves)
  back (p, q) = (sym p, sym q)

  pub few_given : length bytes < 3880 → (18 ≡ gives) × (bytes ≡ leaves)
  few_given h = back (gives_18 (few_bytes h))

  module _ {t : Bool} (f : t ≡ fits rows kinds cells) where
    pub unfit_given : t ≡ false → (18 ≡ gives) × (bytes ≡ leaves)
    unfit_given n = back (gives_18 (not_fit (sym f ∙ n)))

    module _ (y : t ≡ true) (h : 3880 ≤ length bytes) where
      pub given_fit : Fit
      given_fit = fits_fit rows kinds cells (sym f ∙ y)

      pub zero_given : number ≡ 0 → (19 ≡ gives) × (bytes ≡ leaves)
      zero_given e = back (gives_19 (printable h (sym f ∙ y)) (zero_sheet e))

      module _ (s : number ≡ 0 → ⊥) {m : ℕ} (q : m ≡ sheet_count rows) where
        pub past_given : m < number → (19 ≡ gives) × (bytes ≡ leaves)
        past_given l = back (gives_19 (printable h (sym f ∙ y)) (past_sheet (subst (λ (k : ℕ). k < number) q l)))

        module _ (l : number ≤ m) where
          pub number_some : 1 ≤ number
          number_some =
              ⊎_elim (λ (z : number < 1). absurd (s (omega arith))) (λ (k : 1 ≤ number). k) (lt_or_le number 1)

          pub number_last : number ≤ sheet_count rows
          number_last = subst (λ (k : ℕ). number ≤ k) q l

          pub whole_given : serial < 2 ^ 32 → {out : List ℕ} → out ≡ written 0 text bytes
              → (0 ≡ gives) × (out ≡ leaves)
          unfolding written
          whole_given k w =
              let (a, b) = gives_0 (printable h (sym f ∙ y)) (some_sheet s number_last) in
              (sym a, w ∙ ap (λ (n : ℕ). text ++ drop n bytes) (zero-add (length text) ∙ size) ∙ sym b)
            where
              size : length text ≡ 3880
              size = (sheet_shaped rows kinds cells number given_fit number_some number_last serial k).bytes
