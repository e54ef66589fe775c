-- A step that adds members to a set, repeated until it adds none: the passes of the closure and the rounds of growing.
-- A set that gets a member is a larger number, so a set of w bits does so fewer than 2 ^ w times.
-- In order: repetition, what it lies in, where it ends, the loop that repeats a step.
-- Assumes nothing.
use mathlib.Core.Path.{◌≡◌, sym, ap, ◌∙◌, subst}
use mathlib.Core.Bool.{Bool, true, false}
use mathlib.Core.Logic.{⊎_elim}
use Prim.Native.Nat.{ℕ, zero, suc, ◌+◌, ◌-◌, ◌^◌, ◌≤◌, ◌<◌}
use native.Mathlib.Omega.{arith}
use lib.Dec.{eqb}
use borrow.Author.Tests.{eq-eqb, ne_eqb}
use Rattle.sets.specs.Sets.{◌⊆◌}
use Rattle.sets.proofs.Numbers.{eq_or_ne}
use Rattle.sets.proofs.Sets.{⊆_refl, ⊆_trans, ⊆_lt}

-- ---- repetition

-- `repeats n A`: the step f from A on, n times at most, until it adds nothing
pub record Repeats (f : ℕ → ℕ) (repeats : ℕ → ℕ → ℕ) : Type 0 where
  pub none : (A : ℕ) → repeats zero A ≡ A
  pub more : (n A : ℕ) → repeats (suc n) A ≡ elim (eqb (f A) A) [ true ↦ A | false ↦ repeats n (f A) ]

-- a set of w bits lies in its next one
abbrev pub Grows : ℕ → (ℕ → ℕ) → Type 0
Grows w f = (A : ℕ) → A < 2 ^ w → A ⊆ f A

module _ {f : ℕ → ℕ} {repeats : ℕ → ℕ → ℕ} (p : Repeats f repeats) where
  repeats_same : (n : ℕ) {A : ℕ} → f A ≡ A → repeats n A ≡ A
  repeats_same zero {A} e = p.none A
  repeats_same (suc n) {A} e =
      p.more n A ∙ ap (λ (b : Bool). elim b [ true ↦ A | false ↦ repeats n (f A) ]) (eq-eqb (f A) A e)

  repeats_more : (n : ℕ) {A : ℕ} → (f A ≡ A → ⊥) → repeats (suc n) A ≡ repeats n (f A)
  repeats_more n {A} d =
      p.more n A ∙ ap (λ (b : Bool). elim b [ true ↦ A | false ↦ repeats n (f A) ]) (ne_eqb (f A) A d)

  -- ---- what it lies in

  -- a set that each step keeps inside S stays inside S
  pub repeats_⊆ : {S : ℕ} → ((A : ℕ) → A ⊆ S → f A ⊆ S) → (n A : ℕ) → A ⊆ S → repeats n A ⊆ S
  repeats_⊆ {S} keeps zero A h = subst (λ (x : ℕ). x ⊆ S) (sym (p.none A)) h
  repeats_⊆ {S} keeps (suc n) A h =
      ⊎_elim
      (λ e. subst (λ (x : ℕ). x ⊆ S) (sym (repeats_same (suc n) e)) h)
      (λ d. subst (λ (x : ℕ). x ⊆ S) (sym (repeats_more n d)) (repeats_⊆ keeps n (f A) (keeps A h)))
      (eq_or_ne (f A) A)

  -- ---- where it ends

  -- G is a set of w bits around A to which a step adds nothing
  pub record EndsIn (w A G : ℕ) : Type 0 where
    pub below : G < 2 ^ w
    pub around : A ⊆ G
    pub fixed : f G ≡ G

  module _ (w : ℕ) (grows : Grows w f) where
    pub repeats_ends : ((A : ℕ) → A < 2 ^ w → f A < 2 ^ w) → (n A : ℕ) → A < 2 ^ w → 2 ^ w ≤ A + n
        → EndsIn w A (repeats n A)
    repeats_ends fits zero A h enough = absurd (omega arith)
    repeats_ends fits (suc n) A h enough =
        ⊎_elim same (λ d. more d (λ l. repeats_ends fits n (f A) (fits A h) (omega arith))) (eq_or_ne (f A) A)
      where
        same : f A ≡ A → EndsIn w A (repeats (suc n) A)
        same e =
            subst (EndsIn w A) (sym (repeats_same (suc n) e)) (record { below = h; around = ⊆_refl A; fixed = e })

        more : (f A ≡ A → ⊥) → (A < f A → EndsIn w (f A) (repeats n (f A))) → EndsIn w A (repeats (suc n) A)
        more d next =
            let r = next (⊆_lt (grows A h) (λ e. d (sym e))) in
            subst (EndsIn w A) (sym (repeats_more n d))
            (record { below = r.below; around = ⊆_trans (grows A h) r.around; fixed = r.fixed })

    -- ---- the loop that repeats a step. The measure: 2 ^ w less the set

    -- some number of turns leads from A to the whole, and the next set is one step
    pub record Repeating (whole A next : ℕ) : Type 0 where
      pub turns : ℕ
      pub enough : 2 ^ w ≤ A + turns
      pub leads : repeats turns A ≡ whole
      pub step : next ≡ f A
      pub below : A < 2 ^ w
      pub next_below_law : next < 2 ^ w

    pub repeating_start : {whole A next : ℕ} → A < 2 ^ w → next < 2 ^ w → next ≡ f A → repeats (2 ^ w) A ≡ whole
        → Repeating whole A next
    repeating_start h l e q =
        record { turns = 2 ^ w; enough = omega arith; leads = q; step = e; below = h; next_below_law = l }

    module _ {whole A next : ℕ} (v : Repeating whole A next) where
      larger : (next ≡ A → ⊥) → A < f A
      larger d = ⊆_lt (grows A v.below) (λ e. d (v.step ∙ sym e))

      pub repeating_less : (next ≡ A → ⊥) → 2 ^ w - next < 2 ^ w - A
      repeating_less d = omega (arith, larger d)

      pub repeating_end : next ≡ A → A ≡ whole
      repeating_end e = sym (repeats_same v.turns (sym v.step ∙ e)) ∙ v.leads

      pub repeating_next : (r : ℕ) → (next ≡ A → ⊥) → r < 2 ^ w → r ≡ f next → Repeating whole next r
      repeating_next r d h e = go v.turns v.enough v.leads
        where
          go : (n : ℕ) → 2 ^ w ≤ A + n → repeats n A ≡ whole → Repeating whole next r
          go zero enough leads = absurd (omega (arith, v.below))
          go (suc n) enough leads = record {
            turns = n;
            enough = omega (arith, larger d, v.step);
            leads = ap (repeats n) v.step ∙ sym (repeats_more n (λ q. d (v.step ∙ q))) ∙ leads;
            step = e;
            below = v.next_below_law;
            next_below_law = h;
          }
