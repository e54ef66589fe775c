-- The closure under dependencies: the least closed set around a set of attributes. A pass only adds, and a set to which
-- a pass adds nothing is closed.
-- In order: one dependency, one pass, the closure.
-- Assumes nothing.
use mathlib.Core.Path.{◌≡◌, refl, sym, ap, ◌∙◌, subst}
use mathlib.Core.Bool.{Bool, true, false}
use mathlib.Core.List.Memᴰ
use mathlib.Core.List.{List, [], ◌∷◌, Memᴰ}
use Prim.Native.Nat.{ℕ, ◌^◌, ◌<◌}
use native.Mathlib.Nat.{lt_of_le_of_lt}
use native.Mathlib.Omega.{arith}
use Rattle.sets.specs.Sets.{◌⊆◌, within, ◌∪◌, ATTRIBUTES}
use Rattle.sets.proofs.Sets.{⊆_refl, ⊆_trans, ext, ∪_⊆, ⊆_∪_left, ⊆_∪_right, within_yes, yes_within, ⊆_le, ∪_lt}
use Rattle.scheme.specs.Dependencies.{Dependency, Closed, LeastClosed, pass, passes, closure}
use Rattle.scheme.specs.Statements.{DeterminesAttributes}
use Rattle.scheme.proofs.Repeating.{Repeats, Grows, EndsIn, repeats_⊆, repeats_ends}

-- ---- one dependency

abbrev following : Bool → Dependency → ℕ → ℕ
following b d A = elim b [ true ↦ A ∪ d.right | false ↦ A ]

-- the set after one dependency
abbrev pub after : Dependency → ℕ → ℕ
after d A = following (within d.left A) d A

after-⊇ : (d : Dependency) (A : ℕ) → A ⊆ after d A
after-⊇ d A = by (within d.left A)
  where
    by : (b : Bool) → A ⊆ following b d A
    by true = ⊆_∪_left A d.right
    by false = ⊆_refl A

after_lt : (d : Dependency) {A : ℕ} → d.right < 2 ^ ATTRIBUTES → A < 2 ^ ATTRIBUTES → after d A < 2 ^ ATTRIBUTES
after_lt d {A} r h = by (within d.left A)
  where
    by : (b : Bool) → following b d A < 2 ^ ATTRIBUTES
    by true = ∪_lt ATTRIBUTES h r
    by false = h

after_⊆ : (d : Dependency) {A S : ℕ} → A ⊆ S → (d.left ⊆ S → d.right ⊆ S) → after d A ⊆ S
after_⊆ d {A} {S} h follows = by (within d.left A) refl
  where
    by : (b : Bool) → within d.left A ≡ b → following b d A ⊆ S
    by true y = ∪_⊆ h (follows (⊆_trans (yes_within d.left A y) h))
    by false n = h

-- where it adds nothing, the right side is there with the left
after_follows : (d : Dependency) {A : ℕ} → after d A ≡ A → d.left ⊆ A → d.right ⊆ A
after_follows d {A} e h =
    let added : A ∪ d.right ≡ A = ap (λ (b : Bool). following b d A) (sym (within_yes h)) ∙ e in
    subst (λ (x : ℕ). d.right ⊆ x) added (⊆_∪_right A d.right)

-- ---- one pass

rest_closed : {d : Dependency} {D : List Dependency} {S : ℕ} → Closed (d ∷ D) S → Closed D S
rest_closed c = record { follows = λ e m. c.follows e (Memᴰ.tail m) }

rest_determines : {d : Dependency} {D : List Dependency} → DeterminesAttributes (d ∷ D) → DeterminesAttributes D
rest_determines o = record { bounded = λ e m. o.bounded e (Memᴰ.tail m) }

pub pass-⊇ : (D : List Dependency) (A : ℕ) → A ⊆ pass D A
unfolding pass
pass-⊇ [] A = ⊆_refl A
pass-⊇ (d ∷ D) A = ⊆_trans (after-⊇ d A) (pass-⊇ D (after d A))

pass_lt : (D : List Dependency) → DeterminesAttributes D → (A : ℕ) → A < 2 ^ ATTRIBUTES → pass D A < 2 ^ ATTRIBUTES
unfolding pass
pass_lt [] o A h = h
pass_lt (d ∷ D) o A h =
    pass_lt D (rest_determines o) (after d A) (after_lt d (o.bounded d (Memᴰ.head refl)) h)

pass_⊆ : (D : List Dependency) {S : ℕ} → Closed D S → (A : ℕ) → A ⊆ S → pass D A ⊆ S
unfolding pass
pass_⊆ [] c A h = h
pass_⊆ (d ∷ D) c A h =
    pass_⊆ D (rest_closed c) (after d A) (after_⊆ d h (c.follows d (Memᴰ.head refl)))

pass_fixed : (D : List Dependency) {A : ℕ} → pass D A ≡ A → Closed D A
unfolding pass
pass_fixed [] e = record { follows = λ d m. absurd (Memᴰ.not-nil m) }
pass_fixed (d ∷ D) {A} e =
    let same : after d A ≡ A = ext (subst (λ (x : ℕ). after d A ⊆ x) e (pass-⊇ D (after d A))) (after-⊇ d A) in
    let rest : Closed D A = pass_fixed D (ap (pass D) (sym same) ∙ e) in
    record { follows = follows same rest }
  where
    follows : after d A ≡ A → Closed D A → (g : Dependency) → Memᴰ g (d ∷ D) → g.left ⊆ A → g.right ⊆ A
    follows same rest g (Memᴰ.head q) h =
        subst (λ (x : Dependency). x.right ⊆ A) (sym q)
        (after_follows d same (subst (λ (x : Dependency). x.left ⊆ A) q h))
    follows same rest g (Memᴰ.tail m) h = rest.follows g m h

-- ---- the closure

pub passes_repeat : (D : List Dependency) → Repeats (pass D) (passes D)
unfolding passes
passes_repeat D = record { none = λ A. refl; more = λ n A. refl }

pub pass_grows : (D : List Dependency) → Grows ATTRIBUTES (pass D)
pass_grows D A h = pass-⊇ D A

module _ (D : List Dependency) (o : DeterminesAttributes D) where
  closure_ends : {A : ℕ} → A < 2 ^ ATTRIBUTES → EndsIn (passes_repeat D) ATTRIBUTES A (closure D A)
  unfolding closure
  closure_ends {A} h = repeats_ends (passes_repeat D) ATTRIBUTES (pass_grows D) (pass_lt D o) (2 ^ ATTRIBUTES) A h
      (omega arith)

  pub closure_least : {A : ℕ} → A < 2 ^ ATTRIBUTES → LeastClosed D A (closure D A)
  unfolding closure
  closure_least {A} h = record {
    around = (closure_ends h).around;
    closed = pass_fixed D (closure_ends h).fixed;
    least = λ S i c. repeats_⊆ (passes_repeat D) (pass_⊆ D c) (2 ^ ATTRIBUTES) A i;
  }

  pub closure_mono : {A B : ℕ} → B < 2 ^ ATTRIBUTES → A ⊆ B → closure D A ⊆ closure D B
  closure_mono {A} {B} h s =
      let b = closure_least h in
      (closure_least (lt_of_le_of_lt (⊆_le s) h)).least (closure D B) (⊆_trans s b.around) b.closed
