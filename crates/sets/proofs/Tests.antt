-- Tests put together with `&&` and `||`: what each says of its parts, both ways. (Of `not`: `borrow.Author.Tests`.)
-- Assumes nothing.
use mathlib.Core.Path.{◌≡◌, refl, sym, ◌∙◌}
use mathlib.Core.Bool.{Bool, true, false, ◌&&◌, ◌||◌, true≢false}
use mathlib.Core.Logic.{◌⊎◌, inl, inr}

-- a test passes or fails
pub yes_or_no : (b : Bool) → (b ≡ true) ⊎ (b ≡ false)
yes_or_no true = inl refl
yes_or_no false = inr refl

-- both at once is absurd
pub yes_no : {b : Bool} → b ≡ true → b ≡ false → ⊥
yes_no y n = true≢false (sym y ∙ n)

pub not_yes : {b : Bool} → (b ≡ true → ⊥) → b ≡ false
not_yes {b = true} n = absurd (n refl)
not_yes {b = false} n = refl

pub and_yes : {a b : Bool} → a ≡ true → b ≡ true → (a && b) ≡ true
and_yes {a = true} {b = true} p q = refl
and_yes {a = true} {b = false} p q = q
and_yes {a = false} {b} p q = p

pub yes_and : (a b : Bool) → (a && b) ≡ true → (a ≡ true) × (b ≡ true)
yes_and true b e = (refl, e)
yes_and false b e = (e, absurd (yes_no e refl))

pub no_and : (a b : Bool) → (a && b) ≡ false → (a ≡ false) ⊎ (b ≡ false)
no_and true b e = inr e
no_and false b e = inl refl

pub or_left : {a : Bool} (b : Bool) → a ≡ true → (a || b) ≡ true
or_left {a = true} b p = refl
or_left {a = false} b p = absurd (yes_no p refl)

pub or_right : (a : Bool) {b : Bool} → b ≡ true → (a || b) ≡ true
or_right true p = refl
or_right false p = p

pub yes_or : (a b : Bool) → (a || b) ≡ true → (a ≡ true) ⊎ (b ≡ true)
yes_or true b e = inl refl
yes_or false b e = inr e

pub or_no : {a b : Bool} → a ≡ false → b ≡ false → (a || b) ≡ false
or_no {a = true} p q = p
or_no {a = false} p q = q

pub no_or : (a b : Bool) → (a || b) ≡ false → (a ≡ false) × (b ≡ false)
no_or true b e = (e, absurd (yes_no refl e))
no_or false b e = (refl, e)
