-- Laws of bytes and of runs of them.
-- In order: letters and digits, every byte, runs, what bytes begin with.
-- Assumes nothing.
use mathlib.Core.Path.{◌≡◌, refl, sym, ap, ◌∙◌}
use mathlib.Core.Bool.{Bool, true, false, ◌&&◌, ◌||◌}
use mathlib.Core.List.{List, [], ◌∷◌, ◌++◌}
use Prim.Native.Nat.{ℕ, zero, suc, ◌≤◌, ◌<◌}
use native.Mathlib.Omega.{arith}
use borrow.Author.Tests.{leb-true, lt-leb, eqb-true, eq-eqb}
use lib.Dec.{leb, eqb}
use lib.ListN.{length, get_or, drop, replicate, length-replicate}
use Rattle.sets.proofs.Tests.{yes_no, yes_and, and_yes, or_left, or_right, no_or}
use Rattle.grammar.specs.Pieces.{is_capital, is_small, is_digit, is_space, is_letter_or_digit, every, last_of}
use Rattle.grammar.specs.Parser.{run, begins}

-- ---- letters and digits

-- a byte between two bounds is none below them, and none above
between : (a b lo hi : ℕ) → (leb lo b && leb b hi) ≡ true → hi < a → leb a b ≡ false
between a b lo hi h k = lt-leb a b (omega (arith, leb-true b hi (yes_and (leb lo b) (leb b hi) h).1))

and_none : (t : Bool) → (t && false) ≡ false
and_none true = refl
and_none false = refl

pub small_not_capital : (b : ℕ) → is_small b ≡ true → is_capital b ≡ false
unfolding is_small is_capital
small_not_capital b h =
    let above : 97 ≤ b = leb-true 97 b (yes_and (leb 97 b) (leb b 122) h).0 in
    let no : leb b 90 ≡ false = lt-leb b 90 (omega arith) in
    rw no (and_none (leb 65 b))

pub digit_not_capital : (b : ℕ) → is_digit b ≡ true → is_capital b ≡ false
unfolding is_digit is_capital
digit_not_capital b h = rw (between 65 b 48 57 h (omega arith))

pub digit_not_small : (b : ℕ) → is_digit b ≡ true → is_small b ≡ false
unfolding is_digit is_small
digit_not_small b h = rw (between 97 b 48 57 h (omega arith))

pub capital_counts : (b : ℕ) → is_capital b ≡ true → is_letter_or_digit b ≡ true
unfolding is_letter_or_digit
capital_counts b h = or_left (is_small b || is_digit b) h

pub digit_counts : (b : ℕ) → is_digit b ≡ true → is_letter_or_digit b ≡ true
unfolding is_letter_or_digit
digit_counts b h = or_right (is_capital b) (or_right (is_small b) h)

-- what counts as neither is neither
pub counts_not : (b : ℕ) → is_letter_or_digit b ≡ false → (is_capital b ≡ false) × (is_digit b ≡ false)
unfolding is_letter_or_digit
counts_not b h =
    let parts = no_or (is_capital b) (is_small b || is_digit b) h in
    (parts.0, (no_or (is_small b) (is_digit b) parts.1).1)

pub space_is : (b : ℕ) → is_space b ≡ true → b ≡ 32
unfolding is_space
space_is b h =
    let parts = yes_and (leb 32 b) (leb b 32) h in
    omega (arith, leb-true 32 b parts.0, leb-true b 32 parts.1)

-- ---- every byte

pub every_last : (test : ℕ → Bool) (b : ℕ) (bs : List ℕ) → every test (b ∷ bs) ≡ true → test (last_of (b ∷ bs)) ≡ true
unfolding every last_of
every_last test b [] h = (yes_and (test b) true h).0
every_last test b (c ∷ bs) h = every_last test c bs (yes_and (test b) (every test (c ∷ bs)) h).1

pub every_first : (test : ℕ → Bool) (b : ℕ) (bs : List ℕ) → every test (b ∷ bs) ≡ true → test b ≡ true
unfolding every
every_first test b bs h = (yes_and (test b) (every test bs) h).0

pub every_spaces : (n : ℕ) → every is_space (replicate n 32) ≡ true
unfolding every is_space
every_spaces zero = refl
every_spaces (suc n) = every_spaces n

-- ---- runs

pub run_yes : (test : ℕ → Bool) (b : ℕ) (l : List ℕ) → test b ≡ true → run test (b ∷ l) ≡ suc (run test l)
unfolding run
run_yes test b l h = rw (h, run)

pub run_no : (test : ℕ → Bool) (b : ℕ) (l : List ℕ) → test b ≡ false → run test (b ∷ l) ≡ 0
unfolding run
run_no test b l h = rw (h, run)

pub run_append : (test : ℕ → Bool) (l rest : List ℕ) → every test l ≡ true → test (get_or rest 0 0) ≡ false
    → run test (l ++ rest) ≡ length l
unfolding every run
run_append test [] [] h k = refl
run_append test [] (c ∷ rest) h k = rw k
run_append test (b ∷ l) rest h k =
    let parts = yes_and (test b) (every test l) h in
    rw parts.0 (ap suc (run_append test l rest parts.1 k))

pub run_spaces : (n : ℕ) (rest : List ℕ) → is_space (get_or rest 0 0) ≡ false → run is_space (replicate n 32 ++ rest) ≡ n
run_spaces n rest k = run_append is_space (replicate n 32) rest (every_spaces n) k ∙ length-replicate n 32

-- a run of spaces is that many spaces
spaces_step : (b : ℕ) (l : List ℕ) → l ≡ replicate (run is_space l) 32 ++ drop (run is_space l) l → (t : Bool)
    → is_space b ≡ t → (b ∷ l) ≡ replicate (run is_space (b ∷ l)) 32 ++ drop (run is_space (b ∷ l)) (b ∷ l)
unfolding is_space
spaces_step b l h true e = rw (run_yes is_space b l e) (λ i. space_is b e i ∷ h i)
spaces_step b l h false e = rw (run_no is_space b l e) refl

pub spaces_run : (l : List ℕ) → l ≡ replicate (run is_space l) 32 ++ drop (run is_space l) l
unfolding run
spaces_run [] = refl
spaces_run (b ∷ l) = spaces_step b l (spaces_run l) (is_space b) refl

-- ---- what bytes begin with

pub begins_append : (bs l : List ℕ) → begins bs (bs ++ l) ≡ true
unfolding begins
begins_append [] l = refl
begins_append (b ∷ bs) l = and_yes (eq-eqb b b refl) (begins_append bs l)

pub begins_split : (bs l : List ℕ) → begins bs l ≡ true → l ≡ bs ++ drop (length bs) l
unfolding begins
begins_split [] l h = refl
begins_split (b ∷ bs) [] h = absurd (yes_no h refl)
begins_split (b ∷ bs) (c ∷ l) h =
    let parts = yes_and (eqb b c) (begins bs l) h in
    λ i. sym (eqb-true b c parts.0) i ∷ begins_split bs l parts.1 i
