-- The piece at a position: it is found exactly where it stands, after spaces and apart from what follows.
-- In order: what is found; what stands is found; the end.
-- Assumes nothing.
use mathlib.Core.Path.{◌≡◌, refl, sym, ap, ◌∙◌, subst}
use mathlib.Core.Bool.{Bool, true, false, ◌&&◌, cond}
use mathlib.Core.List.{List, [], ◌∷◌, ◌++◌, append-nil}
use mathlib.Core.Option.{Option, none, some}
use Prim.Native.Nat.{ℕ, ◌+◌, ◌-◌, ◌≤◌, ◌<◌}
use native.Mathlib.Omega.{arith}
use lib.ListN.{length, get_or, drop, replicate, length-replicate, length-append, length-drop}
use lib.Seq.{drop-append_seam, drop-drop, drop_at}
use Rattle.sets.proofs.Tests.{yes_no, yes_and, and_yes}
use Rattle.grammar.specs.Pieces.{is_space, Word, Retrieve, Where, Not, And, Or, Opening, Closing, Comma, Operator}
use Rattle.grammar.specs.Pieces.{Equal, Unequal, Less, AtMost, Greater, AtLeast, Variable, blank, letter, Constant}
use Rattle.grammar.specs.Pieces.{number, Piece, word, operator, item, constant, word_bytes, operator_bytes}
use Rattle.grammar.specs.Pieces.{variable_bytes, constant_bytes, bytes_of, is_name, are_digits, is_piece, is_variable}
use Rattle.grammar.specs.Pieces.{is_constant, apart}
use Rattle.grammar.specs.Parser.{run, begins, candidate, stands, at_end, wrong, found, checked, next_front, next_at}
use Rattle.grammar.proofs.Bytes.{run_spaces, spaces_run, begins_append, begins_split}
use Rattle.grammar.proofs.Candidates.{is_operator, ends_operator, candidate_of, candidate_space}

-- ---- what is found

-- behind some spaces a piece stands at position at, apart from what follows at position next
pub record Standing (s : List ℕ) (at : ℕ) (p : Piece) (next : ℕ) : Type 0 where
  pub spaces : ℕ
  pub place : next ≡ at + spaces + length (bytes_of p)
  pub valid : is_piece p ≡ true
  pub alone : apart p (drop next s) ≡ true
  pub same : drop at s ≡ replicate spaces 32 ++ (bytes_of p ++ drop next s)

record Found (at : ℕ) (l : List ℕ) (p : Piece) (next : ℕ) : Type 0 where
  here : stands p l ≡ true
  place : next ≡ at + length (bytes_of p)

checked_test : (at : ℕ) (l : List ℕ) (q : Piece) {p : Piece} {next : ℕ} (t : Bool) → stands q l ≡ t
    → cond t (found q (at + length (bytes_of q))) wrong ≡ found p next → Found at l p next
checked_test at l q {p} {next} false h e = let z : ◌≡◌ {A = ℕ} 0 1 = cc in absurd (omega arith)
checked_test at l q {p} {next} true h e =
    let same : q ≡ p = cc in
    let place : at + length (bytes_of q) ≡ next = cc in
    record {
      here = sym (ap (λ (x : Piece). stands x l) same) ∙ h;
      place = sym place ∙ ap (λ (x : Piece). at + length (bytes_of x)) same;
    }

checked_found : (at : ℕ) (l : List ℕ) (x : Option Piece) {p : Piece} {next : ℕ} → checked at l x ≡ found p next
    → Found at l p next
unfolding checked
checked_found at l none e = let z : ◌≡◌ {A = ℕ} 0 1 = cc in absurd (omega arith)
checked_found at l (some q) e = checked_test at l q (stands q l) refl e

front_found : (at : ℕ) (l : List ℕ) {p : Piece} {next : ℕ} → next_front at l ≡ found p next → Found at l p next
unfolding next_front
front_found at [] e = let z : ◌≡◌ {A = ℕ} 0 1 = cc in absurd (omega arith)
front_found at (b ∷ l) e = checked_found at (b ∷ l) (candidate (b ∷ l)) e

pub found_stands : (s : List ℕ) (at : ℕ) {p : Piece} {next : ℕ} → next_at s at ≡ found p next → Standing s at p next
unfolding next_at stands
found_stands s at {p} {next} e =
    let n : ℕ = run is_space (drop at s) in
    let l : List ℕ = drop n (drop at s) in
    let f : Found (at + n) l p next = front_found (at + n) l e in
    let parts = yes_and (is_piece p) (begins (bytes_of p) l && apart p (drop (length (bytes_of p)) l)) f.here in
    let later = yes_and (begins (bytes_of p) l) (apart p (drop (length (bytes_of p)) l)) parts.1 in
    let rest : drop (length (bytes_of p)) l ≡ drop next s =
    ap (drop (length (bytes_of p))) (drop-drop n at s) ∙ drop-drop (length (bytes_of p)) (at + n) s
    ∙ ap (λ (k : ℕ). drop k s) (sym f.place) in
    record {
      spaces = n;
      place = f.place;
      valid = parts.0;
      alone = subst (λ (r : List ℕ). apart p r ≡ true) rest later.1;
      same = spaces_run (drop at s)
          ∙ ap (λ (r : List ℕ). replicate n 32 ++ r)
          (begins_split (bytes_of p) l later.0 ∙ ap (λ (r : List ℕ). bytes_of p ++ r) rest);
    }

-- a piece has a byte or more
variable_name : (v : Variable) (name : List ℕ) → is_name name ≡ true → 1 ≤ length (variable_bytes v ++ name)
unfolding variable_bytes is_name
variable_name v [] h = absurd (yes_no h refl)
variable_name blank (c ∷ cs) h = omega arith
variable_name (letter b) (c ∷ cs) h = omega arith

constant_some : (k : Constant) → is_constant k ≡ true → 1 ≤ length (constant_bytes k)
unfolding constant_bytes is_constant are_digits
constant_some (number true digits) h = omega arith
constant_some (number false []) h = absurd (yes_no h refl)
constant_some (number false (d ∷ ds)) h = omega arith

word_some : (w : Word) → 1 ≤ length (word_bytes w)
unfolding word_bytes
word_some Retrieve = omega arith
word_some Where = omega arith
word_some Not = omega arith
word_some And = omega arith
word_some Or = omega arith
word_some Opening = omega arith
word_some Closing = omega arith
word_some Comma = omega arith

operator_some : (o : Operator) → 1 ≤ length (operator_bytes o)
unfolding operator_bytes
operator_some Equal = omega arith
operator_some Unequal = omega arith
operator_some Less = omega arith
operator_some AtMost = omega arith
operator_some Greater = omega arith
operator_some AtLeast = omega arith

pub piece_some : (p : Piece) → is_piece p ≡ true → 1 ≤ length (bytes_of p)
unfolding bytes_of is_piece
piece_some (word w) h = word_some w
piece_some (operator o) h = operator_some o
piece_some (item i) h =
    variable_name i.variable i.name (yes_and (is_variable i.variable) (is_name i.name) h).1
piece_some (constant k) h = constant_some k h

pub record Within (s : List ℕ) (at next : ℕ) : Type 0 where
  pub after : at < next
  pub inside : next ≤ length s

pub found_within : (s : List ℕ) (at : ℕ) {p : Piece} {next : ℕ} → next_at s at ≡ found p next → Within s at next
found_within s at {p} {next} e =
    let h = found_stands s at e in
    let some' = piece_some p h.valid in
    let long : length s - at ≡ h.spaces + (length (bytes_of p) + (length s - next)) =
    sym (length-drop at s) ∙ ap length h.same ∙ length-append (replicate h.spaces 32) (bytes_of p ++ drop next s)
    ∙ omega (arith, length-replicate {A = ℕ} h.spaces 32, length-append (bytes_of p) (drop next s), length-drop next s) in
    record { after = omega (arith, h.place); inside = omega (arith, h.place) }

-- ---- what stands is found

stands_front : (p : Piece) (rest : List ℕ) → is_piece p ≡ true → apart p rest ≡ true → stands p (bytes_of p ++ rest) ≡ true
unfolding stands
stands_front p rest h a =
    and_yes h (and_yes (begins_append (bytes_of p) rest) (rw (drop-append_seam (bytes_of p) rest) a))

front_some : (at : ℕ) (l : List ℕ) {p : Piece} → candidate l ≡ some p → stands p l ≡ true
    → next_front at l ≡ found p (at + length (bytes_of p))
unfolding next_front checked candidate
front_some at [] e h = let z : ◌≡◌ {A = ℕ} 0 1 = cc in absurd (omega arith)
front_some at (b ∷ l) {p} e h = ap (checked at (b ∷ l)) e ∙ rw h

pub stands_found : (s : List ℕ) (at spaces : ℕ) (p : Piece) (rest : List ℕ) → is_piece p ≡ true → apart p rest ≡ true
    → (is_operator p ≡ true → ends_operator (get_or rest 0 0) ≡ false)
    → drop at s ≡ replicate spaces 32 ++ (bytes_of p ++ rest)
    → next_at s at ≡ found p (at + spaces + length (bytes_of p))
unfolding next_at
stands_found s at spaces p rest h a k e =
    let c = candidate_of p rest h a k in
    let n : run is_space (drop at s) ≡ spaces =
    ap (run is_space) e ∙ run_spaces spaces (bytes_of p ++ rest) (candidate_space (bytes_of p ++ rest) c) in
    let front : drop spaces (drop at s) ≡ bytes_of p ++ rest =
    ap (drop spaces) e ∙ drop_at (replicate spaces 32) (bytes_of p ++ rest) spaces (length-replicate spaces 32) in
    rw (n, front) (front_some (at + spaces) (bytes_of p ++ rest) c (stands_front p rest h a))

-- the rest, behind it
pub behind_rest : (s : List ℕ) (at spaces : ℕ) (bs rest : List ℕ) → drop at s ≡ replicate spaces 32 ++ (bs ++ rest)
    → drop (at + spaces + length bs) s ≡ rest
behind_rest s at spaces bs rest e =
    sym (drop-drop (length bs) (at + spaces) s)
    ∙ ap (drop (length bs)) (sym (drop-drop spaces at s) ∙ ap (drop spaces) e
    ∙ drop_at (replicate spaces 32) (bs ++ rest) spaces (length-replicate spaces 32))
    ∙ drop-append_seam bs rest

-- ---- the end

pub spaces_end : (s : List ℕ) (at spaces : ℕ) → drop at s ≡ replicate spaces 32 → next_at s at ≡ at_end
unfolding next_at next_front
spaces_end s at spaces e =
    let n : run is_space (drop at s) ≡ spaces =
    ap (run is_space) (e ∙ sym (append-nil (replicate spaces 32))) ∙ run_spaces spaces [] (unfold is_space in refl) in
    let front : drop spaces (drop at s) ≡ [] =
    ap (drop spaces) (e ∙ sym (append-nil (replicate spaces 32)))
    ∙ drop_at (replicate spaces 32) [] spaces (length-replicate spaces 32) in
    rw (n, front)

checked_not_end : (at : ℕ) (l : List ℕ) (x : Option Piece) → checked at l x ≡ at_end → ⊥
unfolding checked
checked_not_end at l none e = let z : ◌≡◌ {A = ℕ} 0 1 = cc in absurd (omega arith)
checked_not_end at l (some p) e = go (stands p l) e
  where
    go : (t : Bool) → cond t (found p (at + length (bytes_of p))) wrong ≡ at_end → ⊥
    go true q = let z : ◌≡◌ {A = ℕ} 0 1 = cc in absurd (omega arith)
    go false q = let z : ◌≡◌ {A = ℕ} 0 1 = cc in absurd (omega arith)

front_end : (at : ℕ) (l : List ℕ) → next_front at l ≡ at_end → l ≡ []
unfolding next_front
front_end at [] e = refl
front_end at (b ∷ l) e = absurd (checked_not_end at (b ∷ l) (candidate (b ∷ l)) e)

pub end_spaces : (s : List ℕ) (at : ℕ) → next_at s at ≡ at_end → drop at s ≡ replicate (run is_space (drop at s)) 32
unfolding next_at
end_spaces s at e =
    let n : ℕ = run is_space (drop at s) in
    spaces_run (drop at s)
    ∙ ap (λ (r : List ℕ). replicate n 32 ++ r) (front_end (at + n) (drop n (drop at s)) e)
    ∙ append-nil (replicate n 32)
