-- Pieces that are found one after another from the start to the end are those that spell the text. Where two operators
-- stand side by side, the converse may fail: `<` and `=` without a space are found as `<=`. The grammar has no such
-- pieces (`Calm`).
-- In order: pieces found one after another; calm pieces; what the grammar has is calm; spelling.
-- Assumes nothing.
use mathlib.Core.Path.{◌≡◌, refl, sym, subst}
use mathlib.Core.Bool.{true, false}
use mathlib.Core.List.{List, [], ◌∷◌, ◌++◌}
use Prim.Native.Nat.{ℕ, zero, suc, ◌+◌, ◌≤◌}
use native.Mathlib.Omega.{arith}
use lib.ListN.{length, get_or, drop, replicate}
use Rattle.sets.proofs.Tests.{yes_no}
use Rattle.grammar.specs.Pieces.{Word, And, Or, Not, Comma, Opening, Closing, Where, Retrieve, Piece, word}
use Rattle.grammar.specs.Pieces.{is_space, Item, bytes_of, is_piece, apart, Spells, ended, begun}
use Rattle.grammar.specs.Grammar.{Condition, Comparison, Reading, IsItems, one_item, more_items}
use Rattle.grammar.specs.Grammar.{item_operand, constant_operand, IsComparison, comparison, IsOr, one_and, more_or}
use Rattle.grammar.specs.Grammar.{one_not, more_and, one_primary, not_more, one_comparison}
use Rattle.grammar.specs.Grammar.{in_parentheses, IsText, without, conditional}
use Rattle.grammar.specs.Parser.{run, found, at_end, next_at}
use Rattle.grammar.proofs.Candidates.{is_operator, ends_operator, candidate_of, candidate_begun}
use Rattle.grammar.proofs.Nexts.{found_within, found_stands, stands_found, behind_rest, spaces_end, end_spaces}

-- ---- pieces found one after another

-- from position at on, the pieces are found one after another, and next is the position behind the last
pub data Finds (s : List ℕ) : ℕ → List Piece → ℕ → Type 0 where
  none_left : {at : ℕ} → Finds s at [] at
  one_more : {at mid next : ℕ} {p : Piece} {ps : List Piece} → next_at s at ≡ found p mid → Finds s mid ps next
      → Finds s at (p ∷ ps) next

pub finds_append : {s : List ℕ} {at mid next : ℕ} {ps qs : List Piece} → Finds s at ps mid → Finds s mid qs next
    → Finds s at (ps ++ qs) next
finds_append none_left g = g
finds_append (one_more e f) g = one_more e (finds_append f g)

-- what is found in two parts
pub record Parts (s : List ℕ) (at : ℕ) (ps qs : List Piece) (next : ℕ) : Type 0 where
  pub mid : ℕ
  pub first : Finds s at ps mid
  pub second : Finds s mid qs next

pub record Ahead (s : List ℕ) (at : ℕ) (p : Piece) (ps : List Piece) (next : ℕ) : Type 0 where
  pub mid : ℕ
  pub is : next_at s at ≡ found p mid
  pub rest : Finds s mid ps next

pub finds_ahead : {s : List ℕ} {at next : ℕ} {p : Piece} {ps : List Piece} → Finds s at (p ∷ ps) next
    → Ahead s at p ps next
finds_ahead (one_more {mid = mid} e f) = record { mid = mid; is = e; rest = f }

pub finds_parts : {s : List ℕ} (at : ℕ) (ps : List Piece) {qs : List Piece} {next : ℕ} → Finds s at (ps ++ qs) next
    → Parts s at ps qs next
finds_parts at [] f = record { mid = at; first = none_left; second = f }
finds_parts at (p ∷ ps) f =
    let a = finds_ahead f in
    let r = finds_parts a.mid ps a.rest in
    record { mid = r.mid; first = one_more a.is r.first; second = r.second }

-- a byte or more to each piece
pub finds_length : {s : List ℕ} {at next : ℕ} {ps : List Piece} → at ≤ length s → Finds s at ps next
    → (next ≤ length s) × (at + length ps ≤ next)
finds_length h none_left = (h, omega arith)
finds_length {s} {at} h (one_more e f) =
    let w = found_within s at e in
    let r = finds_length w.inside f in
    (r.0, omega (arith, r.1, w.after))

-- ---- calm pieces: behind each operator stands a piece that is none

unfoldable pub IsCalmBehind : Piece → List Piece → Type 0
IsCalmBehind p [] = is_operator p ≡ false
IsCalmBehind p (q ∷ qs) = is_operator p ≡ true → is_operator q ≡ false

unfoldable pub Calm : List Piece → Type 0
Calm [] = Unit {0}
Calm (p ∷ ps) = IsCalmBehind p ps × Calm ps

calm_behind : (p : Piece) (ps : List Piece) → is_operator p ≡ false → IsCalmBehind p ps
unfolding IsCalmBehind
calm_behind p [] h = h
calm_behind p (q ∷ qs) h = λ y. absurd (yes_no y h)

behind_append : (p : Piece) (ps qs : List Piece) → IsCalmBehind p ps → IsCalmBehind p (ps ++ qs)
unfolding IsCalmBehind
behind_append p [] qs h = calm_behind p qs h
behind_append p (r ∷ ps) qs h = h

calm_append : (ps qs : List Piece) → Calm ps → Calm qs → Calm (ps ++ qs)
unfolding Calm
calm_append [] qs h k = k
calm_append (p ∷ ps) qs h k = (behind_append p ps qs h.0, calm_append ps qs h.1 k)

calm_none : Calm []
unfolding Calm
calm_none = tt

calm_word : (w : Word) (ps : List Piece) → Calm ps → Calm (word w ∷ ps)
unfolding Calm is_operator
calm_word w ps h = (calm_behind (word w) ps refl, h)

-- ---- what the grammar has is calm

calm_items : {ps : List Piece} {is : List Item} → IsItems ps is → Calm ps
unfolding Calm IsCalmBehind is_operator
calm_items one_item = (refl, tt)
calm_items (more_items {ps = ps} t) = (λ y. absurd (yes_no y refl), calm_word Comma ps (calm_items t))

calm_comparison : {ps : List Piece} {x : Comparison} → IsComparison ps x → Calm ps
unfolding Calm IsCalmBehind is_operator
calm_comparison (comparison item_operand) = (λ y. absurd (yes_no y refl), (λ y. refl, (refl, tt)))
calm_comparison (comparison constant_operand) = (λ y. absurd (yes_no y refl), (λ y. refl, (refl, tt)))

calm_or : {ps : List Piece} {c : Condition} {d : ℕ} → IsOr ps c d → Calm ps
calm_or t =
    elim t as (λ ps c d y. Calm ps) (λ ps c d y. Calm ps) (λ ps c d y. Calm ps) (λ ps c d y. Calm ps) [
      | one_and (t → h) ↦ h
      | more_or {ps = ps} {qs = qs} (t → h) (u → k) ↦ calm_append ps (word Or ∷ qs) h (calm_word Or qs k)
      | one_not (t → h) ↦ h
      | more_and {ps = ps} {qs = qs} (t → h) (u → k) ↦ calm_append ps (word And ∷ qs) h (calm_word And qs k)
      | one_primary (t → h) ↦ h
      | not_more {ps = ps} (t → h) ↦ calm_word Not ps h
      | one_comparison t ↦ calm_comparison t
      | in_parentheses {ps = ps} (t → h) ↦ calm_word Opening (ps ++ word Closing ∷ [])
          (calm_append ps (word Closing ∷ []) h (calm_word Closing [] calm_none))
    ]

pub calm_text : {ps : List Piece} {r : Reading} → IsText ps r → Calm ps
calm_text (without {ps = ps} t) =
    calm_word Retrieve (word Opening ∷ (ps ++ word Closing ∷ []))
    (calm_word Opening (ps ++ word Closing ∷ [])
    (calm_append ps (word Closing ∷ []) (calm_items t) (calm_word Closing [] calm_none)))
calm_text (conditional {ps = ps} {qs = qs} t u) =
    calm_word Retrieve (word Opening ∷ (ps ++ word Closing ∷ word Where ∷ qs))
    (calm_word Opening (ps ++ word Closing ∷ word Where ∷ qs)
    (calm_append ps (word Closing ∷ word Where ∷ qs) (calm_items t)
    (calm_word Closing (word Where ∷ qs) (calm_word Where qs (calm_or u)))))

-- ---- spelling

pub finds_spells : {s : List ℕ} {at next : ℕ} {ps : List Piece} → Finds s at ps next → next_at s next ≡ at_end
    → Spells ps (drop at s)
finds_spells {s} {at} none_left e = subst (Spells []) (sym (end_spaces s at e)) (ended (run is_space (drop at s)))
finds_spells {s} {at} {ps = ps} (one_more f g) e =
    let h = found_stands s at f in
    subst (Spells ps) (sym h.same) (begun h.spaces h.valid h.alone (finds_spells g e))

-- what follows an operator does not make it longer
quiet_piece : (spaces : ℕ) (q : Piece) (rest : List ℕ) → is_piece q ≡ true → apart q rest ≡ true → is_operator q ≡ false
    → ends_operator (get_or (replicate spaces 32 ++ (bytes_of q ++ rest)) 0 0) ≡ false
unfolding ends_operator
quiet_piece zero q rest h a n =
    candidate_begun (bytes_of q ++ rest) (candidate_of q rest h a (λ y. absurd (yes_no y n))) n
quiet_piece (suc spaces) q rest h a n = refl

quiet : (p : Piece) {ps : List Piece} {t : List ℕ} → Spells ps t → IsCalmBehind p ps → is_operator p ≡ true
    → ends_operator (get_or t 0 0) ≡ false
unfolding IsCalmBehind
quiet p (ended spaces) h y = absurd (yes_no y h)
quiet p (begun spaces {p = q} {rest = rest} v a t) h y = quiet_piece spaces q rest v a (h y)

pub record FoundAll (s : List ℕ) (at : ℕ) (ps : List Piece) : Type 0 where
  pub next : ℕ
  pub finds : Finds s at ps next
  pub end : next_at s next ≡ at_end

pub spells_finds : {ps : List Piece} {t : List ℕ} → Spells ps t → Calm ps → (s : List ℕ) (at : ℕ) → drop at s ≡ t
    → FoundAll s at ps
unfolding Calm
spells_finds (ended spaces) c s at e = record { next = at; finds = none_left; end = spaces_end s at spaces e }
spells_finds (begun spaces {p = p} {rest = rest} v a t) c s at e =
    let r = spells_finds t c.1 s (at + spaces + length (bytes_of p)) (behind_rest s at spaces (bytes_of p) rest e) in
    record {
      next = r.next;
      finds = one_more (stands_found s at spaces p rest v a (quiet p t c.0) e) r.finds;
      end = r.end;
    }
