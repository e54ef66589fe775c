-- What is parsed, the grammar has: the pieces between where a parser begins and where it ends are derived with the
-- condition that it gives.
-- In order: what is taken; derived pieces; items; comparisons; conditions; texts.
-- Assumes nothing.
use mathlib.Core.Path.{◌≡◌, refl, sym, ap, ◌∙◌}
use mathlib.Core.Bool.{Bool, true, false, cond}
use mathlib.Core.List.{List, [], ◌∷◌, ◌++◌}
use mathlib.Core.Option.{Option, none, some}
use Prim.Native.Nat.{ℕ, zero, suc, ◌+◌, ◌*◌}
use native.Mathlib.Omega.{arith}
use borrow.Author.Tests.{eqb-true}
use lib.Dec.{eqb}
use lib.ListN.{length, get_or}
use Rattle.grammar.specs.Pieces.{Word, And, Or, Not, Comma, Opening, Closing, Where, Retrieve, Operator, Item}
use Rattle.grammar.specs.Pieces.{Piece, word, operator, item, constant}
use Rattle.grammar.specs.Grammar.{compared, Operand}
use Rattle.grammar.specs.Grammar.{IsItems, one_item, more_items, IsOperand, item_operand, constant_operand}
use Rattle.grammar.specs.Grammar.{comparison, IsOr, one_and, more_or, IsAnd, one_not, more_and, IsNot}
use Rattle.grammar.specs.Grammar.{one_primary, not_more, IsPrimary, one_comparison, in_parentheses}
use Rattle.grammar.specs.Parser.{Next, found, at_end, wrong, next_at, word_number, behind, Parsed, failed, parsed, item_of}
use Rattle.grammar.specs.Parser.{operator_of, operand_of, ◌and_then◌, if_word, items_at, Deep, comparison_at, or_at, or_more}
use Rattle.grammar.specs.Parser.{and_at, and_more, not_at, primary_at, condition_at}
use Rattle.grammar.proofs.Spelled.{Finds, none_left, one_more, finds_append}

-- ---- what is taken

-- the word with a number
word_of : ℕ → Word
word_of n = get_or (Retrieve ∷ Where ∷ Not ∷ And ∷ Or ∷ Opening ∷ Closing ∷ Comma ∷ []) n Comma

word_back : (w : Word) → word_of (word_number w) ≡ w
unfolding word_of word_number
word_back Retrieve = refl
word_back Where = refl
word_back Not = refl
word_back And = refl
word_back Or = refl
word_back Opening = refl
word_back Closing = refl
word_back Comma = refl

same_word : (v w : Word) → eqb (word_number v) (word_number w) ≡ true → v ≡ w
same_word v w e = sym (word_back v) ∙ ap word_of (eqb-true (word_number v) (word_number w) e) ∙ word_back w

none_some : {A : Type 0} {x : Option ℕ} {n : ℕ} → x ≡ none → x ≡ some n → A
none_some {x = x} {n = n} e f = let z : ◌≡◌ {A = ℕ} 0 1 = cc in absurd (omega arith)

behind_test : (v w : Word) (mid next : ℕ) (t : Bool) → eqb (word_number v) (word_number w) ≡ t
    → cond {A = Option ℕ} t (some mid) none ≡ some next → found (word v) mid ≡ found (word w) next
behind_test v w mid next false h e = none_some {x = none} refl e
behind_test v w mid next true h e =
    let there : mid ≡ next = cc in
    λ i. found (word (same_word v w h i)) (there i)

pub behind_word : (w : Word) (x : Next) (next : ℕ) → behind w x ≡ some next → x ≡ found (word w) next
unfolding behind
behind_word w at_end next e = none_some {x = none} refl e
behind_word w wrong next e = none_some {x = none} refl e
behind_word w (found (word v) mid) next e = behind_test v w mid next (eqb (word_number v) (word_number w)) refl e
behind_word w (found (operator o) mid) next e = none_some {x = none} refl e
behind_word w (found (item i) mid) next e = none_some {x = none} refl e
behind_word w (found (constant k) mid) next e = none_some {x = none} refl e

-- ---- derived pieces

-- behind what was found from the start on, what was parsed is found, and together they are derived
unfoldable pub Derived : {A : Type 0} → List ℕ → (List Piece → A → Type 0) → ℕ → Parsed A → Type 0
Derived s D start failed = Unit {0}
Derived s D start (parsed a end) = (ps : List Piece) × (Finds s start ps end × D ps a)

module _ {A B : Type 0} (s : List ℕ) (D : List Piece → A → Type 0) (E : List Piece → B → Type 0) where
  pub derived_then : (start from : ℕ) (x : Parsed A) (k : A → ℕ → Parsed B) → Derived s D from x
      → ((ps : List Piece) (a : A) (mid : ℕ) → Finds s from ps mid → D ps a → Derived s E start (k a mid))
      → Derived s E start (x and_then k)
  unfolding Derived ◌and_then◌
  derived_then start from failed k h later = tt
  derived_then start from (parsed a mid) k h later = later h.0 a mid h.1.0 h.1.1

module _ {B : Type 0} (s : List ℕ) (D E : List Piece → B → Type 0) where
  pub derived_as : (at : ℕ) (x : Parsed B) → Derived s D at x
      → ((ps : List Piece) (b : B) → D ps b → E ps b) → Derived s E at x
  unfolding Derived
  derived_as at failed h k = tt
  derived_as at (parsed b end) h k = (h.0, (h.1.0, k h.0 b h.1.1))

module _ {B : Type 0} (s : List ℕ) (E : List Piece → B → Type 0) where
  word_case : (w : Word) (start at : ℕ) (y : ℕ → Parsed B) (n : Unit {0} → Parsed B)
      → ((next : ℕ) → next_at s at ≡ found (word w) next → Derived s E start (y next)) → Derived s E start (n tt)
      → (x : Option ℕ) → behind w (next_at s at) ≡ x → Derived s E start (if_word x y n)
  unfolding if_word
  word_case w start at y n yes' no' none e = no'
  word_case w start at y n yes' no' (some next) e = yes' next (behind_word w (next_at s at) next e)

  pub derived_word : (w : Word) (start at : ℕ) (y : ℕ → Parsed B) (n : Unit {0} → Parsed B)
      → ((next : ℕ) → next_at s at ≡ found (word w) next → Derived s E start (y next)) → Derived s E start (n tt)
      → Derived s E start (if_word (behind w (next_at s at)) y n)
  derived_word w start at y n yes' no' = word_case w start at y n yes' no' (behind w (next_at s at)) refl

  pub derived_failed : (start : ℕ) → Derived s E start failed
  unfolding Derived
  derived_failed start = tt

  pub derived_parsed : (start : ℕ) (ps : List Piece) (b : B) (end : ℕ) → Finds s start ps end → E ps b
      → Derived s E start (parsed b end)
  unfolding Derived
  derived_parsed start ps b end f e = (ps, (f, e))

-- ---- one piece

data IsItemPiece : List Piece → Item → Type 0 where
  item_piece : {i : Item} → IsItemPiece (item i ∷ []) i

data IsOperatorPiece : List Piece → Operator → Type 0 where
  operator_piece : {o : Operator} → IsOperatorPiece (operator o ∷ []) o

data IsOperandPiece : List Piece → Operand → Type 0 where
  operand_piece : {p : Piece} {x : Operand} → IsOperand p x → IsOperandPiece (p ∷ []) x

module _ (s : List ℕ) (at : ℕ) where
  one_piece : {p : Piece} {next : ℕ} → next_at s at ≡ found p next → Finds s at (p ∷ []) next
  one_piece e = one_more e none_left

  item_derived : (x : Next) → next_at s at ≡ x → Derived s IsItemPiece at (item_of x)
  unfolding Derived item_of
  item_derived at_end e = tt
  item_derived wrong e = tt
  item_derived (found (word w) next) e = tt
  item_derived (found (operator o) next) e = tt
  item_derived (found (item i) next) e = (item i ∷ [], (one_piece e, item_piece))
  item_derived (found (constant k) next) e = tt

  operator_derived : (x : Next) → next_at s at ≡ x → Derived s IsOperatorPiece at (operator_of x)
  unfolding Derived operator_of
  operator_derived at_end e = tt
  operator_derived wrong e = tt
  operator_derived (found (word w) next) e = tt
  operator_derived (found (operator o) next) e = (operator o ∷ [], (one_piece e, operator_piece))
  operator_derived (found (item i) next) e = tt
  operator_derived (found (constant k) next) e = tt

  operand_derived : (x : Next) → next_at s at ≡ x → Derived s IsOperandPiece at (operand_of x)
  unfolding Derived operand_of
  operand_derived at_end e = tt
  operand_derived wrong e = tt
  operand_derived (found (word w) next) e = tt
  operand_derived (found (operator o) next) e = tt
  operand_derived (found (item i) next) e = (item i ∷ [], (one_piece e, operand_piece item_operand))
  operand_derived (found (constant k) next) e = (constant k ∷ [], (one_piece e, operand_piece constant_operand))

-- ---- items

items_one : (s : List ℕ) (at mid : ℕ) (ps : List Piece) (i : Item) → Finds s at ps mid → IsItemPiece ps i
    → Derived s IsItems at (parsed (i ∷ []) mid)
items_one s at mid ps i f item_piece = derived_parsed s IsItems at ps (i ∷ []) mid f one_item

items_more : (s : List ℕ) (at mid next end : ℕ) (ps qs : List Piece) (i : Item) (is : List Item) → Finds s at ps mid
    → IsItemPiece ps i → next_at s mid ≡ found (word Comma) next → Finds s next qs end → IsItems qs is
    → Derived s IsItems at (parsed (i ∷ is) end)
items_more s at mid next end ps qs i is f item_piece e g t =
    derived_parsed s IsItems at (ps ++ word Comma ∷ qs) (i ∷ is) end (finds_append f (one_more e g)) (more_items t)

pub items_derived : (n : ℕ) (s : List ℕ) (at : ℕ) → Derived s IsItems at (items_at n s at)
unfolding items_at
items_derived zero s at = derived_failed s IsItems at
items_derived (suc n) s at =
    derived_then s IsItemPiece IsItems at at (item_of (next_at s at)) _ (item_derived s at (next_at s at) refl)
    λ ps i mid f p. derived_word s IsItems Comma at mid _ _
    (λ next e. derived_then s IsItems IsItems at next (items_at n s next) _ (items_derived n s next)
    λ qs is end g t. items_more s at mid next end ps qs i is f p e g t)
    (items_one s at mid ps i f p)

-- ---- comparisons

abbrev pub Or' : List Piece → Deep → Type 0
Or' ps c = IsOr ps c.condition c.depth

abbrev And' : List Piece → Deep → Type 0
And' ps c = IsAnd ps c.condition c.depth

abbrev Not' : List Piece → Deep → Type 0
Not' ps c = IsNot ps c.condition c.depth

abbrev Primary' : List Piece → Deep → Type 0
Primary' ps c = IsPrimary ps c.condition c.depth

comparison_whole : (s : List ℕ) (at mid late end : ℕ) (ps qs rs : List Piece) (i : Item) (o : Operator) (x : Operand)
    → Finds s at ps mid → Finds s mid qs late → Finds s late rs end → IsItemPiece ps i → IsOperatorPiece qs o
    → IsOperandPiece rs x
    → Derived s Primary' at
    (parsed (record { condition = compared (record { left = i; by = o; right = x }); depth = 0 }) end)
comparison_whole s at mid late end ps qs rs i o x f g h item_piece operator_piece (operand_piece t) =
    derived_parsed s Primary' at (ps ++ (qs ++ rs)) _ end (finds_append f (finds_append g h))
    (one_comparison (comparison t))

comparison_derived : (s : List ℕ) (at : ℕ) → Derived s Primary' at (comparison_at s at)
unfolding comparison_at
comparison_derived s at =
    derived_then s IsItemPiece Primary' at at (item_of (next_at s at)) _ (item_derived s at (next_at s at) refl)
    λ ps i mid f p. derived_then s IsOperatorPiece Primary' at mid (operator_of (next_at s mid)) _
    (operator_derived s mid (next_at s mid) refl)
    λ qs o late g q. derived_then s IsOperandPiece Primary' at late (operand_of (next_at s late)) _
    (operand_derived s late (next_at s late) refl)
    λ rs x end h r. comparison_whole s at mid late end ps qs rs i o x f g h p q r

-- ---- conditions

-- what the parsers give at a number n
record SoundAt (s : List ℕ) (n : ℕ) : Type 0 where
  ors : (at : ℕ) → Derived s Or' at (or_at n s at)
  ors_more : (start at : ℕ) (ps : List Piece) (c : Deep) → Finds s start ps at → Or' ps c
      → Derived s Or' start (or_more n s c at)
  ands : (at : ℕ) → Derived s And' at (and_at n s at)
  ands_more : (start at : ℕ) (ps : List Piece) (c : Deep) → Finds s start ps at → And' ps c
      → Derived s And' start (and_more n s c at)
  nots : (at : ℕ) → Derived s Not' at (not_at n s at)
  primaries : (at : ℕ) → Derived s Primary' at (primary_at n s at)

module _ (s : List ℕ) (n : ℕ) (h : SoundAt s n) where
  or_step : (at : ℕ) → Derived s Or' at (or_at (suc n) s at)
  unfolding or_at
  or_step at =
      derived_then s And' Or' at at (and_at n s at) _ (h.ands at)
      λ ps c mid f t. h.ors_more at mid ps c f (one_and t)

  or_more_step : (start at : ℕ) (ps : List Piece) (c : Deep) → Finds s start ps at → Or' ps c
      → Derived s Or' start (or_more (suc n) s c at)
  unfolding or_at
  or_more_step start at ps c f t =
      derived_word s Or' Or start at _ _
      (λ next e. derived_then s And' Or' start next (and_at n s next) _ (h.ands next)
      λ qs k end g u. h.ors_more start end (ps ++ word Or ∷ qs) _ (finds_append f (one_more e g)) (more_or t u))
      (derived_parsed s Or' start ps c at f t)

  and_step : (at : ℕ) → Derived s And' at (and_at (suc n) s at)
  unfolding or_at
  and_step at =
      derived_then s Not' And' at at (not_at n s at) _ (h.nots at)
      λ ps c mid f t. h.ands_more at mid ps c f (one_not t)

  and_more_step : (start at : ℕ) (ps : List Piece) (c : Deep) → Finds s start ps at → And' ps c
      → Derived s And' start (and_more (suc n) s c at)
  unfolding or_at
  and_more_step start at ps c f t =
      derived_word s And' And start at _ _
      (λ next e. derived_then s Not' And' start next (not_at n s next) _ (h.nots next)
      λ qs k end g u. h.ands_more start end (ps ++ word And ∷ qs) _ (finds_append f (one_more e g)) (more_and t u))
      (derived_parsed s And' start ps c at f t)

  not_step : (at : ℕ) → Derived s Not' at (not_at (suc n) s at)
  unfolding or_at
  not_step at =
      derived_word s Not' Not at at _ _
      (λ next e. derived_then s Not' Not' at next (not_at n s next) _ (h.nots next)
      λ ps c end f t. derived_parsed s Not' at (word Not ∷ ps) _ end (one_more e f) (not_more t))
      (derived_as s Primary' Not' at (primary_at n s at) (h.primaries at) (λ ps c t. one_primary t))

  primary_step : (at : ℕ) → Derived s Primary' at (primary_at (suc n) s at)
  unfolding or_at
  primary_step at =
      derived_word s Primary' Opening at at _ _
      (λ next e. derived_then s Or' Primary' at next (or_at n s next) _ (h.ors next)
      λ ps c mid f t. derived_word s Primary' Closing at mid _ _
      (λ end g. derived_parsed s Primary' at (word Opening ∷ (ps ++ word Closing ∷ [])) _ end
      (one_more e (finds_append f (one_more g none_left))) (in_parentheses t))
      (derived_failed s Primary' at))
      (comparison_derived s at)

sound_at : (s : List ℕ) (n : ℕ) → SoundAt s n
unfolding or_at Derived
sound_at s zero = record {
  ors = λ at. tt;
  ors_more = λ start at ps c f t. tt;
  ands = λ at. tt;
  ands_more = λ start at ps c f t. tt;
  nots = λ at. tt;
  primaries = λ at. tt;
}
sound_at s (suc n) = let h = sound_at s n in record {
  ors = or_step s n h;
  ors_more = or_more_step s n h;
  ands = and_step s n h;
  ands_more = and_more_step s n h;
  nots = not_step s n h;
  primaries = primary_step s n h;
}

pub condition_derived : (s : List ℕ) (at : ℕ) → Derived s Or' at (condition_at s at)
unfolding condition_at
condition_derived s at = (sound_at s (4 * length s + 4)).ors at
