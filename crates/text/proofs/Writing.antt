-- Words written in their place, and the steps of a parser on what its callees gave.
-- In order: words written; the word behind a position; a word more in a program.
-- Assumes nothing.
use mathlib.Core.Path.{◌≡◌, refl, sym, ap, ap₂, ◌∙◌, subst}
use mathlib.Core.Bool.{Bool, true, false, cond}
use mathlib.Core.List.{List, [], ◌∷◌, ◌++◌, append_assoc}
use mathlib.Core.Option.{Option, none, some}
use Rattle.std.proofs.Common.{Option as CodeOption, Some, None}
use Prim.Native.Nat.{ℕ, zero, suc, ◌+◌, ◌≤◌, ◌<◌, max}
use native.Mathlib.Numerals.{add-one}
use native.Mathlib.Omega.{arith}
use borrow.Author.Tests.{eq-eqb, ne_eqb}
use lib.Dec.{eqb}
use lib.ListN.{length, take, drop, set, length-append, length-drop}
use lib.Seq.{take_at, drop_at, length-take-le, drop-drop, set_split}
use Rattle.grammar.specs.Pieces.{Word, Retrieve, Where, Not, And, Or, Opening, Closing, Comma, word, operator, item, constant, Constant, number}
use Rattle.grammar.specs.Parser.{Next, at_end, wrong, found, next_at, word_number, behind}
use Rattle.text.specs.Tokens.{code_word, code_word_number, constant_token, token_of, shown, token_at}
use Rattle.text.specs.Programs.{written, after_token, with_word, word_written}
use Rattle.text.specs.declared.Word.{Word as CodeWord}
use Rattle.text.specs.declared.Word.TheVariants as Code
use Rattle.text.specs.declared.Token.{Token}
use Rattle.text.specs.declared.Token.TheVariants.{AtEnd, NoPiece, WordAt, OperatorAt, ItemAt, NumberAt}
use Rattle.text.specs.declared.Parse.{Parse}
use Rattle.grammar.proofs.Sound.{behind_word}

-- ---- words written

pub written_word : (at b : ℕ) (bytes : List ℕ) → at < length bytes → set bytes at b ≡ written at (b ∷ []) bytes
unfolding written
written_word at b bytes h =
    set_split bytes at b h ∙ ap (λ (n : ℕ). take at bytes ++ b ∷ drop n bytes) (sym (add-one at))

pub written_length : (at : ℕ) (text bytes : List ℕ) → at + length text ≤ length bytes
    → length (written at text bytes) ≡ length bytes
unfolding written
written_length at text bytes h =
    length-append (take at bytes) (text ++ drop (at + length text) bytes)
    ∙ omega (
      arith,
      length-take-le at bytes (omega arith),
      length-append text (drop (at + length text) bytes),
      length-drop (at + length text) bytes,
    )

module _ (at : ℕ) (s t bytes : List ℕ) (h : at + length s ≤ length bytes) where
  abbrev left : List ℕ
  left = drop (at + length s) bytes

  long : length (take at bytes ++ s) ≡ at + length s
  long = length-append (take at bytes) s ∙ ap (λ (n : ℕ). n + length s) (length-take-le at bytes (omega arith))

  front : take (at + length s) (take at bytes ++ (s ++ left)) ≡ take at bytes ++ s
  front =
      ap (take (at + length s)) (sym (append_assoc (take at bytes) s left))
      ∙ take_at (take at bytes ++ s) left (at + length s) long

  back : drop (at + length s + length t) (take at bytes ++ (s ++ left)) ≡ drop (at + length (s ++ t)) bytes
  back =
      sym (drop-drop (length t) (at + length s) (take at bytes ++ (s ++ left)))
      ∙ ap (drop (length t)) (ap (drop (at + length s)) (sym (append_assoc (take at bytes) s left))
      ∙ drop_at (take at bytes ++ s) left (at + length s) long)
      ∙ drop-drop (length t) (at + length s) bytes
      ∙ ap (λ (n : ℕ). drop n bytes) sum
    where
      sum : at + length s + length t ≡ at + length (s ++ t)
      sum = omega (arith, length-append s t)

  -- a text and another behind it are the two as one
  pub written_both : written (at + length s) t (written at s bytes) ≡ written at (s ++ t) bytes
  unfolding written
  written_both =
      ap₂ (λ (x y : List ℕ). x ++ (t ++ y)) front back
      ∙ append_assoc (take at bytes) s (t ++ drop (at + length (s ++ t)) bytes)
      ∙ ap (λ (x : List ℕ). take at bytes ++ x) (sym (append_assoc s t (drop (at + length (s ++ t)) bytes)))

-- ---- the word behind a position

-- words are told apart by their numbers
word_of_number : ℕ → CodeWord
word_of_number zero = Code.Retrieve
word_of_number (suc zero) = Code.Where
word_of_number (suc (suc zero)) = Code.Not
word_of_number (suc (suc (suc zero))) = Code.And
word_of_number (suc (suc (suc (suc zero)))) = Code.Or
word_of_number (suc (suc (suc (suc (suc zero))))) = Code.Open
word_of_number (suc (suc (suc (suc (suc (suc zero)))))) = Code.Close
word_of_number (suc (suc (suc (suc (suc (suc (suc n))))))) = Code.Comma

numbered : (w : CodeWord) → word_of_number (code_word_number w) ≡ w
unfolding word_of_number code_word_number
numbered Code.Retrieve = refl
numbered Code.Where = refl
numbered Code.Not = refl
numbered Code.And = refl
numbered Code.Or = refl
numbered Code.Open = refl
numbered Code.Close = refl
numbered Code.Comma = refl

same_word : (v w : CodeWord) → code_word_number v ≡ code_word_number w → v ≡ w
same_word v w e = sym (numbered v) ∙ ap word_of_number e ∙ numbered w

pub word_numbered : (w : Word) → code_word_number (code_word w) ≡ word_number w
unfolding code_word code_word_number word_number
word_numbered Retrieve = refl
word_numbered Where = refl
word_numbered Not = refl
word_numbered And = refl
word_numbered Or = refl
word_numbered Opening = refl
word_numbered Closing = refl
word_numbered Comma = refl

module _ (t : Token) (w : CodeWord) where
  pub after_yes : (v : CodeWord) (next : ℕ) → WordAt v next ≡ t → v ≡ w → Some next ≡ after_token w t
  unfolding after_token
  after_yes v next e h =
      sym (ap (after_token w) (sym e) ∙ rw (eq-eqb (code_word_number v) (code_word_number w) (ap code_word_number h)))

  pub after_no : (v : CodeWord) (next : ℕ) → WordAt v next ≡ t → (v ≡ w → ⊥) → None ≡ after_token w t
  unfolding after_token
  after_no v next e h =
      sym (ap (after_token w) (sym e)
      ∙ rw (ne_eqb (code_word_number v) (code_word_number w) (λ k. h (same_word v w k))))

pub after_other : (t : Token) (w : CodeWord) → ((v : CodeWord) (next : ℕ) → t ≡ WordAt v next → ⊥)
    → None ≡ after_token w t
unfolding after_token
after_other AtEnd w h = refl
after_other NoPiece w h = refl
after_other (WordAt v next) w h = absurd (h _ _ refl)
after_other (OperatorAt o next) w h = refl
after_other (ItemAt v m next) w h = refl
after_other (NumberAt b m next) w h = refl

-- the code's option is the grammar's
AfterIs : Option ℕ → CodeOption ℕ → Type 0
AfterIs none r = r ≡ None
AfterIs (some m) r = r ≡ Some m

constant_after : (w : CodeWord) (k : Constant) (next : ℕ) → after_token w (constant_token k next) ≡ None
unfolding after_token constant_token
constant_after w (number minus digits) next = refl

word_after : (next : ℕ) (t : Bool) → AfterIs (cond {A = Option ℕ} t (some next) none) (cond t (Some next) None)
unfolding AfterIs
word_after next true = refl
word_after next false = refl

-- the code's position behind a word
next_after : (w : Word) (y : Next) → AfterIs (behind w y) (after_token (code_word w) (shown y))
unfolding AfterIs behind after_token shown token_of
next_after w at_end = refl
next_after w wrong = refl
next_after w (found (operator o) next) = refl
next_after w (found (item i) next) = refl
next_after w (found (constant k) next) = constant_after (code_word w) k next
next_after w (found (word v) next) =
    rw (word_numbered v, word_numbered w) (word_after next (eqb (word_number v) (word_number w)))

module _ (w : Word) (s : List ℕ) (at : ℕ) where
  after_is : (x : Option ℕ) → behind w (next_at s at) ≡ x → AfterIs x (after_token (code_word w) (token_at s at))
  unfolding token_at
  after_is x e =
      subst (λ (y : Option ℕ). AfterIs y (after_token (code_word w) (shown (next_at s at)))) e
      (next_after w (next_at s at))

  pub after_none : None ≡ after_token (code_word w) (token_at s at) → behind w (next_at s at) ≡ none
  unfolding AfterIs
  after_none e = go (behind w (next_at s at)) refl
    where
      go : (x : Option ℕ) → behind w (next_at s at) ≡ x → behind w (next_at s at) ≡ none
      go none f = f
      go (some m) f = let there = after_is (some m) f in cc

  pub after_some : (next : ℕ) → Some next ≡ after_token (code_word w) (token_at s at)
      → next_at s at ≡ found (word w) next
  unfolding AfterIs
  after_some next e = go (behind w (next_at s at)) refl
    where
      go : (x : Option ℕ) → behind w (next_at s at) ≡ x → next_at s at ≡ found (word w) next
      go none f = let there = after_is none f in cc
      go (some m) f =
          let there = after_is (some m) f in
          let same : m ≡ next = cc in
          behind_word w (next_at s at) m f ∙ ap (λ (k : ℕ). found (word w) k) same

-- ---- a word more in a program

pub with_done : (e : Parse) (depth code : ℕ) (out : List ℕ) (end d : ℕ) (out' : List ℕ) → end ≡ e.end + 1
    → d ≡ max depth e.depth → out' ≡ written e.end (code ∷ []) out
    → (record { next = e.next; depth = d; end = end } ≡ with_word e depth) × (out' ≡ word_written e code out)
unfolding with_word word_written
with_done e depth code out end d out' f g h =
    (ap₂ {C = Parse} (λ (x y : ℕ). record { next = e.next; depth = x; end = y }) g f, h)
