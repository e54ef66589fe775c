-- The comparison at a position, by its three tokens.
-- In order: a piece from its token; what `comparison_at` gives at each return.
-- Assumes nothing.
use mathlib.Core.Path.{◌≡◌, refl, sym, ap, ◌∙◌, subst}
use mathlib.Core.Bool.{Bool}
use mathlib.Core.List.{List, [], ◌∷◌}
use Prim.Native.Nat.{ℕ, ◌≤◌, ◌<◌}
use native.Mathlib.Omega.{arith}
use Rattle.std.proofs.Common.{Option as CodeOption, Some, None}
use denote.Enum.Declared.{tag_of}
use lib.ListN.{length}
use Rattle.grammar.specs.Pieces.{Variable, blank, letter, Equal, Unequal, Less, AtMost, Greater, AtLeast}
use Rattle.grammar.specs.Pieces.{Item, Operator, Constant, number, word, operator, item, constant}
use Rattle.grammar.specs.Grammar.{Operand, of_item, of_constant, compared}
use Rattle.grammar.specs.Parser.{Next, at_end, wrong, found, next_at, Parsed, failed, parsed, item_of, operator_of}
use Rattle.grammar.specs.Parser.{operand_of, ◌and_then◌, comparison_at}
use Rattle.text.specs.Tokens.{operator_number, code_operator, code_operator_number, variable_number, name_number, magnitude, constant_token, token_of, shown}
use Rattle.text.specs.Tokens.{token_at, code_letter, letter_word}
use Rattle.text.specs.Programs.{sign_word, constant_words, operand_words, comparison_words, program, compared_words, right_words}
use Rattle.text.specs.Programs.{ComparedShows}
use Rattle.text.specs.declared.Operator.{Operator as CodeOperator}
use Rattle.text.specs.declared.Operand.{Operand as CodeOperand}
use Rattle.text.specs.declared.Operand.TheVariants as Side
use Rattle.text.specs.declared.Token.{Token}
use Rattle.text.specs.declared.Token.TheVariants.{OperatorAt, ItemAt, NumberAt}
use Rattle.text.specs.contracts.Token.{the_type}
use Rattle.grammar.proofs.Nexts.{found_within}
use Rattle.grammar.proofs.Complete.{then_parsed}

-- ---- a piece from its token

clash : {A : Type 0} → ◌≡◌ {A = ℕ} 0 1 → A
clash z = absurd (omega arith)

constant_kind : (k : Constant) (next : ℕ) → tag_of the_type (constant_token k next) ≡ 5
unfolding constant_token
constant_kind (number minus digits) next = refl

-- the item of an item's token
pub record TheItem (x : Next) (v : CodeOption ℕ) (m next : ℕ) : Type 0 where
  pub it : Item
  pub is : x ≡ found (item it) next
  pub letter : code_letter it.variable ≡ v
  pub name : name_number it.name ≡ m

pub record TheOperator (x : Next) (o : CodeOperator) (next : ℕ) : Type 0 where
  pub it : Operator
  pub is : x ≡ found (operator it) next
  pub same : code_operator it ≡ o

pub record TheConstant (x : Next) (minus : Bool) (m next : ℕ) : Type 0 where
  pub digits : List ℕ
  pub is : x ≡ found (constant (number minus digits)) next
  pub same : magnitude digits ≡ m

abbrev tag : Token → ℕ
tag t = tag_of the_type t

pub the_item : (x : Next) (v : CodeOption ℕ) (m next : ℕ) → shown x ≡ ItemAt v m next → TheItem x v m next
unfolding shown token_of
the_item at_end v m next e = clash (let z : ◌≡◌ {A = ℕ} 0 1 = cc in z)
the_item wrong v m next e = clash (let z : ◌≡◌ {A = ℕ} 0 1 = cc in z)
the_item (found (word w) mid) v m next e = clash (let z : ◌≡◌ {A = ℕ} 0 1 = cc in z)
the_item (found (operator o) mid) v m next e = clash (let z : ◌≡◌ {A = ℕ} 0 1 = cc in z)
the_item (found (item i) mid) v m next e =
    let there : mid ≡ next = cc in
    let vs : code_letter i.variable ≡ v = cc in
    let ms : name_number i.name ≡ m = cc in
    record { it = i; is = ap (found (item i)) there; letter = vs; name = ms }
the_item (found (constant k) mid) v m next e =
    clash (omega (arith, sym (constant_kind k mid) ∙ ap tag e))

the_operator : (x : Next) (o : CodeOperator) (next : ℕ) → shown x ≡ OperatorAt o next → TheOperator x o next
unfolding shown token_of
the_operator at_end o next e = clash (let z : ◌≡◌ {A = ℕ} 0 1 = cc in z)
the_operator wrong o next e = clash (let z : ◌≡◌ {A = ℕ} 0 1 = cc in z)
the_operator (found (word w) mid) o next e = clash (let z : ◌≡◌ {A = ℕ} 0 1 = cc in z)
the_operator (found (operator p) mid) o next e =
    let there : mid ≡ next = cc in
    let os : code_operator p ≡ o = cc in
    record { it = p; is = ap (found (operator p)) there; same = os }
the_operator (found (item i) mid) o next e = clash (let z : ◌≡◌ {A = ℕ} 0 1 = cc in z)
the_operator (found (constant k) mid) o next e =
    clash (omega (arith, sym (constant_kind k mid) ∙ ap tag e))

constant_of : (k : Constant) (mid : ℕ) (b : Bool) (m next : ℕ) → constant_token k mid ≡ NumberAt b m next
    → TheConstant (found (constant k) mid) b m next
unfolding constant_token
constant_of (number minus digits) mid b m next e =
    let there : mid ≡ next = cc in
    let bs : minus ≡ b = cc in
    let ms : magnitude digits ≡ m = cc in
    record { digits = digits; is = λ i. found (constant (number (bs i) digits)) (there i); same = ms }

the_constant : (x : Next) (b : Bool) (m next : ℕ) → shown x ≡ NumberAt b m next → TheConstant x b m next
unfolding shown token_of
the_constant at_end b m next e = clash (let z : ◌≡◌ {A = ℕ} 0 1 = cc in z)
the_constant wrong b m next e = clash (let z : ◌≡◌ {A = ℕ} 0 1 = cc in z)
the_constant (found (word w) mid) b m next e = clash (let z : ◌≡◌ {A = ℕ} 0 1 = cc in z)
the_constant (found (operator o) mid) b m next e = clash (let z : ◌≡◌ {A = ℕ} 0 1 = cc in z)
the_constant (found (item i) mid) b m next e = clash (let z : ◌≡◌ {A = ℕ} 0 1 = cc in z)
the_constant (found (constant k) mid) b m next e = constant_of k mid b m next e

-- tokens that are none of a sort
abbrev pub NoItem : Token → Type 0
NoItem t = (v : CodeOption ℕ) (m next : ℕ) → t ≡ ItemAt v m next → ⊥

abbrev pub NoOperator : Token → Type 0
NoOperator t = (o : CodeOperator) (next : ℕ) → t ≡ OperatorAt o next → ⊥

abbrev pub NoNumber : Token → Type 0
NoNumber t = (minus : Bool) (m next : ℕ) → t ≡ NumberAt minus m next → ⊥

pub no_item : (x : Next) → NoItem (shown x) → item_of x ≡ failed
unfolding shown token_of item_of
no_item at_end h = refl
no_item wrong h = refl
no_item (found (word w) mid) h = refl
no_item (found (operator o) mid) h = refl
no_item (found (item i) mid) h = absurd (h _ _ _ refl)
no_item (found (constant k) mid) h = refl

no_operator : (x : Next) → NoOperator (shown x) → operator_of x ≡ failed
unfolding shown token_of operator_of
no_operator at_end h = refl
no_operator wrong h = refl
no_operator (found (word w) mid) h = refl
no_operator (found (operator o) mid) h = absurd (h _ _ refl)
no_operator (found (item i) mid) h = refl
no_operator (found (constant k) mid) h = refl

no_operand : (x : Next) → NoItem (shown x) → NoNumber (shown x) → operand_of x ≡ failed
unfolding shown token_of constant_token operand_of
no_operand at_end h k = refl
no_operand wrong h k = refl
no_operand (found (word w) mid) h k = refl
no_operand (found (operator o) mid) h k = refl
no_operand (found (item i) mid) h k = absurd (h _ _ _ refl)
no_operand (found (constant (number minus digits)) mid) h k = absurd (k _ _ _ refl)

pub lettered : (v : Variable) → letter_word (code_letter v) ≡ variable_number v
unfolding code_letter letter_word variable_number
lettered blank = refl
lettered (letter b) = refl

pub its_letter : {x : Next} {v : CodeOption ℕ} {m next : ℕ} (t : TheItem x v m next)
    → letter_word v ≡ variable_number t.it.variable
its_letter t = sym (ap letter_word t.letter) ∙ lettered t.it.variable

pub operator_numbered : (o : Operator) → code_operator_number (code_operator o) ≡ operator_number o
unfolding code_operator code_operator_number operator_number
operator_numbered Equal = refl
operator_numbered Unequal = refl
operator_numbered Less = refl
operator_numbered AtMost = refl
operator_numbered Greater = refl
operator_numbered AtLeast = refl

-- ---- what `comparison_at` gives

pub then_failed : {A B : Type 0} {x : Parsed A} (k : A → ℕ → Parsed B) → x ≡ failed → (x and_then k) ≡ failed
unfolding ◌and_then◌
then_failed k e = ap (λ (x : Parsed _). x and_then k) e

fails : (s : List ℕ) (at : ℕ) → comparison_at s at ≡ failed → ComparedShows s at None (comparison_at s at)
unfolding ComparedShows
fails s at e = subst (ComparedShows s at None) (sym e) refl

module _ (s : List ℕ) (at : ℕ) where
  pub first_fails : {t : Token} → t ≡ token_at s at → NoItem t → ComparedShows s at None (comparison_at s at)
  unfolding comparison_at token_at
  first_fails e k = fails s at (then_failed _ (no_item (next_at s at) (subst NoItem e k)))

  module _ (v : CodeOption ℕ) (m mid : ℕ) (e1 : ItemAt v m mid ≡ token_at s at) where
    i1 : TheItem (next_at s at) v m mid
    unfolding token_at
    i1 = the_item (next_at s at) v m mid (sym e1)

    pub mid_inside : mid ≤ length s
    mid_inside = (found_within s at i1.is).inside

    pub second_fails : {t : Token} → t ≡ token_at s mid → NoOperator t
        → ComparedShows s at None (comparison_at s at)
    unfolding comparison_at token_at item_of
    second_fails e k =
        fails s at (then_parsed _ (ap item_of i1.is)
        ∙ then_failed _ (no_operator (next_at s mid) (subst NoOperator e k)))

    module _ (o : CodeOperator) (late : ℕ) (e2 : OperatorAt o late ≡ token_at s mid) where
      i2 : TheOperator (next_at s mid) o late
      unfolding token_at
      i2 = the_operator (next_at s mid) o late (sym e2)

      pub late_inside : late ≤ length s
      late_inside = (found_within s mid i2.is).inside

      before_third : {x : Parsed Operand} → operand_of (next_at s late) ≡ x
          → comparison_at s at
          ≡ (x and_then λ y end. parsed
          (record { condition = compared (record { left = i1.it; by = i2.it; right = y }); depth = 0 }) end)
      unfolding comparison_at item_of operator_of
      before_third g =
          then_parsed _ (ap item_of i1.is) ∙ then_parsed _ (ap operator_of i2.is)
          ∙ ap (λ (x : Parsed Operand). x and_then λ y end. parsed
          (record { condition = compared (record { left = i1.it; by = i2.it; right = y }); depth = 0 }) end) g

      pub third_fails : {t : Token} → t ≡ token_at s late → NoItem t → NoNumber t
          → ComparedShows s at None (comparison_at s at)
      unfolding token_at ◌and_then◌
      third_fails e k m =
          fails s at (before_third (no_operand (next_at s late) (subst NoItem e k) (subst NoNumber e m)))

      done : (x : Operand) (right : CodeOperand) (next : ℕ) → operand_of (next_at s late) ≡ parsed x next → late < next
          → next ≤ length s → right_words right ≡ operand_words x
          → ComparedShows s at (Some (record { letter = v; name = m; operator = o; right = right; next = next }))
          (comparison_at s at)
      unfolding ◌and_then◌ ComparedShows compared_words program comparison_words
      done x right next g h k w =
          subst (ComparedShows s at _) (sym (before_third g)) (record {
            found = record { letter = v; name = m; operator = o; right = right; next = next };
            same = refl;
            behind = refl;
            words = λ j. 0 ∷ its_letter i1 j ∷ sym i1.name j ∷ by j ∷ w j;
            depth = refl;
            long = omega (arith, (found_within s at i1.is).after, (found_within s mid i2.is).after);
            inside = k;
          })
        where
          by : code_operator_number o ≡ operator_number i2.it
          by = sym (ap code_operator_number i2.same) ∙ operator_numbered i2.it

      pub third_item : (v2 : CodeOption ℕ) (m2 next : ℕ) → ItemAt v2 m2 next ≡ token_at s late
          → ComparedShows s at
          (Some (record { letter = v; name = m; operator = o; right = Side.Item v2 m2; next = next }))
          (comparison_at s at)
      unfolding operand_of token_at operand_words right_words
      third_item v2 m2 next e3 =
          let i3 = the_item (next_at s late) v2 m2 next (sym e3) in
          let w = found_within s late i3.is in
          done (of_item i3.it) (Side.Item v2 m2) next (ap operand_of i3.is) w.after w.inside
          (λ j. its_letter i3 j ∷ sym i3.name j ∷ [])

      pub third_constant : (minus : Bool) (m2 next : ℕ) → NumberAt minus m2 next ≡ token_at s late
          → ComparedShows s at
          (Some (record { letter = v; name = m; operator = o; right = Side.Constant minus m2; next = next }))
          (comparison_at s at)
      unfolding operand_of token_at operand_words constant_words right_words
      third_constant minus m2 next e3 =
          let i3 = the_constant (next_at s late) minus m2 next (sym e3) in
          let w = found_within s late i3.is in
          done (of_constant (number minus i3.digits)) (Side.Constant minus m2) next (ap operand_of i3.is) w.after w.inside
          (λ j. sign_word minus ∷ sym i3.same j ∷ [])
