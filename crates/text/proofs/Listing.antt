-- The items of a text: what the loop over them keeps.
-- In order: one thing behind another; the words of items; the items so far; the ways out.
-- Assumes nothing.
use mathlib.Core.Path.{◌≡◌, refl, sym, ap, ap₂, subst, ◌∙◌}
use mathlib.Core.List.{List, [], ◌∷◌, ◌++◌, append_assoc}
use Prim.Native.Nat.{ℕ, zero, suc, ◌+◌, ◌-◌, ◌*◌, ◌≤◌, ◌<◌}
use native.Mathlib.Omega.{arith}
use lib.ListN.{length, length-append}
use Rattle.grammar.specs.Pieces.{Item, Comma, word}
use Rattle.grammar.specs.Parser.{found, next_at, Parsed, failed, parsed, item_of, ◌and_then◌, items_at}
use Rattle.text.specs.Tokens.{code_word, letter_word, variable_number, name_number, token_at}
use Rattle.text.specs.Programs.{item_words, written, after_token, ItemsShow}
use Rattle.std.proofs.Common.{Option as CodeOption, Some, None}
use Rattle.text.specs.declared.Word.TheVariants as Code
use Rattle.text.specs.declared.Token.{Token}
use Rattle.text.specs.declared.Token.TheVariants.{ItemAt}
use Rattle.text.specs.declared.Items.{Items}
use Rattle.grammar.proofs.Nexts.{Within, found_within}
use Rattle.grammar.proofs.Complete.{takes_word, if_some, if_none, then_parsed}
use Rattle.text.proofs.Comparing.{its_letter, NoItem, TheItem, the_item, no_item, then_failed}
use Rattle.text.proofs.Writing.{written_length, written_both, after_none, after_some}

-- ---- one thing behind another

then_then : {A B C : Type 0} (x : Parsed A) (f : A → ℕ → Parsed B) (g : B → ℕ → Parsed C)
    → ((x and_then f) and_then g) ≡ (x and_then λ a next. f a next and_then g)
unfolding ◌and_then◌
then_then failed f g = refl
then_then (parsed a next) f g = refl

then_same : {A B : Type 0} (x : Parsed A) (f g : A → ℕ → Parsed B) → ((a : A) (next : ℕ) → f a next ≡ g a next)
    → (x and_then f) ≡ (x and_then g)
unfolding ◌and_then◌
then_same failed f g h = refl
then_same (parsed a next) f g h = h a next

then_self : {A : Type 0} (x : Parsed A) → x ≡ (x and_then λ a next. parsed a next)
unfolding ◌and_then◌
then_self failed = refl
then_self (parsed a next) = refl

-- ---- the words of items

words_more : (is : List Item) (i : Item)
    → item_words (is ++ i ∷ []) ≡ item_words is ++ variable_number i.variable ∷ name_number i.name ∷ []
unfolding item_words
words_more [] i = refl
words_more (j ∷ is) i =
    ap (λ (l : List ℕ). variable_number j.variable ∷ name_number j.name ∷ l) (words_more is i)

pub words_long : (is : List Item) → length (item_words is) ≡ 2 * length is
unfolding item_words
words_long [] = refl
words_long (i ∷ is) = omega (arith, words_long is)

-- ---- the items so far

module _ (s : List ℕ) (at : ℕ) (before : List ℕ) where
  -- some are done, and the rest stands from `here` on
  pub record Going (n here : ℕ) (out : List ℕ) : Type 0 where
    pub done : List Item
    pub left : ℕ
    pub enough : length s - here ≤ left
    pub goes : items_at (length s) s at ≡ (items_at left s here and_then λ js end. parsed (done ++ js) end)
    pub counted : n ≡ length done
    pub words : out ≡ written 0 (item_words done) before
    pub few : n + at ≤ here
    pub inside : here ≤ length s

  pub going_start : at ≤ length s → Going 0 at before
  unfolding written item_words
  going_start h = record {
    done = [];
    left = length s;
    enough = omega arith;
    goes = then_self (items_at (length s) s at);
    counted = refl;
    words = refl;
    few = omega arith;
    inside = h;
  }

  module _ {n here : ℕ} {out : List ℕ} (g : Going n here out) (room : 2 * length s ≤ length before) where
    pub going_long : length out ≡ length before
    going_long =
        ap length g.words
        ∙ written_length 0 (item_words g.done) before
        (omega (arith, words_long g.done, g.counted, g.few, g.inside, room))

    -- no item stands there
    pub going_fails : {t : Token} → t ≡ token_at s here → NoItem t
        → ItemsShow s at before out None (items_at (length s) s at)
    unfolding ItemsShow token_at items_at
    going_fails e k =
        subst (ItemsShow s at before out None) (sym (g.goes ∙ then_failed _ (none_there g.left))) (refl, going_long)
      where
        none_there : (k : ℕ) → items_at k s here ≡ failed
        none_there zero = refl
        none_there (suc j) = then_failed _ (no_item (next_at s here) (subst NoItem e k))

    module _ (v : CodeOption ℕ) (m mid : ℕ) (e : ItemAt v m mid ≡ token_at s here) where
      there : TheItem (next_at s here) v m mid
      unfolding token_at
      there = the_item (next_at s here) v m mid (sym e)

      pub mid_within : Within s here mid
      mid_within = found_within s here there.is

      pub first_room : 2 * n < length out
      first_room = omega (arith, going_long, g.few, mid_within.after, mid_within.inside, room)

      pub second_room : 2 * n + 1 < length out
      second_room = omega (arith, going_long, g.few, mid_within.after, mid_within.inside, room)

      pub second_place : (x : ℕ) {place : ℕ} {once : List ℕ} → once ≡ written (2 * n) (x ∷ []) out → place ≡ 2 * n + 1
          → place < length once
      second_place x h p =
          omega (arith, p, second_room, ap length h, written_length (2 * n) (x ∷ []) out (omega (arith, first_room)))

      more : List Item
      more = g.done ++ there.it ∷ []

      more_long : length more ≡ n + 1
      unfolding more
      more_long = length-append g.done (there.it ∷ []) ∙ omega (arith, g.counted)

      -- its two words
      more_words : {x place : ℕ} {once out' : List ℕ} → x ≡ letter_word v → once ≡ written (2 * n) (x ∷ []) out → place ≡ 2 * n + 1
          → out' ≡ written place (m ∷ []) once → out' ≡ written 0 (item_words more) before
      unfolding more
      more_words {place = place} {once} {out'} z h p k =
          let ws : List ℕ = item_words g.done in
          let l : length ws ≡ 2 * n = omega (arith, words_long g.done, g.counted) in
          let l0 : 2 * n ≡ 0 + length ws = omega (arith, l) in
          let l1 : 2 * n + 1 ≡ 0 + length (ws ++ letter_word v ∷ []) = omega (arith, length-append ws (letter_word v ∷ []), l) in
          let r : 0 + length (ws ++ letter_word v ∷ []) ≤ length before =
          omega (arith, length-append ws (letter_word v ∷ []), l, g.few, mid_within.after, mid_within.inside, room) in
          let one : once ≡ written 0 (ws ++ letter_word v ∷ []) before =
          h ∙ ap (λ (y : ℕ). written (2 * n) (y ∷ []) out) z
          ∙ ap₂ (λ (j : ℕ) (x : List ℕ). written j (letter_word v ∷ []) x) l0 g.words
          ∙ written_both 0 ws (letter_word v ∷ []) before (omega (arith, l, g.few, g.inside, room)) in
          let two : out' ≡ written 0 ((ws ++ letter_word v ∷ []) ++ m ∷ []) before =
          k ∙ ap₂ (λ (j : ℕ) (x : List ℕ). written j (m ∷ []) x) (p ∙ l1) one
          ∙ written_both 0 (ws ++ letter_word v ∷ []) (m ∷ []) before r in
          two
          ∙ ap (λ (x : List ℕ). written 0 x before)
          (append_assoc ws (letter_word v ∷ []) (m ∷ [])
          ∙ ap₂ (λ (x y : ℕ). ws ++ x ∷ y ∷ []) (its_letter there) (sym there.name)
          ∙ sym (words_more g.done there.it))

      pub more_same : {x place : ℕ} {once out' : List ℕ} → x ≡ letter_word v → once ≡ written (2 * n) (x ∷ []) out → place ≡ 2 * n + 1
          → out' ≡ written place (m ∷ []) once → length out' ≡ length before
      more_same z h p k =
          ap length (more_words z h p k)
          ∙ written_length 0 (item_words more) before
          (omega (arith, words_long more, more_long, g.few, mid_within.after, mid_within.inside, room))

      -- what the definition takes there
      taken : (k : ℕ) → length s - here ≤ k → (j : ℕ) × (k ≡ suc j)
      taken zero h = absurd (omega (arith, mid_within.after, mid_within.inside))
      taken (suc j) h = (j, refl)

      -- the last
      pub going_last : {x place : ℕ} {once out' : List ℕ} {k : ℕ} → None ≡ after_token Code.Comma (token_at s mid) → x ≡ letter_word v
          → once ≡ written (2 * n) (x ∷ []) out → place ≡ 2 * n + 1 → out' ≡ written place (m ∷ []) once → k ≡ n + 1
          → ItemsShow s at before out' (Some (record { count = k; next = mid })) (items_at (length s) s at)
      unfolding ItemsShow items_at item_of more code_word
      going_last {out' = out'} {k = k} c y h p w q =
          let (j, a) = taken g.left g.enough in
          let last : items_at g.left s here ≡ parsed (there.it ∷ []) mid =
          ap (λ (x : ℕ). items_at x s here) a ∙ then_parsed _ (ap item_of there.is)
          ∙ if_none _ _ (after_none Comma s mid c) in
          subst (ItemsShow s at before out' (Some (record { count = k; next = mid })))
          (sym (g.goes ∙ then_parsed _ last))
          (record {
            same = ap {B = CodeOption Items} (λ (x : ℕ). Some (record { count = x; next = mid })) (q ∙ sym more_long);
            stands = more_words y h p w;
            forward = omega (arith, g.few, mid_within.after);
            inside = mid_within.inside;
            few = omega (arith, more_long, g.few, mid_within.after);
          })

      module _ (comma : ℕ) (c : Some comma ≡ after_token Code.Comma (token_at s mid)) where
        comma_there : next_at s mid ≡ found (word Comma) comma
        unfolding code_word
        comma_there = after_some Comma s mid comma c

        pub comma_within : Within s mid comma
        comma_within = found_within s mid comma_there

        -- one more behind a comma
        pub going_next : {x place : ℕ} {once out' : List ℕ} {k : ℕ} → x ≡ letter_word v → once ≡ written (2 * n) (x ∷ []) out
            → place ≡ 2 * n + 1 → out' ≡ written place (m ∷ []) once → k ≡ n + 1 → Going k comma out'
        unfolding items_at item_of more ◌and_then◌
        going_next z h p w q =
            let (j, a) = taken g.left g.enough in
            let one : items_at g.left s here ≡ (items_at j s comma and_then λ is end. parsed (there.it ∷ is) end) =
            ap (λ (x : ℕ). items_at x s here) a ∙ then_parsed _ (ap item_of there.is)
            ∙ if_some _ _ (takes_word s mid Comma comma_there) in
            record {
              done = more;
              left = j;
              enough = omega (arith, g.enough, a, mid_within.after, comma_within.after);
              goes =
                  g.goes ∙ ap (λ (x : Parsed (List Item)). x and_then λ js end. parsed (g.done ++ js) end) one
                  ∙ then_then (items_at j s comma) _ _
                  ∙ then_same (items_at j s comma) _ _ (λ is end.
                  ap (λ (x : List Item). parsed x end) (sym (append_assoc g.done (there.it ∷ []) is)));
              counted = q ∙ sym more_long;
              words = more_words z h p w;
              few = omega (arith, q, g.few, mid_within.after, comma_within.after);
              inside = comma_within.inside;
            }
