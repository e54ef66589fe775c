-- A whole text: what it comes to at each way out of reading it.
-- In order: the end of a text; the items that the code found; the head of a text; behind its items; its words.
-- Assumes nothing.
use mathlib.Core.Path.{◌≡◌, refl, sym, ap, ap₂, subst, ◌∙◌}
use mathlib.Core.Bool.{Bool, true, false}
use mathlib.Core.List.{List, ◌++◌, append-nil}
use mathlib.Core.Option.{Option, none, some}
use Prim.Native.Nat.{ℕ, ◌+◌, ◌-◌, ◌*◌, ◌≤◌}
use native.Mathlib.Omega.{arith}
use lib.ListN.{length, length-append}
use Rattle.std.proofs.Common.{Option as CodeOption, Some, None}
use Rattle.std.proofs.lemmas.Option.{same_Some}
use Rattle.grammar.specs.Pieces.{Item, Constant, number, Retrieve, Where, Opening, Closing, word, operator, item, constant}
use Rattle.grammar.specs.Grammar.{Reading}
use Rattle.grammar.specs.Parser.{Next, at_end, wrong, found, next_at, behind, Parsed, failed, parsed, ◌and_then◌}
use Rattle.grammar.specs.Parser.{if_word, items_at, or_at, condition_at, Deep, whole, conditioned, text_end, head_at, parse}
use Rattle.text.specs.Tokens.{code_word, constant_token, token_of, shown, token_at}
use Rattle.text.specs.Programs.{program, condition_words, condition_depth, item_words, written}
use Rattle.text.specs.Programs.{Gave, after_token, ItemsParsed, ItemsShow, is_at_end, text_if}
use Rattle.text.specs.Programs.{reading_words, text_of, TextShows}
use Rattle.text.specs.declared.Word.TheVariants as Code
use Rattle.text.specs.declared.Token.{Token}
use Rattle.text.specs.declared.Token.TheVariants.{AtEnd, NoPiece, WordAt, OperatorAt, ItemAt, NumberAt}
use Rattle.text.specs.declared.Parse.{Parse}
use Rattle.text.specs.declared.Items.{Items}
use Rattle.text.specs.declared.Text.{Text}
use Rattle.grammar.proofs.Nexts.{Within, found_within}
use Rattle.grammar.proofs.Complete.{takes_word, if_some, if_none, then_parsed}
use Rattle.text.proofs.Comparing.{then_failed}
use Rattle.text.proofs.Writing.{written_length, written_both, after_none, after_some}
use Rattle.text.proofs.Chains.{shows_next, shows_depth, shows_end, shows_same, ConditionFound, condition_found}
use Rattle.text.proofs.Chains.{condition_none}
use Rattle.text.proofs.Listing.{words_long}

-- ---- the end of a text

pub not_at_end : (t : Token) → (t ≡ AtEnd → ⊥) → false ≡ is_at_end t
unfolding is_at_end
not_at_end AtEnd h = absurd (h refl)
not_at_end NoPiece h = refl
not_at_end (WordAt v next) h = refl
not_at_end (OperatorAt o next) h = refl
not_at_end (ItemAt v m next) h = refl
not_at_end (NumberAt b m next) h = refl

constant_no_end : (k : Constant) (next : ℕ) → is_at_end (constant_token k next) ≡ false
unfolding is_at_end constant_token
constant_no_end (number minus digits) next = refl

-- what was read, if only spaces stand behind it
end_shows : (x : Next) (rd : Reading) (before out : List ℕ) (t : Text) → t ≡ text_of rd
    → out ≡ written 0 (reading_words rd) before → length out ≡ length before
    → TextShows before out (text_if (is_at_end (shown x)) t) (whole rd x)
unfolding TextShows whole text_if is_at_end shown token_of
end_shows at_end rd before out t e w l = (ap (λ (y : Text). Some y) e, w)
end_shows wrong rd before out t e w l = (refl, l)
end_shows (found (word v) next) rd before out t e w l = (refl, l)
end_shows (found (operator o) next) rd before out t e w l = (refl, l)
end_shows (found (item i) next) rd before out t e w l = (refl, l)
end_shows (found (constant k) next) rd before out t e w l = (ap (λ (b : Bool). text_if b t) (constant_no_end k next), l)

pub text_if_yes : (b : Bool) (t : Text) → b ≡ true → Some t ≡ text_if b t
unfolding text_if
text_if_yes b t e = sym (ap (λ (x : Bool). text_if x t) e)

pub text_if_no : (b : Bool) (t : Text) → b ≡ false → None ≡ text_if b t
unfolding text_if
text_if_no b t e = sym (ap (λ (x : Bool). text_if x t) e)

-- what a text shows is so of what is the same
shows_as : (before out : List ℕ) (a b : CodeOption Text) (x y : Option Reading) → a ≡ b → x ≡ y → TextShows before out a x
    → TextShows before out b y
shows_as before out a b x y p q h =
    subst (λ (z : Option Reading). TextShows before out b z) q (subst (λ (z : CodeOption Text). TextShows before out z x) p h)

-- ---- the items that the code found

pub record ItemsFound (s : List ℕ) (at : ℕ) (before after : List ℕ) (r : Items) (x : Parsed (List Item)) : Type 0 where
  pub items : List Item
  pub next : ℕ
  pub is : x ≡ parsed items next
  pub shown : ItemsParsed s at before after (Some r) items next

items_found : (s : List ℕ) (at : ℕ) (before after : List ℕ) (r : Items) (x : Parsed (List Item))
    → ItemsShow s at before after (Some r) x → ItemsFound s at before after r x
unfolding ItemsShow
items_found s at before after r failed h = let e = h.0 in cc
items_found s at before after r (parsed is next) h = record { items = is; next = next; is = refl; shown = h }

items_none : (s : List ℕ) (at : ℕ) (before after : List ℕ) (x : Parsed (List Item))
    → ItemsShow s at before after None x → (x ≡ failed) × (length after ≡ length before)
unfolding ItemsShow
items_none s at before after failed h = (refl, h.1)
items_none s at before after (parsed is next) h = let e = h.same in cc

-- ---- the head of a text

pub none_shows : (s before after : List ℕ) → parse s ≡ none → length after ≡ length before
    → TextShows before after None (parse s)
unfolding TextShows
none_shows s before after e l = subst (TextShows before after None) (sym e) (refl, l)

head_failed : (s : List ℕ) → head_at s ≡ failed → parse s ≡ none
unfolding parse
head_failed s e = rw (parse, e)

module _ (s : List ℕ) where
  pub no_retrieve : None ≡ after_token Code.Retrieve (token_at s 0) → parse s ≡ none
  unfolding head_at code_word
  no_retrieve e = head_failed s (if_none _ _ (after_none Retrieve s 0 e))

module _ (s : List ℕ) (first : ℕ) (e1 : Some first ≡ after_token Code.Retrieve (token_at s 0)) where
  retrieve_there : next_at s 0 ≡ found (word Retrieve) first
  unfolding code_word
  retrieve_there = after_some Retrieve s 0 first e1

  pub first_inside : first ≤ length s
  first_inside = (found_within s 0 retrieve_there).inside

  pub no_opening : None ≡ after_token Code.Open (token_at s first) → parse s ≡ none
  unfolding head_at code_word
  no_opening e =
      head_failed s (if_some _ _ (takes_word s 0 Retrieve retrieve_there)
      ∙ if_none _ _ (after_none Opening s first e))

  module _ (second : ℕ) (e2 : Some second ≡ after_token Code.Open (token_at s first)) where
    opening_there : next_at s first ≡ found (word Opening) second
    unfolding code_word
    opening_there = after_some Opening s first second e2

    pub second_inside : second ≤ length s
    second_inside = (found_within s first opening_there).inside

    -- behind the opening parenthesis
    head_is : head_at s
        ≡ (items_at (length s) s second and_then λ is third.
        if_word (behind Closing (next_at s third)) (λ fourth. parsed is fourth) (λ u. failed))
    unfolding head_at
    head_is =
        if_some _ _ (takes_word s 0 Retrieve retrieve_there)
        ∙ if_some _ _ (takes_word s first Opening opening_there)

    module _ (before out : List ℕ) where
      pub no_list : ItemsShow s second before out None (items_at (length s) s second)
          → (parse s ≡ none) × (length out ≡ length before)
      no_list show =
          let (x, l) = items_none s second before out (items_at (length s) s second) show in
          (head_failed s (head_is ∙ then_failed _ x), l)

      module _ (r : Items) (show : ItemsShow s second before out (Some r) (items_at (length s) s second))
          (room : 2 * length s ≤ length before) where
        list : ItemsFound s second before out r (items_at (length s) s second)
        list = items_found s second before out r (items_at (length s) s second) show

        same_items : r ≡ record { count = length list.items; next = list.next }
        same_items = same_Some _ _ list.shown.same

        next_is : r.next ≡ list.next
        next_is = ap (λ (i : Items). i.next) same_items

        count_is : r.count ≡ length list.items
        count_is = ap (λ (i : Items). i.count) same_items

        pub third_inside : r.next ≤ length s
        third_inside = omega (arith, next_is, list.shown.inside)

        -- words and bytes: two words to a byte at most
        pub words_few : 2 * r.count + 2 * second ≤ 2 * r.next
        words_few = omega (arith, next_is, count_is, list.shown.few, list.shown.forward)

        pub list_long : length out ≡ length before
        list_long =
            ap length list.shown.stands
            ∙ written_length 0 (item_words list.items) before
            (omega (arith, words_long list.items, list.shown.few, list.shown.forward, list.shown.inside, room))

        pub no_closing : None ≡ after_token Code.Close (token_at s r.next) → parse s ≡ none
        unfolding code_word
        no_closing e =
            head_failed s (head_is ∙ then_parsed _ list.is
            ∙ if_none _ _ (after_none Closing s list.next
            (e ∙ ap (λ (k : ℕ). after_token Code.Close (token_at s k)) next_is)))

        module _ (fourth : ℕ) (e4 : Some fourth ≡ after_token Code.Close (token_at s r.next)) where
          closing_there : next_at s list.next ≡ found (word Closing) fourth
          unfolding code_word
          closing_there =
              after_some Closing s list.next fourth (e4 ∙ ap (λ (k : ℕ). after_token Code.Close (token_at s k)) next_is)

          fourth_within : Within s list.next fourth
          fourth_within = found_within s list.next closing_there

          pub fourth_inside : fourth ≤ length s
          fourth_inside = fourth_within.inside

          parse_is : parse s ≡ text_end s list.items fourth
          unfolding parse
          parse_is =
              let e : head_at s ≡ parsed list.items fourth =
              head_is ∙ then_parsed _ list.is
              ∙ if_some _ _ (takes_word s list.next Closing closing_there) in
              rw (parse, e)

          -- ---- behind its items

          -- no condition
          pub plain_shows : {t : CodeOption Text} {from : ℕ} → None ≡ after_token Code.Where (token_at s fourth)
              → from ≡ 2 * r.count
              → t ≡ text_if (is_at_end (token_at s fourth)) (record { items = r.count; depth = None; end = from })
              → TextShows before out t (parse s)
          unfolding text_end token_at code_word text_of reading_words condition_words condition_depth
          plain_shows {t} {from} e5 f g =
              let rd : Reading = record { items = list.items; condition = none; depth = 0 } in
              let p : parse s ≡ whole rd (next_at s fourth) =
              parse_is ∙ rw (text_end, after_none Where s fourth e5) in
              let ws : reading_words rd ≡ item_words list.items = append-nil (item_words list.items) in
              let e : from ≡ length (reading_words rd) =
              f ∙ omega (arith, count_is, words_long list.items, ap length ws) in
              let same : ◌≡◌ {A = Text} (record { items = r.count; depth = None; end = from }) (text_of rd) =
              ap₂ {C = Text} (λ (x y : ℕ). record { items = x; depth = None; end = y }) count_is e in
              shows_as before out _ t _ (parse s) (sym g) (sym p)
              (end_shows (next_at s fourth) rd before out _ same
              (list.shown.stands ∙ ap (λ (l : List ℕ). written 0 l before) (sym ws)) list_long)

          -- a condition
          module _ (wanted : ℕ) (e5 : Some wanted ≡ after_token Code.Where (token_at s fourth)) where
            where_there : next_at s fourth ≡ found (word Where) wanted
            unfolding code_word
            where_there = after_some Where s fourth wanted e5

            wanted_within : Within s fourth wanted
            wanted_within = found_within s fourth where_there

            pub wanted_inside : wanted ≤ length s
            wanted_inside = wanted_within.inside

            module _ (from : ℕ) (f : from ≡ 2 * r.count) where
              pub condition_room : from + 2 * (length s - wanted) ≤ length out
              condition_room = omega (
                arith,
                f,
                words_few,
                next_is,
                fourth_within.after,
                wanted_within.after,
                wanted_inside,
                list_long,
                room,
              )

              parse_conditional : parse s ≡ conditioned s list.items (condition_at s wanted)
              unfolding text_end
              parse_conditional = parse_is ∙ rw (text_end, takes_word s fourth Where where_there)

              module _ (after : List ℕ) where
                module _ (x : CodeOption Parse)
                    (g : Gave (λ n. or_at n s wanted) (4 * (length s - wanted) + 4) s wanted from out after x) where
                  given_is : condition_at s wanted ≡ g.given
                  unfolding condition_at
                  given_is = g.steady (4 * length s + 4) (omega arith)

                  pub after_long : length after ≡ length before
                  after_long =
                      shows_same s wanted from out after x g.given g.shown condition_room ∙ list_long

                pub no_condition :
                    Gave (λ n. or_at n s wanted) (4 * (length s - wanted) + 4) s wanted from out after None
                    → parse s ≡ none
                unfolding conditioned
                no_condition g =
                    parse_conditional ∙ ap (conditioned s list.items) (given_is None g
                    ∙ (condition_none s wanted from out after g.given g.shown).0)

                module _ (c : Parse)
                    (g : Gave (λ n. or_at n s wanted) (4 * (length s - wanted) + 4) s wanted from out after (Some c)) where
                  there : ConditionFound s wanted from out after c g.given
                  there = condition_found s wanted from out after c g.given g.shown

                  pub end_inside : c.next ≤ length s
                  end_inside = omega (arith, shows_next there.shown, there.shown.inside)

                  pub whole_shows : {t : CodeOption Text}
                      → t ≡ text_if (is_at_end (token_at s c.next))
                      (record { items = r.count; depth = Some c.depth; end = c.end })
                      → TextShows before after t (parse s)
                  unfolding conditioned token_at text_of reading_words condition_words condition_depth
                  whole_shows {t} h =
                      let d : Deep = there.condition in
                      let rd : Reading =
                      record { items = list.items; condition = some d.condition; depth = d.depth } in
                      let ws : List ℕ = item_words list.items in
                      let l : length ws ≡ from = omega (arith, words_long list.items, count_is, f) in
                      let p : parse s ≡ whole rd (next_at s there.next) =
                      parse_conditional ∙ ap (conditioned s list.items) (given_is (Some c) g ∙ there.is) in
                      let e : c.end ≡ length (ws ++ program d.condition) =
                      shows_end there.shown ∙ omega (arith, length-append ws (program d.condition), l) in
                      let same : ◌≡◌ {A = Text}
                      (record { items = r.count; depth = Some c.depth; end = c.end }) (text_of rd) =
                      (λ i. record { items = count_is i; depth = Some (shows_depth there.shown i); end = e i }) in
                      let w : after ≡ written 0 (ws ++ program d.condition) before =
                      there.shown.stands
                      ∙ ap₂ (λ (j : ℕ) (x : List ℕ). written j (program d.condition) x)
                      (omega (arith, l)) list.shown.stands
                      ∙ written_both 0 ws (program d.condition) before
                      (omega (arith, l, f, words_few, third_inside, room)) in
                      shows_as before after _ t _ (parse s)
                      (sym (h ∙ ap (λ (k : ℕ). text_if (is_at_end (shown (next_at s k)))
                      (record { items = r.count; depth = Some c.depth; end = c.end }))
                      (shows_next there.shown))) (sym p)
                      (end_shows (next_at s there.next) rd before after _ same w (after_long (Some c) g))
