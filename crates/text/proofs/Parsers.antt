-- The parsers of `not` and of a primary, the comparison as a condition, and the chains as instances.
-- In order: the closing parenthesis; the words of a comparison; `not`; primaries; the chains.
-- Assumes nothing.
use mathlib.Core.Path.{◌≡◌, refl, sym, ap, ap₂, subst, ◌∙◌}
use mathlib.Core.List.{List, [], ◌∷◌, ◌++◌}
use mathlib.Core.Option.{none}
use Prim.Native.Nat.{ℕ, zero, suc, ◌+◌, ◌-◌, ◌*◌, ◌≤◌, ◌<◌}
use native.Mathlib.Nat.{zero-max}
use native.Mathlib.Numerals.{add-one}
use native.Mathlib.Omega.{arith}
use denote.Enum.Declared.{tag_of}
use lib.ListN.{length, length-append}
use Rattle.std.proofs.Common.{Option as CodeOption, Some, None}
use Rattle.std.proofs.lemmas.Option.{same_Some}
use Rattle.grammar.specs.Pieces.{word, And, Or, Not, Opening, Closing}
use Rattle.grammar.specs.Grammar.{negated, both, either}
use Rattle.grammar.specs.Parser.{found, next_at, behind, Parsed, failed, parsed, ◌and_then◌, if_word, Deep}
use Rattle.grammar.specs.Parser.{comparison_at, or_at, or_more, and_at, and_more, not_at, primary_at, condition_at}
use Rattle.text.specs.Tokens.{code_word, letter_word, code_operator_number, token_at}
use Rattle.text.specs.Programs.{program, written, Shows, Gave, after_token, with_word, word_written}
use Rattle.text.specs.Programs.{closed_by, closing, compared_words, right_words, ComparedParsed, ComparedShows}
use Rattle.text.specs.declared.Word.TheVariants as Code
use Rattle.text.specs.declared.Parse.{Parse}
use Rattle.text.specs.contracts.Operator.{the_type}
use Rattle.text.specs.declared.Operator.{Operator as CodeOperator}
use Rattle.text.specs.declared.Operator.TheVariants as Sign
use Rattle.text.specs.declared.Operand.{Operand as CodeOperand}
use Rattle.text.specs.declared.Operand.TheVariants as Side
use Rattle.text.specs.declared.Compared.{Compared}
use Rattle.grammar.proofs.Nexts.{Within, found_within}
use Rattle.grammar.proofs.Complete.{takes_word, if_some, if_none, then_parsed}
use Rattle.text.proofs.Comparing.{then_failed}
use Rattle.text.proofs.Writing.{written_both, after_none, after_some}
use Rattle.text.proofs.Chains.{shows_next, shows_depth, shows_end, shows_same, ConditionFound, condition_found}
use Rattle.text.proofs.Chains.{condition_none, word_value, word_words, Chain, Round}

-- ---- the closing parenthesis

module _ (s : List ℕ) (c : Parse) where
  pub closed_missing : None ≡ after_token Code.Close (token_at s c.next) → None ≡ closing s c
  unfolding closing closed_by
  closed_missing e = ap (closed_by c) e

  pub closed_there : (next : ℕ) → Some next ≡ after_token Code.Close (token_at s c.next)
      → Some (record { next = next; depth = c.depth + 1; end = c.end }) ≡ closing s c
  unfolding closing closed_by
  closed_there next e = ap (closed_by c) e

-- ---- the words of a comparison

right_long : (x : CodeOperand) → length (right_words x) ≡ 2
unfolding right_words
right_long (Side.Item v m) = refl
right_long (Side.Constant minus m) = refl

module _ (s : List ℕ) (at to : ℕ) (before : List ℕ) where
  pub comparison_fails : ComparedShows s at None (comparison_at s at)
      → Gave (λ n. comparison_at s at) 0 s at to before before None
  comparison_fails h = go (comparison_at s at) refl h
    where
      go : (y : Parsed Deep) → comparison_at s at ≡ y → ComparedShows s at None y
          → Gave (λ n. comparison_at s at) 0 s at to before before None
      go failed f k = record { given = failed; steady = λ n l. f; shown = unfold Shows in (refl, refl) }
      go (parsed c next) f k = unfold ComparedShows in (let e = k.same in cc)

  record ComparisonFound (x : Compared) : Type 0 where
    condition : Deep
    next : ℕ
    is : comparison_at s at ≡ parsed condition next
    shown : ComparedParsed s at (Some x) condition next

  comparison_found : (x : Compared) → ComparedShows s at (Some x) (comparison_at s at) → ComparisonFound x
  comparison_found x h = go (comparison_at s at) refl h
    where
      go : (y : Parsed Deep) → comparison_at s at ≡ y → ComparedShows s at (Some x) y → ComparisonFound x
      go failed f k = unfold ComparedShows in (let e : Some x ≡ None = k in cc)
      go (parsed c next) f k = unfold ComparedShows in (record { condition = c; next = next; is = f; shown = k })

  module _ (x : Compared) (h : ComparedShows s at (Some x) (comparison_at s at))
      (room : to + 2 * (length s - at) ≤ length before) where
    there : ComparisonFound x
    there = comparison_found x h

    pub comparison_room : to + 6 ≤ length before
    comparison_room = omega (arith, there.shown.long, there.shown.inside)

    module _ (after : List ℕ) (end : ℕ) (e : end ≡ to + 6) (w : after ≡ written to (compared_words x) before) where
      same_found : x ≡ there.shown.found
      same_found = same_Some _ _ there.shown.same

      its_next : x.next ≡ there.next
      its_next = ap (λ (y : Compared). y.next) same_found ∙ there.shown.behind

      its_words : compared_words x ≡ program there.condition.condition
      its_words = ap compared_words same_found ∙ there.shown.words

      long : length (program there.condition.condition) ≡ 6
      unfolding compared_words
      long = sym (ap length its_words) ∙ omega (arith, right_long x.right)

      pub comparison_done : Gave (λ n. comparison_at s at) 0 s at to before after
          (Some (record { next = x.next; depth = 0; end = end }))
      unfolding Shows
      comparison_done = record {
        given = parsed there.condition there.next;
        steady = λ n l. there.is;
        shown = record {
          same = λ i. Some (record { next = its_next i; depth = sym there.shown.depth i; end = last i });
          stands = w ∙ ap (λ (l : List ℕ). written to l before) its_words;
          forward = omega (arith, there.shown.long);
          inside = there.shown.inside;
          words = omega (arith, there.shown.long, long);
          depth = omega (arith, there.shown.depth);
        };
      }
        where
          last : end ≡ to + length (program there.condition.condition)
          last = omega (arith, long)

-- ---- one word more before a parser's place

module _ (s : List ℕ) (at to : ℕ) (before : List ℕ) (room : to + 2 * (length s - at) ≤ length before) where
  abbrev NotGave : List ℕ → CodeOption Parse → Type 0
  NotGave after r = Gave (λ n. not_at n s at) (4 * (length s - at) + 2) s at to before after r

  abbrev PrimaryGave : List ℕ → CodeOption Parse → Type 0
  PrimaryGave after r = Gave (λ n. primary_at n s at) (4 * (length s - at) + 1) s at to before after r

  -- a word was found, which ends at next
  module _ (next : ℕ) (w : Within s at next) where
    pub inner_room : to + 2 * (length s - next) ≤ length before
    inner_room = omega (arith, w.after, w.inside)

    inner_slack : to + 2 * (length s - next) + 2 ≤ length before
    inner_slack = omega (arith, w.after, w.inside)

    module _ (after : List ℕ) (x : Parsed Deep) where
      pub inner_length : (q : CodeOption Parse) → Shows s next to before after q x → length after ≡ length before
      inner_length q h = shows_same s next to before after q x h inner_room

      module _ (q : Parse) (h : Shows s next to before after (Some q) x) where
        inner : ConditionFound s next to before after q x
        inner = condition_found s next to before after q x h

        pub inner_end : q.end < length after
        inner_end = omega (
          arith,
          shows_end inner.shown,
          inner.shown.words,
          inner.shown.inside,
          inner.shown.forward,
          inner_slack,
          inner_length (Some q) h,
        )

        pub inner_closed : (q.next ≤ length s) × (q.depth < length s)
        inner_closed = (
          omega (arith, shows_next inner.shown, inner.shown.inside),
          omega (
            arith,
            shows_depth inner.shown,
            inner.shown.depth,
            inner.shown.inside,
            inner.shown.forward,
            w.after,
          ),
        )

  -- ---- `not`

  pub not_plain : None ≡ after_token Code.Not (token_at s at) → (after : List ℕ) (r : CodeOption Parse)
      → PrimaryGave after r → NotGave after r
  unfolding code_word
  not_plain e after r g = record { given = g.given; steady = go; shown = g.shown }
    where
      stops : behind Not (next_at s at) ≡ none
      stops = after_none Not s at e

      go : (n : ℕ) → 4 * (length s - at) + 2 ≤ n → not_at n s at ≡ g.given
      go zero l = absurd (omega arith)
      go (suc n) l = unfold or_at in (if_none _ _ stops ∙ g.steady n (omega arith))

  module _ (next : ℕ) (e : Some next ≡ after_token Code.Not (token_at s at)) where
    pub not_within : Within s at next
    unfolding code_word
    not_within = found_within s at (after_some Not s at next e)

    step : (m : ℕ) → not_at (suc m) s at
        ≡ (not_at m s next and_then λ c end. parsed (record { condition = negated c.condition; depth = c.depth }) end)
    unfolding code_word or_at
    step m = if_some _ _ (takes_word s at Not (after_some Not s at next e))

    abbrev InnerNot : List ℕ → CodeOption Parse → Type 0
    InnerNot after q = Gave (λ n. not_at n s next) (4 * (length s - next) + 2) s next to before after q

    pub not_fails : (after1 : List ℕ) → InnerNot after1 None → NotGave after1 None
    not_fails after1 p =
        record { given = failed; steady = steady; shown = unfold Shows in (refl, n.1) }
      where
        n : (p.given ≡ failed) × (length after1 ≡ length before)
        n = condition_none s next to before after1 p.given p.shown

        steady : (m : ℕ) → 4 * (length s - at) + 2 ≤ m → not_at m s at ≡ failed
        steady zero l = absurd (omega arith)
        steady (suc m) l =
            step m ∙ then_failed _ (p.steady m (omega (arith, not_within.after, not_within.inside)) ∙ n.0)

    pub not_behind : (after1 : List ℕ) (q : Parse) → InnerNot after1 (Some q) → (after2 : List ℕ) (r : Parse)
        → r ≡ with_word q 0 → after2 ≡ word_written q 1 after1 → NotGave after2 (Some r)
    not_behind after1 q p after2 r er ea = record {
      given = parsed (record { condition = negated h.condition.condition; depth = h.condition.depth }) h.next;
      steady = steady;
      shown = unfold Shows in (record {
        same = ap (λ (x : Parse). Some x) value;
        stands = words;
        forward = omega (arith, not_within.after, h.shown.forward);
        inside = h.shown.inside;
        words = unfold program in omega (arith, long, not_within.after, h.shown.words, h.shown.forward);
        depth = omega (arith, not_within.after, h.shown.depth);
      });
    }
      where
        h : ConditionFound s next to before after1 q p.given
        h = condition_found s next to before after1 q p.given p.shown

        long : length (program h.condition.condition ++ 1 ∷ []) ≡ length (program h.condition.condition) + 1
        long = length-append (program h.condition.condition) (1 ∷ [])

        steady : (m : ℕ) → 4 * (length s - at) + 2 ≤ m → not_at m s at
            ≡ parsed (record { condition = negated h.condition.condition; depth = h.condition.depth }) h.next
        steady zero l = absurd (omega arith)
        steady (suc m) l =
            step m ∙ then_parsed _ (p.steady m (omega (arith, not_within.after, not_within.inside)) ∙ h.is)

        value : r ≡ record {
          next = h.next;
          depth = h.condition.depth;
          end = to + length (program (negated h.condition.condition));
        }
        value = er ∙ word_value 0 1 h.shown
            ∙ ap₂ {C = Parse} (λ (d e : ℕ). record { next = h.next; depth = d; end = e })
            (zero-max h.condition.depth) (unfold program in (let z : to + length (program h.condition.condition) + 1
            ≡ to + length (program h.condition.condition ++ 1 ∷ []) = omega (arith, long) in z))

        words : after2 ≡ written to (program (negated h.condition.condition)) before
        words = unfold program in (ea ∙ word_words 0 1 h.shown (omega (
          arith,
          h.shown.words,
          h.shown.inside,
          h.shown.forward,
          inner_room next not_within,
        )))

  -- ---- primaries

  pub primary_plain : None ≡ after_token Code.Open (token_at s at) → (after : List ℕ) (r : CodeOption Parse)
      → Gave (λ n. comparison_at s at) 0 s at to before after r → PrimaryGave after r
  unfolding code_word
  primary_plain e after r g = record { given = g.given; steady = go; shown = g.shown }
    where
      stops : behind Opening (next_at s at) ≡ none
      stops = after_none Opening s at e

      go : (n : ℕ) → 4 * (length s - at) + 1 ≤ n → primary_at n s at ≡ g.given
      go zero l = absurd (omega arith)
      go (suc n) l = unfold or_at in (if_none _ _ stops ∙ g.steady 0 (omega arith))

  module _ (next : ℕ) (e : Some next ≡ after_token Code.Open (token_at s at)) where
    pub primary_within : Within s at next
    unfolding code_word
    primary_within = found_within s at (after_some Opening s at next e)

    abbrev closed_or : Deep → ℕ → Parsed Deep
    closed_or c mid = if_word (behind Closing (next_at s mid))
        (λ end. parsed (record { condition = c.condition; depth = suc c.depth }) end) (λ u. failed)

    primary_step : (m : ℕ) → primary_at (suc m) s at ≡ (or_at m s next and_then closed_or)
    unfolding or_at code_word
    primary_step m = if_some _ _ (takes_word s at Opening (after_some Opening s at next e))

    abbrev InnerOr : List ℕ → CodeOption Parse → Type 0
    InnerOr after q = Gave (λ n. or_at n s next) (4 * (length s - next) + 4) s next to before after q

    primary_steady : (x y : Parsed Deep) → ((m : ℕ) → 4 * (length s - next) + 4 ≤ m → or_at m s next ≡ x)
        → (x and_then closed_or) ≡ y → (m : ℕ) → 4 * (length s - at) + 1 ≤ m → primary_at m s at ≡ y
    primary_steady x y f g zero l = absurd (omega arith)
    primary_steady x y f g (suc m) l =
        primary_step m
        ∙ ap (λ (z : Parsed Deep). z and_then closed_or)
        (f m (omega (arith, primary_within.after, primary_within.inside)))
        ∙ g

    pub primary_fails : (after : List ℕ) → InnerOr after None → PrimaryGave after None
    primary_fails after p =
        let n = condition_none s next to before after p.given p.shown in
        record {
          given = failed;
          steady = primary_steady p.given failed p.steady (then_failed _ n.0);
          shown = unfold Shows in (refl, n.1);
        }

    module _ (after : List ℕ) (q : Parse) (p : InnerOr after (Some q)) where
      h : ConditionFound s next to before after q p.given
      h = condition_found s next to before after q p.given p.shown

      -- the closing parenthesis is there, or it is not
      ends : (x : CodeOption ℕ) → x ≡ after_token Code.Close (token_at s q.next) → PrimaryGave after (closed_by q x)
      unfolding Shows closed_by code_word
      ends None e6 = record {
        given = failed;
        steady = primary_steady p.given failed p.steady (then_parsed _ h.is ∙ if_none _ _
            (subst (λ (m : ℕ). behind Closing (next_at s m) ≡ none) (shows_next h.shown)
            (after_none Closing s q.next e6)));
        shown = (refl, inner_length next primary_within after p.given (Some q) p.shown);
      }
      ends (Some end) e6 =
          let there = subst (λ (m : ℕ). next_at s m ≡ found (word Closing) end) (shows_next h.shown)
          (after_some Closing s q.next end e6) in
          let w = found_within s h.next there in
          record {
            given = parsed (record { condition = h.condition.condition; depth = suc h.condition.depth }) end;
            steady = primary_steady p.given _ p.steady
                (then_parsed _ h.is ∙ if_some _ _ (takes_word s h.next Closing there));
            shown = record {
              same = ap₂ {C = CodeOption Parse} (λ (d e : ℕ). Some (record { next = end; depth = d; end = e }))
                  (ap (λ (d : ℕ). d + 1) (shows_depth h.shown) ∙ add-one h.condition.depth) (shows_end h.shown);
              stands = h.shown.stands;
              forward = omega (arith, primary_within.after, h.shown.forward, w.after);
              inside = w.inside;
              words = omega (arith, primary_within.after, h.shown.forward, h.shown.words, w.after);
              depth = omega (arith, primary_within.after, h.shown.forward, h.shown.depth, w.after);
            };
          }

      pub primary_closed : (r : CodeOption Parse) → r ≡ closing s q → PrimaryGave after r
      unfolding closing
      primary_closed r er =
          subst (λ (x : CodeOption Parse). PrimaryGave after x) (sym er) (ends (after_token Code.Close (token_at s q.next)) refl)

-- ---- the chains

pub or_chain : (s : List ℕ) → Chain s Or either 3 3 (λ n at. or_at n s at) (λ n at. and_at n s at) (λ n c at. or_more n s c at)
unfolding or_at program
or_chain s = record {
  whole_is = λ n at. refl;
  more_is = λ n c at. refl;
  words = λ c e. refl;
  small = omega arith;
}

pub and_chain : (s : List ℕ)
    → Chain s And both 2 2 (λ n at. and_at n s at) (λ n at. not_at n s at) (λ n c at. and_more n s c at)
unfolding or_at program
and_chain s = record {
  whole_is = λ n at. refl;
  more_is = λ n c at. refl;
  words = λ c e. refl;
  small = omega arith;
}

-- what the loops keep, whatever the words were before the first part was written
abbrev pub OrKeeps : List ℕ → ℕ → ℕ → List ℕ → Parse → List ℕ → Parse → Type 0
OrKeeps s at to first c₀ out c =
    (before : List ℕ) → to + 2 * (length s - at) ≤ length before
    → Gave (λ n. and_at n s at) (4 * (length s - at) + 3) s at to before first (Some c₀)
    → Round s Or either 3 3 (λ n at. or_at n s at) (λ n at. and_at n s at) (λ n c at. or_more n s c at) at to before out c

abbrev pub AndKeeps : List ℕ → ℕ → ℕ → List ℕ → Parse → List ℕ → Parse → Type 0
AndKeeps s at to first c₀ out c =
    (before : List ℕ) → to + 2 * (length s - at) ≤ length before
    → Gave (λ n. not_at n s at) (4 * (length s - at) + 2) s at to before first (Some c₀)
    → Round s And both 2 2 (λ n at. and_at n s at) (λ n at. not_at n s at) (λ n c at. and_more n s c at) at to before out c

-- the number of an operator is its place among them
pub operator_tag : (o : CodeOperator) → tag_of the_type o ≡ code_operator_number o
unfolding code_operator_number
operator_tag Sign.Equal = refl
operator_tag Sign.Unequal = refl
operator_tag Sign.Less = refl
operator_tag Sign.AtMost = refl
operator_tag Sign.Greater = refl
operator_tag Sign.AtLeast = refl

-- six words, one behind the other
module _ (x : Compared) (to a1 a2 a3 a4 a5 a6 : ℕ) (o0 o1 o2 o3 o4 o5 o6 : List ℕ) (w1 w2 w3 w4 : ℕ)
    (room : to + 6 ≤ length o0) (e1 : a1 ≡ to + 1) (e2 : a2 ≡ a1 + 1) (e3 : a3 ≡ a2 + 1) (e4 : a4 ≡ a3 + 1)
    (e5 : a5 ≡ a4 + 1) (e6 : a6 ≡ a5 + 1) (f1 : o1 ≡ written to (0 ∷ []) o0) (f2 : o2 ≡ written a1 (w1 ∷ []) o1)
    (f3 : o3 ≡ written a2 (x.name ∷ []) o2) (f4 : o4 ≡ written a3 (w2 ∷ []) o3)
    (f5 : o5 ≡ written a4 (w3 ∷ []) o4) (f6 : o6 ≡ written a5 (w4 ∷ []) o5) (g1 : w1 ≡ letter_word x.letter)
    (g2 : w2 ≡ code_operator_number x.operator) (g3 : w3 ∷ w4 ∷ [] ≡ right_words x.right) where
  one_on : (k a : ℕ) (l o o' : List ℕ) (w : ℕ) → o ≡ written to l o0 → length l ≡ k → a ≡ to + k → k < 6
      → o' ≡ written a (w ∷ []) o → o' ≡ written to (l ++ w ∷ []) o0
  one_on k a l o o' w f g e h q =
      q ∙ ap₂ (λ (i : ℕ) (y : List ℕ). written i (w ∷ []) y) (e ∙ ap (λ (j : ℕ). to + j) (sym g)) f
      ∙ written_both to l (w ∷ []) o0 (omega (arith, g))

  pub six_written : (a6 ≡ to + 6) × (o6 ≡ written to (compared_words x) o0)
  unfolding compared_words
  six_written =
      let h2 = one_on 1 a1 (0 ∷ []) o1 o2 w1 f1 refl e1 (omega arith) f2 in
      let h3 = one_on 2 a2 (0 ∷ w1 ∷ []) o2 o3 x.name h2 refl (omega arith) (omega arith) f3 in
      let h4 = one_on 3 a3 (0 ∷ w1 ∷ x.name ∷ []) o3 o4 w2 h3 refl (omega arith) (omega arith) f4 in
      let h5 = one_on 4 a4 (0 ∷ w1 ∷ x.name ∷ w2 ∷ []) o4 o5 w3 h4 refl (omega arith) (omega arith) f5 in
      let h6 = one_on 5 a5 (0 ∷ w1 ∷ x.name ∷ w2 ∷ w3 ∷ []) o5 o6 w4 h5 refl (omega arith) (omega arith) f6 in
      (omega arith, h6 ∙ (λ i. written to (0 ∷ g1 i ∷ x.name ∷ g2 i ∷ g3 i) o0))

-- ---- a whole condition

pub condition_shows : (s : List ℕ) (at : ℕ) (before after : List ℕ) (r : CodeOption Parse)
    → Gave (λ n. or_at n s at) (4 * (length s - at) + 4) s at 0 before after r
    → Shows s at 0 before after r (condition_at s at)
unfolding condition_at
condition_shows s at before after r g =
    subst (Shows s at 0 before after r) (sym (g.steady (4 * length s + 4) (omega arith))) g.shown
