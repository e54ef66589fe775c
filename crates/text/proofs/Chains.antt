-- The chains of `or` and of `and`: what the loops of their parsers keep.
-- In order: what a value shows; a round of a chain; the first part, the end, one part more.
-- Assumes nothing.
use mathlib.Core.Path.{◌≡◌, refl, sym, ap, ap₂, subst, ◌∙◌}
use mathlib.Core.List.{List, [], ◌∷◌, ◌++◌}
use mathlib.Core.Option.{none}
use Prim.Native.Nat.{ℕ, zero, suc, ◌+◌, ◌-◌, ◌*◌, ◌≤◌, ◌<◌, max}
use native.Mathlib.Omega.{arith}
use lib.ListN.{length, length-append}
use Rattle.std.proofs.Common.{Option as CodeOption, Some, None}
use Rattle.std.proofs.lemmas.Option.{same_Some}
use Rattle.grammar.specs.Pieces.{Word, word}
use Rattle.grammar.specs.Grammar.{Condition}
use Rattle.grammar.specs.Parser.{found, next_at, behind, Parsed, failed, parsed, ◌and_then◌, if_word, Deep}
use Rattle.text.specs.Tokens.{code_word, token_at}
use Rattle.text.specs.Programs.{program, written, ShowsParsed, Shows, Gave, after_token, with_word, word_written}
use Rattle.text.specs.declared.Parse.{Parse}
use Rattle.grammar.proofs.Nexts.{Within, found_within}
use Rattle.grammar.proofs.Complete.{takes_word, if_some, if_none, then_parsed}
use Rattle.text.proofs.Comparing.{then_failed}
use Rattle.text.proofs.Writing.{written_length, written_both, after_none, after_some}

-- ---- what a value shows

module _ {s : List ℕ} {at to : ℕ} {before after : List ℕ} where
  pub shows_length : {r : CodeOption Parse} {c : Deep} {next : ℕ} → ShowsParsed s at to before after r c next
      → to + 2 * (length s - at) ≤ length before → length after ≡ length before
  shows_length {c = c} h l =
      ap length h.stands
      ∙ written_length to (program c.condition) before (omega (arith, h.words, h.inside, h.forward))

  -- the value of a condition
  module _ {r : Parse} {c : Deep} {next : ℕ} (h : ShowsParsed s at to before after (Some r) c next) where
    pub shows_is : r ≡ record { next = next; depth = c.depth; end = to + length (program c.condition) }
    shows_is = same_Some _ _ h.same

    pub shows_next : r.next ≡ next
    shows_next = ap (λ (p : Parse). p.next) shows_is

    pub shows_depth : r.depth ≡ c.depth
    shows_depth = ap (λ (p : Parse). p.depth) shows_is

    pub shows_end : r.end ≡ to + length (program c.condition)
    shows_end = ap (λ (p : Parse). p.end) shows_is

pub shows_same : (s : List ℕ) (at to : ℕ) (before after : List ℕ) (r : CodeOption Parse) (x : Parsed Deep)
    → Shows s at to before after r x → to + 2 * (length s - at) ≤ length before → length after ≡ length before
unfolding Shows
shows_same s at to before after r failed h l = h.1
shows_same s at to before after r (parsed c next) h l = shows_length h l

-- the condition that the code found
pub record ConditionFound (s : List ℕ) (at to : ℕ) (before after : List ℕ) (r : Parse) (x : Parsed Deep) : Type 0 where
  pub condition : Deep
  pub next : ℕ
  pub is : x ≡ parsed condition next
  pub shown : ShowsParsed s at to before after (Some r) condition next

module _ (s : List ℕ) (at to : ℕ) (before after : List ℕ) where
  pub condition_found : (r : Parse) (x : Parsed Deep) → Shows s at to before after (Some r) x
      → ConditionFound s at to before after r x
  unfolding Shows
  condition_found r failed h = let e = h.0 in cc
  condition_found r (parsed c next) h = record { condition = c; next = next; is = refl; shown = h }

  pub condition_none : (x : Parsed Deep) → Shows s at to before after None x
      → (x ≡ failed) × (length after ≡ length before)
  unfolding Shows
  condition_none failed h = (refl, h.1)
  condition_none (parsed c next) h = let e = h.same in cc

-- a word more behind a value that shows a condition
module _ {s : List ℕ} {at to : ℕ} {before after : List ℕ} {q : Parse} {g : Deep} {end : ℕ} (d code : ℕ)
    (h : ShowsParsed s at to before after (Some q) g end) where
  pub word_value : with_word q d
      ≡ record { next = end; depth = max d g.depth; end = to + length (program g.condition) + 1 }
  unfolding with_word
  word_value = ap (λ (x : Parse). with_word x d) (shows_is h)

  pub word_words : to + length (program g.condition) ≤ length before
      → word_written q code after ≡ written to (program g.condition ++ code ∷ []) before
  unfolding word_written
  word_words l =
      ap (λ (x : Parse). word_written x code after) (shows_is h)
      ∙ ap (written (to + length (program g.condition)) (code ∷ [])) h.stands
      ∙ written_both to (program g.condition) (code ∷ []) before l

-- ---- a round of a chain

module _ (s : List ℕ) (w : Word) (join : Condition → Condition → Condition) (code off : ℕ)
    (whole part : ℕ → ℕ → Parsed Deep) (more : ℕ → Deep → ℕ → Parsed Deep) where
  abbrev joined : Deep → Deep → Deep
  joined c e = record { condition = join c.condition e.condition; depth = max c.depth e.depth }

  -- the laws of a chain
  pub record Chain : Type 0 where
    pub whole_is : (n at : ℕ) → whole (suc n) at ≡ (part n at and_then λ c next. more n c next)
    pub more_is : (n : ℕ) (c : Deep) (at : ℕ) → more (suc n) c at
        ≡ if_word (behind w (next_at s at)) (λ next. part n next and_then λ e end. more n (joined c e) end) (λ u. parsed c at)
    pub words : (c e : Condition) → program (join c e) ≡ program c ++ (program e ++ code ∷ [])
    pub small : off ≤ 3

  -- what is parsed so far is what the chain goes on with
  pub record Round (at to : ℕ) (before after : List ℕ) (r : Parse) : Type 0 where
    pub so_far : Deep
    pub next : ℕ
    pub goes : (n : ℕ) → 4 * (length s - at) + suc off ≤ n
        → (k : ℕ) × ((4 * (length s - next) + 1 ≤ k) × (whole n at ≡ more k so_far next))
    pub shown : ShowsParsed s at to before after (Some r) so_far next

  module _ (laws : Chain) (at to : ℕ) (before : List ℕ) (room : to + 2 * (length s - at) ≤ length before) where
    abbrev Whole : List ℕ → CodeOption Parse → Type 0
    Whole after r = Gave (λ n. whole n at) (4 * (length s - at) + suc off) s at to before after r

    -- ---- the first part

    pub round_start : (after : List ℕ) (r : Parse)
        → Gave (λ n. part n at) (4 * (length s - at) + off) s at to before after (Some r) → Round at to before after r
    round_start after r g = record { so_far = h.condition; next = h.next; goes = go; shown = h.shown }
      where
        h : ConditionFound s at to before after r g.given
        h = condition_found s at to before after r g.given g.shown

        go : (n : ℕ) → 4 * (length s - at) + suc off ≤ n
            → (k : ℕ) × ((4 * (length s - h.next) + 1 ≤ k) × (whole n at ≡ more k h.condition h.next))
        go zero l = absurd (omega arith)
        go (suc m) l = (
          m,
          (
            omega (arith, h.shown.forward, h.shown.inside),
            laws.whole_is m at ∙ then_parsed _ (g.steady m (omega arith) ∙ h.is),
          ),
        )

    -- there is none
    pub round_none : (after : List ℕ) → Gave (λ n. part n at) (4 * (length s - at) + off) s at to before after None
        → Whole after None
    round_none after g =
        record { given = failed; steady = go; shown = unfold Shows in (refl, none_there.1) }
      where
        none_there : (g.given ≡ failed) × (length after ≡ length before)
        none_there = condition_none s at to before after g.given g.shown

        go : (n : ℕ) → 4 * (length s - at) + suc off ≤ n → whole n at ≡ failed
        go zero l = absurd (omega arith)
        go (suc m) l = laws.whole_is m at ∙ then_failed _ (g.steady m (omega arith) ∙ none_there.0)

    module _ (after : List ℕ) (r : Parse) (g : Round at to before after r) where
      pub round_inside : r.next ≤ length s
      round_inside = omega (arith, shows_next g.shown, g.shown.inside)

      pub round_length : length after ≡ length before
      round_length = shows_length g.shown room

      -- ---- the end

      pub round_ends : None ≡ after_token (code_word w) (token_at s r.next) → Whole after (Some r)
      round_ends e =
          record {
            given = parsed g.so_far g.next;
            steady = λ n l. let k = g.goes n l in k.1.1 ∙ last k.0 k.1.0;
            shown = unfold Shows in g.shown;
          }
        where
          stops : behind w (next_at s g.next) ≡ none
          stops = subst (λ (m : ℕ). behind w (next_at s m) ≡ none) (shows_next g.shown) (after_none w s r.next e)

          last : (k : ℕ) → 4 * (length s - g.next) + 1 ≤ k → more k g.so_far g.next ≡ parsed g.so_far g.next
          last zero l = absurd (omega arith)
          last (suc k) l = laws.more_is k g.so_far g.next ∙ if_none _ _ stops

      module _ (next : ℕ) (e : Some next ≡ after_token (code_word w) (token_at s r.next)) where
        word_there : next_at s r.next ≡ found (word w) next
        word_there = after_some w s r.next next e

        word_within : Within s r.next next
        word_within = found_within s r.next word_there

        pub round_next_inside : next ≤ length s
        round_next_inside = word_within.inside

        -- a byte or more is the word's
        round_slack : r.end + 2 * (length s - next) + 2 ≤ length after
        round_slack = omega (
          arith,
          shows_end g.shown,
          shows_next g.shown,
          g.shown.words,
          g.shown.forward,
          word_within.after,
          word_within.inside,
          round_length,
        )

        pub round_room : r.end + 2 * (length s - next) ≤ length after
        round_room = omega (arith, round_slack)

        pub round_falls : 4 * (length s - next) + off < 4 * (length s - at) + suc off
        round_falls =
            omega (arith, shows_next g.shown, g.shown.forward, word_within.after, word_within.inside)

        -- ---- one part more

        abbrev Part : List ℕ → CodeOption Parse → Type 0
        Part after1 x = Gave (λ n. part n next) (4 * (length s - next) + off) s next r.end after after1 x

        module _ (after1 : List ℕ) (x : CodeOption Parse) (p : Part after1 x) where
          pub part_length : length after1 ≡ length after
          part_length = shows_same s next r.end after after1 x p.given p.shown round_room

          -- the chain goes on behind the word
          on : (n : ℕ) → 4 * (length s - at) + suc off ≤ n
              → (k : ℕ) × ((4 * (length s - next) + 4 ≤ k)
              × (whole n at ≡ (p.given and_then λ e end. more k (joined g.so_far e) end)))
          on n l = go k.0 k.1.0 k.1.1
            where
              k : (k : ℕ) × ((4 * (length s - g.next) + 1 ≤ k) × (whole n at ≡ more k g.so_far g.next))
              k = g.goes n l

              there : next_at s g.next ≡ found (word w) next
              there = subst (λ (m : ℕ). next_at s m ≡ found (word w) next) (shows_next g.shown) word_there

              ahead : Within s g.next next
              ahead = found_within s g.next there

              go : (k : ℕ) → 4 * (length s - g.next) + 1 ≤ k → whole n at ≡ more k g.so_far g.next
                  → (k : ℕ) × ((4 * (length s - next) + 4 ≤ k)
                  × (whole n at ≡ (p.given and_then λ e end. more k (joined g.so_far e) end)))
              go zero a f = absurd (omega arith)
              go (suc k) a f = (
                k,
                (
                  omega (arith, ahead.after, ahead.inside),
                  f ∙ laws.more_is k g.so_far g.next
                      ∙ if_some _ _ (takes_word s g.next w there)
                      ∙ ap (λ (x : Parsed Deep). x and_then λ e end. more k (joined g.so_far e) end)
                      (p.steady k (omega (arith, laws.small, ahead.after, ahead.inside))),
                ),
              )

        -- no part stands there
        pub part_fails : (after1 : List ℕ) → Part after1 None → Whole after1 None
        part_fails after1 p =
            let n = condition_none s next r.end after after1 p.given p.shown in
            record {
              given = failed;
              steady = λ m l. let o = on after1 None p m l in o.1.1 ∙ then_failed _ n.0;
              shown = unfold Shows in (refl, n.1 ∙ round_length);
            }

        module _ (after1 : List ℕ) (q : Parse) (p : Part after1 (Some q)) where
          there : ConditionFound s next r.end after after1 q p.given
          there = condition_found s next r.end after after1 q p.given p.shown

          pub part_room : q.end < length after1
          part_room = omega (
            arith,
            shows_end there.shown,
            there.shown.words,
            there.shown.inside,
            there.shown.forward,
            round_slack,
            part_length after1 (Some q) p,
          )

          module _ (after2 : List ℕ) (r' : Parse) (er : r' ≡ with_word q r.depth)
              (ea : after2 ≡ word_written q code after1) where
            next_value : r' ≡ record {
              next = there.next;
              depth = max g.so_far.depth there.condition.depth;
              end = to + length (program (join g.so_far.condition there.condition.condition));
            }
            next_value =
                er ∙ word_value r.depth code there.shown
                ∙ ap₂ {C = Parse} (λ (d e : ℕ). record { next = there.next; depth = d; end = e })
                (ap (λ (d : ℕ). max d there.condition.depth) (shows_depth g.shown)) long
              where
                long : r.end + length (program there.condition.condition) + 1
                    ≡ to + length (program (join g.so_far.condition there.condition.condition))
                long = omega (
                  arith,
                  shows_end g.shown,
                  ap length (laws.words g.so_far.condition there.condition.condition),
                  length-append (program g.so_far.condition) (program there.condition.condition ++ code ∷ []),
                  length-append (program there.condition.condition) (code ∷ []),
                )

            next_words : after2 ≡ written to (program (join g.so_far.condition there.condition.condition)) before
            next_words =
                ea ∙ word_words r.depth code there.shown
                (omega (arith, there.shown.words, there.shown.inside, there.shown.forward, round_room))
                ∙ ap₂ (λ (i : ℕ) (x : List ℕ). written i (program there.condition.condition ++ code ∷ []) x)
                (shows_end g.shown) g.shown.stands
                ∙ written_both to (program g.so_far.condition) (program there.condition.condition ++ code ∷ []) before
                (omega (arith, g.shown.words, g.shown.inside, g.shown.forward))
                ∙ ap (λ (x : List ℕ). written to x before)
                (sym (laws.words g.so_far.condition there.condition.condition))

            pub round_next : Round at to before after2 r'
            round_next = record {
              so_far = joined g.so_far there.condition;
              next = there.next;
              goes = λ n l. let o = on after1 (Some q) p n l in (
                o.0,
                (
                  omega (arith, o.1.0, there.shown.forward, there.shown.inside),
                  o.1.1 ∙ then_parsed _ there.is,
                ),
              );
              shown = record {
                same = ap (λ (x : Parse). Some x) next_value;
                stands = next_words;
                forward = omega (arith, g.shown.forward, shows_next g.shown, word_within.after, there.shown.forward);
                inside = there.shown.inside;
                words = omega (
                  arith,
                  ap length (laws.words g.so_far.condition there.condition.condition),
                  length-append (program g.so_far.condition) (program there.condition.condition ++ code ∷ []),
                  length-append (program there.condition.condition) (code ∷ []),
                  g.shown.words,
                  there.shown.words,
                  g.shown.forward,
                  shows_next g.shown,
                  word_within.after,
                  there.shown.forward,
                );
                depth = omega (
                  arith,
                  g.shown.depth,
                  there.shown.depth,
                  g.shown.forward,
                  shows_next g.shown,
                  word_within.after,
                  there.shown.forward,
                );
              };
            }

            pub round_less : length s - r'.next < length s - r.next
            round_less = omega (
              arith,
              ap (λ (x : Parse). x.next) next_value,
              word_within.after,
              there.shown.forward,
              there.shown.inside,
            )
