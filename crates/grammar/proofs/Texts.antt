-- Whole texts: what is parsed the grammar has, and what the grammar has is parsed.
-- In order: the head of a text; the end of a text; a reading from parsing; parsing from a reading.
-- Assumes nothing.
use mathlib.Core.Path.{◌≡◌, refl, sym, ap, ◌∙◌, subst}
use mathlib.Core.List.{List, [], ◌∷◌, ◌++◌, append_assoc}
use mathlib.Core.Option.{Option, none, some}
use Prim.Native.Nat.{ℕ, ◌≤◌}
use native.Mathlib.Omega.{arith}
use lib.ListN.{length, length-append}
use Rattle.grammar.specs.Pieces.{Word, And, Or, Comma, Opening, Closing, Where, Retrieve, Item, Piece, word}
use Rattle.grammar.specs.Grammar.{Condition, Reading, IsItems, IsOr, IsText, without, conditional, HasReading}
use Rattle.grammar.specs.Parser.{Next, found, at_end, wrong, next_at, word_number, behind, Parsed, failed, parsed}
use Rattle.grammar.specs.Parser.{items_at, Deep, condition_at, whole, conditioned, text_end, head_at, parse}
use Rattle.grammar.proofs.Spelled.{Finds, none_left, one_more, finds_append, finds_ahead, finds_parts}
use Rattle.grammar.proofs.Spelled.{finds_length, finds_spells, spells_finds, calm_text}
use Rattle.grammar.proofs.Sound.{behind_word, Derived, derived_then, derived_word, derived_failed, derived_parsed}
use Rattle.grammar.proofs.Sound.{items_derived, Or', condition_derived}
use Rattle.grammar.proofs.Complete.{takes_word, takes_none, if_some, then_parsed, finds_nil, items_complete}
use Rattle.grammar.proofs.Complete.{condition_complete}

-- ---- the head of a text

data IsHead : List Piece → List Item → Type 0 where
  head_of : {ps : List Piece} {is : List Item} → IsItems ps is
      → IsHead (word Retrieve ∷ word Opening ∷ (ps ++ word Closing ∷ [])) is

head_derived : (s : List ℕ) → Derived s IsHead 0 (head_at s)
unfolding head_at
head_derived s =
    derived_word s IsHead Retrieve 0 0 _ _
    (λ first e. derived_word s IsHead Opening 0 first _ _
    (λ second f. derived_then s IsItems IsHead 0 second (items_at (length s) s second) _ (items_derived (length s) s second)
    λ ps is third g t. derived_word s IsHead Closing 0 third _ _
    (λ fourth h. derived_parsed s IsHead 0 (word Retrieve ∷ word Opening ∷ (ps ++ word Closing ∷ [])) is fourth
    (one_more e (one_more f (finds_append g (one_more h none_left)))) (head_of t))
    (derived_failed s IsHead 0))
    (derived_failed s IsHead 0))
    (derived_failed s IsHead 0)

-- ---- the end of a text

whole_some : (r : Reading) (x : Next) (r' : Reading) → whole r x ≡ some r' → (x ≡ at_end) × (r ≡ r')
unfolding whole
whole_some r at_end r' e = let same : r ≡ r' = cc in (refl, same)
whole_some r wrong r' e = let z : ◌≡◌ {A = ℕ} 0 1 = cc in absurd (omega arith)
whole_some r (found p next) r' e = let z : ◌≡◌ {A = ℕ} 0 1 = cc in absurd (omega arith)

whole_end : (r : Reading) (s : List ℕ) (at : ℕ) → next_at s at ≡ at_end → whole r (next_at s at) ≡ some r
unfolding whole
whole_end r s at e = ap (whole r) e

-- ---- a reading from parsing

module _ (s : List ℕ) (r : Reading) where
  reading_of : (ps : List Piece) (end : ℕ) (r' : Reading) → Finds s 0 ps end → IsText ps r'
      → whole r' (next_at s end) ≡ some r → HasReading s r
  reading_of ps end r' f t e =
      let w = whole_some r' (next_at s end) r e in
      record { pieces = ps; spelled = finds_spells f w.0; derived = subst (IsText ps) w.1 t }

  head_text : {ps : List Piece} {is : List Item} → IsHead ps is
      → IsText ps (record { items = is; condition = none; depth = 0 })
  head_text (head_of t) = without t

  head_where : {ps : List Piece} {is : List Item} (qs : List Piece) {c : Condition} {d : ℕ} → IsHead ps is → IsOr qs c d
      → IsText (ps ++ word Where ∷ qs) (record { items = is; condition = some c; depth = d })
  head_where qs {c} {d} (head_of {ps = ps} {is = is} t) u =
      subst
      (λ (l : List Piece). IsText (word Retrieve ∷ word Opening ∷ l) (record { items = is; condition = some c; depth = d }))
      (sym (append_assoc ps (word Closing ∷ []) (word Where ∷ qs)))
      (conditional t u)

  conditional_reading : (ps : List Piece) (is : List Item) (at next : ℕ) → Finds s 0 ps at → IsHead ps is
      → next_at s at ≡ found (word Where) next → (x : Parsed Deep) → Derived s Or' next x
      → conditioned s is x ≡ some r → HasReading s r
  unfolding Derived conditioned
  conditional_reading ps is at next f t h failed d e = let z : ◌≡◌ {A = ℕ} 0 1 = cc in absurd (omega arith)
  conditional_reading ps is at next f t h (parsed c end) d e =
      reading_of (ps ++ word Where ∷ d.0) end _ (finds_append f (one_more h d.1.0)) (head_where d.0 t d.1.1) e

  end_reading : (ps : List Piece) (is : List Item) (at : ℕ) → Finds s 0 ps at → IsHead ps is → (x : Option ℕ)
      → behind Where (next_at s at) ≡ x
      → elim x [
        | none ↦ whole (record { items = is; condition = none; depth = 0 }) (next_at s at)
        | some next ↦ conditioned s is (condition_at s next)
      ]
      ≡ some r → HasReading s r
  end_reading ps is at f t none h e = reading_of ps at _ f (head_text t) e
  end_reading ps is at f t (some next) h e =
      conditional_reading ps is at next f t (behind_word Where (next_at s at) next h) (condition_at s next)
      (condition_derived s next) e

  head_reading : (x : Parsed (List Item)) → Derived s IsHead 0 x
      → elim x [ failed ↦ none | parsed is at ↦ text_end s is at ] ≡ some r → HasReading s r
  unfolding Derived text_end
  head_reading failed d e = let z : ◌≡◌ {A = ℕ} 0 1 = cc in absurd (omega arith)
  head_reading (parsed is at) d e =
      end_reading d.0 is at d.1.0 d.1.1 (behind Where (next_at s at)) refl e

  pub parse_reading : parse s ≡ some r → HasReading s r
  unfolding parse
  parse_reading e = head_reading (head_at s) (head_derived s) e

-- ---- parsing from a reading

module _ (s : List ℕ) where
  -- the head of a text, found with a parenthesis behind its items
  head_complete : (first second third fourth : ℕ) (ps : List Piece) (is : List Item)
      → next_at s 0 ≡ found (word Retrieve) first → next_at s first ≡ found (word Opening) second → IsItems ps is
      → Finds s second ps third → next_at s third ≡ found (word Closing) fourth → length ps ≤ length s
      → head_at s ≡ parsed is fourth
  unfolding head_at
  head_complete first second third fourth ps is e f t g h l =
      if_some _ _ (takes_word s 0 Retrieve e)
      ∙ if_some _ _ (takes_word s first Opening f)
      ∙ then_parsed _ (items_complete t s second third (length s) g
      (takes_none s third Comma h (unfold behind word_number in refl)) l)
      ∙ if_some _ _ (takes_word s third Closing h)

  at_end_fact : (w : Word) (at : ℕ) → next_at s at ≡ at_end → behind w (next_at s at) ≡ none
  unfolding behind
  at_end_fact w at e = ap (behind w) e

  end_without : (is : List Item) (at : ℕ) → next_at s at ≡ at_end
      → text_end s is at ≡ some (record { items = is; condition = none; depth = 0 })
  unfolding text_end
  end_without is at e = rw (at_end_fact Where at e, text_end) (whole_end _ s at e)

  end_conditional : (is : List Item) (at next end : ℕ) (c : Condition) (d : ℕ)
      → next_at s at ≡ found (word Where) next → condition_at s next ≡ parsed (record { condition = c; depth = d }) end
      → next_at s end ≡ at_end → text_end s is at ≡ some (record { items = is; condition = some c; depth = d })
  unfolding text_end conditioned
  end_conditional is at next end c d e f g =
      rw (takes_word s at Where e, text_end) (ap (conditioned s is) f ∙ whole_end _ s end g)

  parse_head : {is : List Item} {at : ℕ} {x : Option Reading} → head_at s ≡ parsed is at → text_end s is at ≡ x → parse s ≡ x
  unfolding parse
  parse_head e f = rw (e, parse) f

  text_complete : {ps : List Piece} {r : Reading} → IsText ps r → (end : ℕ) → Finds s 0 ps end → next_at s end ≡ at_end
      → length ps ≤ length s → parse s ≡ some r
  text_complete (without {ps = ps} {is = is} t) end f e l =
      let a = finds_ahead f in
      let b = finds_ahead a.rest in
      let p = finds_parts b.mid ps b.rest in
      let c = finds_ahead p.second in
      let long = length-append ps (word Closing ∷ []) in
      let last = subst (λ (m : ℕ). next_at s m ≡ at_end) (sym (finds_nil c.rest)) e in
      parse_head
      (head_complete a.mid b.mid p.mid c.mid ps is a.is b.is t p.first c.is (omega arith))
      (end_without is c.mid last)
  text_complete (conditional {ps = ps} {qs = qs} {is = is} {c = x} {d = d} t u) end f e l =
      let a = finds_ahead f in
      let b = finds_ahead a.rest in
      let p = finds_parts b.mid ps b.rest in
      let c = finds_ahead p.second in
      let w = finds_ahead c.rest in
      let long = length-append ps (word Closing ∷ word Where ∷ qs) in
      parse_head
      (head_complete a.mid b.mid p.mid c.mid ps is a.is b.is t p.first c.is (omega arith))
      (end_conditional is c.mid w.mid end x d w.is
      (condition_complete s u w.mid end w.rest (at_end_fact And end e) (at_end_fact Or end e) (omega arith)) e)

pub reading_parse : (s : List ℕ) (r : Reading) → HasReading s r → parse s ≡ some r
reading_parse s r h =
    let a = spells_finds h.spelled (calm_text h.derived) s 0 refl in
    text_complete s h.derived a.next a.finds a.end (omega (arith, finds_length (omega arith) a.finds))
