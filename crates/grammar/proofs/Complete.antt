-- What the grammar has is parsed: where the pieces of a condition are found, and what follows them does not go on with
-- it, its parser gives the condition and the position behind it.
-- In order: what is taken; items; comparisons; conditions.
-- Assumes nothing.
use mathlib.Core.Path.{◌≡◌, refl, ap, ◌∙◌, subst}
use mathlib.Core.List.{List, [], ◌∷◌, ◌++◌}
use mathlib.Core.Option.{Option, none, some}
use Prim.Native.Nat.{ℕ, zero, suc, ◌+◌, ◌*◌, max, ◌≤◌}
use native.Mathlib.Omega.{arith}
use borrow.Author.Tests.{eq-eqb}
use lib.ListN.{length, length-append}
use Rattle.grammar.specs.Pieces.{Word, And, Or, Not, Comma, Opening, Closing, Operator, Item}
use Rattle.grammar.specs.Pieces.{Piece, word, operator, item}
use Rattle.grammar.specs.Grammar.{Condition, compared, negated, both, either, Comparison, Operand}
use Rattle.grammar.specs.Grammar.{IsItems, one_item, more_items, IsOperand, item_operand, constant_operand}
use Rattle.grammar.specs.Grammar.{IsComparison, comparison, IsOr, one_and, more_or, one_not, more_and}
use Rattle.grammar.specs.Grammar.{one_primary, not_more, one_comparison, in_parentheses}
use Rattle.grammar.specs.Parser.{found, next_at, word_number, behind, Parsed, parsed, item_of}
use Rattle.grammar.specs.Parser.{operator_of, operand_of, ◌and_then◌, if_word, items_at, Deep, comparison_at, or_at, or_more}
use Rattle.grammar.specs.Parser.{and_at, and_more, not_at, primary_at, condition_at}
use Rattle.grammar.proofs.Spelled.{Finds, none_left, Ahead, finds_ahead, finds_parts}

-- ---- what is taken

module _ (s : List ℕ) (at : ℕ) where
  -- a word that is next is taken
  pub takes_word : {next : ℕ} (w : Word) → next_at s at ≡ found (word w) next → behind w (next_at s at) ≡ some next
  unfolding behind
  takes_word {next} w e = ap (behind w) e ∙ rw (eq-eqb (word_number w) (word_number w) refl)

  -- another word is not, nor another piece
  pub takes_none : {p : Piece} {next : ℕ} (w : Word) → next_at s at ≡ found p next → behind w (found p next) ≡ none
      → behind w (next_at s at) ≡ none
  takes_none w e h = ap (behind w) e ∙ h

module _ {A : Type 0} {x : Option ℕ} where
  pub if_some : {next : ℕ} (y : ℕ → Parsed A) (n : Unit {0} → Parsed A) → x ≡ some next → if_word x y n ≡ y next
  unfolding if_word
  if_some {next} y n e = ap (λ (x : Option ℕ). if_word x y n) e

  pub if_none : (y : ℕ → Parsed A) (n : Unit {0} → Parsed A) → x ≡ none → if_word x y n ≡ n tt
  unfolding if_word
  if_none y n e = ap (λ (x : Option ℕ). if_word x y n) e

module _ {A B : Type 0} {x : Parsed A} where
  pub then_parsed : {a : A} {next : ℕ} (k : A → ℕ → Parsed B) → x ≡ parsed a next → (x and_then k) ≡ k a next
  unfolding ◌and_then◌
  then_parsed k e = ap (λ (x : Parsed A). x and_then k) e

-- nothing is found nowhere else
pub finds_nil : {s : List ℕ} {at next : ℕ} → Finds s at [] next → at ≡ next
finds_nil none_left = refl

-- ---- items

module _ (s : List ℕ) (n at : ℕ) {mid : ℕ} {i : Item} (e : next_at s at ≡ found (item i) mid) where
  items_last : behind Comma (next_at s mid) ≡ none → items_at (suc n) s at ≡ parsed (i ∷ []) mid
  unfolding items_at item_of
  items_last h = then_parsed _ (ap item_of e) ∙ if_none _ _ h

  items_next : {next end : ℕ} {is : List Item} → next_at s mid ≡ found (word Comma) next
      → items_at n s next ≡ parsed is end → items_at (suc n) s at ≡ parsed (i ∷ is) end
  unfolding items_at item_of
  items_next h k = then_parsed _ (ap item_of e) ∙ if_some _ _ (takes_word s mid Comma h) ∙ then_parsed _ k

pub items_complete : {ps : List Piece} {is : List Item} → IsItems ps is → (s : List ℕ) (at next n : ℕ)
    → Finds s at ps next → behind Comma (next_at s next) ≡ none → length ps ≤ n → items_at n s at ≡ parsed is next
items_complete one_item s at next zero f e h = absurd (omega arith)
items_complete (one_item {i = i}) s at next (suc n) f e h =
    let a = finds_ahead f in
    let there = finds_nil a.rest in
    items_last s n at (subst (λ (m : ℕ). next_at s at ≡ found (item i) m) there a.is) e
items_complete (more_items t) s at next zero f e h = absurd (omega arith)
items_complete (more_items t) s at next (suc n) f e h =
    let a = finds_ahead f in
    let b = finds_ahead a.rest in
    items_next s n at a.is b.is (items_complete t s b.mid next n b.rest e (omega arith))

-- ---- comparisons

operand_taken : (s : List ℕ) (at : ℕ) {end : ℕ} {p : Piece} {x : Operand} → next_at s at ≡ found p end → IsOperand p x
    → operand_of (next_at s at) ≡ parsed x end
unfolding operand_of
operand_taken s at g item_operand = ap operand_of g
operand_taken s at g constant_operand = ap operand_of g

comparison_taken : (s : List ℕ) (at : ℕ) {mid late end : ℕ} {i : Item} {o : Operator} {p : Piece} {x : Operand}
    → next_at s at ≡ found (item i) mid → next_at s mid ≡ found (operator o) late → next_at s late ≡ found p end
    → IsOperand p x
    → comparison_at s at ≡ parsed (record { condition = compared (record { left = i; by = o; right = x }); depth = 0 }) end
unfolding comparison_at item_of operator_of
comparison_taken s at {late = late} e f g t =
    then_parsed _ (ap item_of e) ∙ then_parsed _ (ap operator_of f) ∙ then_parsed _ (operand_taken s late g t)

comparison_complete : {ps : List Piece} {x : Comparison} → IsComparison ps x → (s : List ℕ) (at next : ℕ)
    → Finds s at ps next → comparison_at s at ≡ parsed (record { condition = compared x; depth = 0 }) next
comparison_complete (comparison {p = p} t) s at next f =
    let a = finds_ahead f in
    let b = finds_ahead a.rest in
    let c = finds_ahead b.rest in
    comparison_taken s at a.is b.is (subst (λ (m : ℕ). next_at s b.mid ≡ found p m) (finds_nil c.rest) c.is) t

-- a comparison begins with no word
comparison_begins : {ps : List Piece} {x : Comparison} → IsComparison ps x → (s : List ℕ) (at next : ℕ)
    → Finds s at ps next → (w : Word) → behind w (next_at s at) ≡ none
unfolding behind
comparison_begins (comparison t) s at next f w = takes_none s at w (finds_ahead f).is refl

-- ---- conditions

abbrev deep : Condition → ℕ → Deep
deep c d = record { condition = c; depth = d }

module _ (s : List ℕ) where
  module _ (n at : ℕ) where
    or_of : {mid : ℕ} {c : Deep} → and_at n s at ≡ parsed c mid → or_at (suc n) s at ≡ or_more n s c mid
    unfolding or_at
    or_of e = then_parsed _ e

    pub or_end : (c : Deep) → behind Or (next_at s at) ≡ none → or_more (suc n) s c at ≡ parsed c at
    unfolding or_at
    or_end c h = if_none _ _ h

    or_on : {next end : ℕ} (c : Deep) {e : Deep} → next_at s at ≡ found (word Or) next → and_at n s next ≡ parsed e end
        → or_more (suc n) s c at
        ≡ or_more n s (deep (either c.condition e.condition) (max c.depth e.depth)) end
    unfolding or_at
    or_on c h k = if_some _ _ (takes_word s at Or h) ∙ then_parsed _ k

    and_of : {mid : ℕ} {c : Deep} → not_at n s at ≡ parsed c mid → and_at (suc n) s at ≡ and_more n s c mid
    unfolding or_at
    and_of e = then_parsed _ e

    and_end : (c : Deep) → behind And (next_at s at) ≡ none → and_more (suc n) s c at ≡ parsed c at
    unfolding or_at
    and_end c h = if_none _ _ h

    and_on : {next end : ℕ} (c : Deep) {e : Deep} → next_at s at ≡ found (word And) next → not_at n s next ≡ parsed e end
        → and_more (suc n) s c at
        ≡ and_more n s (deep (both c.condition e.condition) (max c.depth e.depth)) end
    unfolding or_at
    and_on c h k = if_some _ _ (takes_word s at And h) ∙ then_parsed _ k

    not_of : {end : ℕ} {c : Deep} → behind Not (next_at s at) ≡ none → primary_at n s at ≡ parsed c end
        → not_at (suc n) s at ≡ parsed c end
    unfolding or_at
    not_of h e = if_none _ _ h ∙ e

    not_on : {next end : ℕ} {c : Deep} → next_at s at ≡ found (word Not) next → not_at n s next ≡ parsed c end
        → not_at (suc n) s at ≡ parsed (deep (negated c.condition) c.depth) end
    unfolding or_at
    not_on h e = if_some _ _ (takes_word s at Not h) ∙ then_parsed _ e

    primary_of : {end : ℕ} {c : Deep} → behind Opening (next_at s at) ≡ none → comparison_at s at ≡ parsed c end
        → primary_at (suc n) s at ≡ parsed c end
    unfolding or_at
    primary_of h e = if_none _ _ h ∙ e

    primary_on : {next mid end : ℕ} {c : Deep} → next_at s at ≡ found (word Opening) next → or_at n s next ≡ parsed c mid
        → next_at s mid ≡ found (word Closing) end
        → primary_at (suc n) s at ≡ parsed (deep c.condition (suc c.depth)) end
    unfolding or_at
    primary_on {mid = mid} h e k =
        if_some _ _ (takes_word s at Opening h) ∙ then_parsed _ e ∙ if_some _ _ (takes_word s mid Closing k)

  -- what each parser gives for pieces that are derived, at a large enough number. The chains go on with k
  record OrGives (ps : List Piece) (c : Condition) (d : ℕ) : Type 0 where
    some' : 1 ≤ length ps
    gives : (at next n : ℕ) → Finds s at ps next → behind And (next_at s next) ≡ none → 4 * length ps + 4 ≤ n
        → (k : ℕ) × ((n ≤ k + length ps) × (or_at n s at ≡ or_more k s (deep c d) next))

  record AndGives (ps : List Piece) (c : Condition) (d : ℕ) : Type 0 where
    some' : 1 ≤ length ps
    gives : (at next n : ℕ) → Finds s at ps next → 4 * length ps + 3 ≤ n
        → (k : ℕ) × ((n ≤ k + length ps) × (and_at n s at ≡ and_more k s (deep c d) next))

  record NotGives (ps : List Piece) (c : Condition) (d : ℕ) : Type 0 where
    some' : 1 ≤ length ps
    gives : (at next n : ℕ) → Finds s at ps next → 4 * length ps + 2 ≤ n → not_at n s at ≡ parsed (deep c d) next

  record PrimaryGives (ps : List Piece) (c : Condition) (d : ℕ) : Type 0 where
    some' : 1 ≤ length ps
    gives : (at next n : ℕ) → Finds s at ps next → 4 * length ps + 1 ≤ n → primary_at n s at ≡ parsed (deep c d) next
    begins : (at next : ℕ) → Finds s at ps next → behind Not (next_at s at) ≡ none

  and_finish : (k next : ℕ) (c : Deep) → 1 ≤ k → behind And (next_at s next) ≡ none → and_more k s c next ≡ parsed c next
  and_finish zero next c h e = absurd (omega arith)
  and_finish (suc k) next c h e = and_end k next c e

  or_finish : (k next : ℕ) (c : Deep) → 1 ≤ k → behind Or (next_at s next) ≡ none → or_more k s c next ≡ parsed c next
  or_finish zero next c h e = absurd (omega arith)
  or_finish (suc k) next c h e = or_end k next c e

  and_whole : (ps : List Piece) (c : Condition) (d : ℕ) → AndGives ps c d → (at next n : ℕ) → Finds s at ps next
      → behind And (next_at s next) ≡ none → 4 * length ps + 3 ≤ n → and_at n s at ≡ parsed (deep c d) next
  and_whole ps c d h at next n f e l =
      let g = h.gives at next n f l in
      g.1.1 ∙ and_finish g.0 next (deep c d) (omega (arith, g.1.0)) e

  or_whole : (ps : List Piece) (c : Condition) (d : ℕ) → OrGives ps c d → (at next n : ℕ) → Finds s at ps next
      → behind And (next_at s next) ≡ none → behind Or (next_at s next) ≡ none → 4 * length ps + 4 ≤ n
      → or_at n s at ≡ parsed (deep c d) next
  or_whole ps c d h at next n f e o l =
      let g = h.gives at next n f e l in
      g.1.1 ∙ or_finish g.0 next (deep c d) (omega (arith, g.1.0)) o

  -- one case for each rule of the grammar

  one_and_gives : (ps : List Piece) (c : Condition) (d : ℕ) → AndGives ps c d → OrGives ps c d
  one_and_gives ps c d h = record { some' = h.some'; gives = go }
    where
      go : (at next n : ℕ) → Finds s at ps next → behind And (next_at s next) ≡ none → 4 * length ps + 4 ≤ n
          → (k : ℕ) × ((n ≤ k + length ps) × (or_at n s at ≡ or_more k s (deep c d) next))
      go at next zero f e l = absurd (omega arith)
      go at next (suc n) f e l =
          (n, (omega (arith, h.some'), or_of n at (and_whole ps c d h at next n f e (omega arith))))

  more_or_step : (mid next k : ℕ) (qs : List Piece) (c e : Condition) (d g : ℕ) → AndGives qs e g
      → Ahead s mid (word Or) qs next → behind And (next_at s next) ≡ none → 4 * length qs + 4 ≤ k
      → (j : ℕ) × ((k ≡ suc j) × (or_more k s (deep c d) mid ≡ or_more j s (deep (either c e) (max d g)) next))
  more_or_step mid next zero qs c e d g h a stop l = absurd (omega arith)
  more_or_step mid next (suc j) qs c e d g h a stop l =
      (j, (refl, or_on j mid (deep c d) a.is (and_whole qs e g h a.mid next j a.rest stop (omega arith))))

  more_or_gives : (ps qs : List Piece) (c e : Condition) (d g : ℕ) → OrGives ps c d → AndGives qs e g
      → OrGives (ps ++ word Or ∷ qs) (either c e) (max d g)
  more_or_gives ps qs c e d g h u = record { some' = omega (arith, length-append ps (word Or ∷ qs)); gives = go }
    where
      go : (at next n : ℕ) → Finds s at (ps ++ word Or ∷ qs) next → behind And (next_at s next) ≡ none
          → 4 * length (ps ++ word Or ∷ qs) + 4 ≤ n
          → (k : ℕ) × ((n ≤ k + length (ps ++ word Or ∷ qs))
          × (or_at n s at ≡ or_more k s (deep (either c e) (max d g)) next))
      go at next n f stop l =
          let p = finds_parts at ps f in
          let a = finds_ahead p.second in
          let long = length-append ps (word Or ∷ qs) in
          let first = h.gives at p.mid n p.first (takes_none s p.mid And a.is (unfold behind word_number in refl))
          (omega arith) in
          let later = more_or_step p.mid next first.0 qs c e d g u a stop (omega (arith, first.1.0)) in
          (later.0, (omega (arith, first.1.0, later.1.0), first.1.1 ∙ later.1.1))

  one_not_gives : (ps : List Piece) (c : Condition) (d : ℕ) → NotGives ps c d → AndGives ps c d
  one_not_gives ps c d h = record { some' = h.some'; gives = go }
    where
      go : (at next n : ℕ) → Finds s at ps next → 4 * length ps + 3 ≤ n
          → (k : ℕ) × ((n ≤ k + length ps) × (and_at n s at ≡ and_more k s (deep c d) next))
      go at next zero f l = absurd (omega arith)
      go at next (suc n) f l = (n, (omega (arith, h.some'), and_of n at (h.gives at next n f (omega arith))))

  more_and_step : (mid next k : ℕ) (qs : List Piece) (c e : Condition) (d g : ℕ) → NotGives qs e g
      → Ahead s mid (word And) qs next → 4 * length qs + 3 ≤ k
      → (j : ℕ) × ((k ≡ suc j) × (and_more k s (deep c d) mid ≡ and_more j s (deep (both c e) (max d g)) next))
  more_and_step mid next zero qs c e d g h a l = absurd (omega arith)
  more_and_step mid next (suc j) qs c e d g h a l =
      (j, (refl, and_on j mid (deep c d) a.is (h.gives a.mid next j a.rest (omega arith))))

  more_and_gives : (ps qs : List Piece) (c e : Condition) (d g : ℕ) → AndGives ps c d → NotGives qs e g
      → AndGives (ps ++ word And ∷ qs) (both c e) (max d g)
  more_and_gives ps qs c e d g h u = record { some' = omega (arith, length-append ps (word And ∷ qs)); gives = go }
    where
      go : (at next n : ℕ) → Finds s at (ps ++ word And ∷ qs) next → 4 * length (ps ++ word And ∷ qs) + 3 ≤ n
          → (k : ℕ) × ((n ≤ k + length (ps ++ word And ∷ qs))
          × (and_at n s at ≡ and_more k s (deep (both c e) (max d g)) next))
      go at next n f l =
          let p = finds_parts at ps f in
          let a = finds_ahead p.second in
          let long = length-append ps (word And ∷ qs) in
          let first = h.gives at p.mid n p.first (omega arith) in
          let later = more_and_step p.mid next first.0 qs c e d g u a (omega (arith, first.1.0)) in
          (later.0, (omega (arith, first.1.0, later.1.0), first.1.1 ∙ later.1.1))

  one_primary_gives : (ps : List Piece) (c : Condition) (d : ℕ) → PrimaryGives ps c d → NotGives ps c d
  one_primary_gives ps c d h = record { some' = h.some'; gives = go }
    where
      go : (at next n : ℕ) → Finds s at ps next → 4 * length ps + 2 ≤ n → not_at n s at ≡ parsed (deep c d) next
      go at next zero f l = absurd (omega arith)
      go at next (suc n) f l = not_of n at (h.begins at next f) (h.gives at next n f (omega arith))

  not_more_gives : (ps : List Piece) (c : Condition) (d : ℕ) → NotGives ps c d → NotGives (word Not ∷ ps) (negated c) d
  not_more_gives ps c d h = record { some' = omega arith; gives = go }
    where
      go : (at next n : ℕ) → Finds s at (word Not ∷ ps) next → 4 * length (word Not ∷ ps) + 2 ≤ n
          → not_at n s at ≡ parsed (deep (negated c) d) next
      go at next zero f l = absurd (omega arith)
      go at next (suc n) f l =
          let a = finds_ahead f in
          not_on n at a.is (h.gives a.mid next n a.rest (omega arith))

  one_comparison_gives : (ps : List Piece) (x : Comparison) → IsComparison ps x → PrimaryGives ps (compared x) 0
  one_comparison_gives ps x t = record { some' = long t; gives = go; begins = λ at next f. comparison_begins t s at next f Not }
    where
      long : {ps : List Piece} {x : Comparison} → IsComparison ps x → 1 ≤ length ps
      long (comparison u) = omega arith

      go : (at next n : ℕ) → Finds s at ps next → 4 * length ps + 1 ≤ n
          → primary_at n s at ≡ parsed (deep (compared x) 0) next
      go at next zero f l = absurd (omega arith)
      go at next (suc n) f l = primary_of n at (comparison_begins t s at next f Opening) (comparison_complete t s at next f)

  in_parentheses_gives : (ps : List Piece) (c : Condition) (d : ℕ) → OrGives ps c d
      → PrimaryGives (word Opening ∷ (ps ++ word Closing ∷ [])) c (suc d)
  in_parentheses_gives ps c d h = record { some' = omega arith; gives = go; begins = first }
    where
      first : (at next : ℕ) → Finds s at (word Opening ∷ (ps ++ word Closing ∷ [])) next
          → behind Not (next_at s at) ≡ none
      first at next f = takes_none s at Not (finds_ahead f).is (unfold behind word_number in refl)

      go : (at next n : ℕ) → Finds s at (word Opening ∷ (ps ++ word Closing ∷ [])) next
          → 4 * length (word Opening ∷ (ps ++ word Closing ∷ [])) + 1 ≤ n
          → primary_at n s at ≡ parsed (deep c (suc d)) next
      go at next zero f l = absurd (omega arith)
      go at next (suc n) f l =
          let a = finds_ahead f in
          let p = finds_parts a.mid ps a.rest in
          let b = finds_ahead p.second in
          let long = length-append ps (word Closing ∷ []) in
          let inner = or_whole ps c d h a.mid p.mid n p.first
          (takes_none s p.mid And b.is (unfold behind word_number in refl))
          (takes_none s p.mid Or b.is (unfold behind word_number in refl)) (omega arith) in
          let there = finds_nil b.rest in
          primary_on n at a.is inner
          (subst (λ (m : ℕ). next_at s p.mid ≡ found (word Closing) m) there b.is)

  or_gives : {ps : List Piece} {c : Condition} {d : ℕ} → IsOr ps c d → OrGives ps c d
  or_gives t =
      elim t as (λ ps c d y. OrGives ps c d) (λ ps c d y. AndGives ps c d) (λ ps c d y. NotGives ps c d)
      (λ ps c d y. PrimaryGives ps c d) [
        | one_and {ps = ps} {c = c} {d = d} (t → h) ↦ one_and_gives ps c d h
        | more_or {ps = ps} {qs = qs} {c = c} {e = e} {d = d} {f = f} (t → h) (u → k) ↦ more_or_gives ps qs c e d f h k
        | one_not {ps = ps} {c = c} {d = d} (t → h) ↦ one_not_gives ps c d h
        | more_and {ps = ps} {qs = qs} {c = c} {e = e} {d = d} {f = f} (t → h) (u → k) ↦ more_and_gives ps qs c e d f h k
        | one_primary {ps = ps} {c = c} {d = d} (t → h) ↦ one_primary_gives ps c d h
        | not_more {ps = ps} {c = c} {d = d} (t → h) ↦ not_more_gives ps c d h
        | one_comparison {ps = ps} {x = x} t ↦ one_comparison_gives ps x t
        | in_parentheses {ps = ps} {c = c} {d = d} (t → h) ↦ in_parentheses_gives ps c d h
      ]

  pub condition_complete : {ps : List Piece} {c : Condition} {d : ℕ} → IsOr ps c d → (at next : ℕ) → Finds s at ps next
      → behind And (next_at s next) ≡ none → behind Or (next_at s next) ≡ none → length ps ≤ length s
      → condition_at s at ≡ parsed (record { condition = c; depth = d }) next
  unfolding condition_at
  condition_complete {ps} {c} {d} t at next f e o l =
      or_whole ps c d (or_gives t) at next (4 * length s + 4) f e o (omega arith)
