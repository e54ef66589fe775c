-- What the ways out of the fault functions give: each is the first check of its kind that holds, from the tests that
-- the code made on the way.
-- In order: items, comparisons of two, comparisons with a constant, the other kinds.
-- Assumes nothing.
use mathlib.Core.Path.{◌≡◌, refl, sym, ◌∙◌}
use mathlib.Core.Bool.{Bool, true, false, not, ◌||◌}
use mathlib.Core.List.{List, [], ◌∷◌}
use Prim.Native.Nat.{ℕ, ◌≤◌, ◌<◌}
use borrow.Author.Tests.{lt-ltb, le-ltb, le-leb, lt-leb}
use lib.Dec.{ltb, leb}
use Rattle.sets.specs.Sets.{has, ATTRIBUTES}
use Rattle.sets.proofs.Tests.{or_left, or_right, or_no}
use Rattle.values.specs.Values.{missing, in_range}
use Rattle.values.specs.Table.{allows}
use Rattle.records.proofs.Checks.{first_yes, first_no, first_none, tested_not, tested_absent}
use Rattle.records.specs.Checks.{first_of}
use Rattle.records.specs.declared.Record.TheVariants.{OfQuery}
use Rattle.records.specs.declared.QueryRecord.TheVariants.{Item, CompareTwo, CompareConstant, End}
use Rattle.scheme.specs.declared.Scheme.{Scheme}
use Rattle.query.specs.declared.Asked.{Asked}
use Rattle.query.specs.Faults.{kind_in, checks, fault_of}

-- ---- items

module _ (s : Scheme) (asked : Asked) (v a : ℕ) where
  pub item_over : 8 ≤ asked.retrieved → 4 ≡ fault_of s asked (OfQuery (Item v a))
  unfolding fault_of checks
  item_over h = first_yes _ (le-leb 8 asked.retrieved h)

  module _ (room : asked.retrieved < 8) where
    item_past : {n : ℕ} → n ≡ first_of ((ltb 3 v || leb ATTRIBUTES a, 5) ∷ (not (has s.attributes a), 7) ∷ [])
        → n ≡ fault_of s asked (OfQuery (Item v a))
    unfolding fault_of checks
    item_past e = first_no _ _ (lt-leb 8 asked.retrieved room) e

    pub item_variable : 3 < v → 5 ≡ fault_of s asked (OfQuery (Item v a))
    item_variable h = item_past (first_yes _ (or_left (leb ATTRIBUTES a) (lt-ltb 3 v h)))

    pub item_attribute : ATTRIBUTES ≤ a → 5 ≡ fault_of s asked (OfQuery (Item v a))
    item_attribute h = item_past (first_yes _ (or_right (ltb 3 v) (le-leb ATTRIBUTES a h)))

    module _ (hv : v ≤ 3) (ha : a < ATTRIBUTES) {r : Bool} {w : ℕ} (e : r ≡ has s.attributes w) (q : w ≡ a) where
      pub item_undeclared : not r ≡ true → 7 ≡ fault_of s asked (OfQuery (Item v a))
      item_undeclared y =
          item_past (first_no _ _ (or_no (le-ltb 3 v hv) (lt-leb ATTRIBUTES a ha))
          (first_yes _ (tested_absent s.attributes e q y)))

      pub item_right : not r ≡ false → 0 ≡ fault_of s asked (OfQuery (Item v a))
      item_right n =
          item_past (first_no _ _ (or_no (le-ltb 3 v hv) (lt-leb ATTRIBUTES a ha))
          (first_no _ _ (tested_absent s.attributes e q n) first_none))

-- ---- comparisons of two

module _ (s : Scheme) (asked : Asked) (v a operator v2 a2 : ℕ) where
  pub two_over : 16 ≤ asked.compared → 4 ≡ fault_of s asked (OfQuery (CompareTwo v a operator v2 a2))
  unfolding fault_of checks
  two_over h = first_yes _ (le-leb 16 asked.compared h)

  -- the checks behind the first
  abbrev two_rest : List (Bool × ℕ)
  two_rest =
      (not (has s.attributes a) || not (has s.attributes a2), 7)
      ∷ (not (allows s.table.masks operator (kind_in s a) (kind_in s a2)), 11)
      ∷ []

  abbrev outside_two : Bool
  outside_two = ltb 3 v || (leb ATTRIBUTES a || (ltb 5 operator || (ltb 3 v2 || leb ATTRIBUTES a2)))

  module _ (room : asked.compared < 16) where
    two_past : {n : ℕ} → n ≡ first_of ((outside_two, 5) ∷ two_rest)
        → n ≡ fault_of s asked (OfQuery (CompareTwo v a operator v2 a2))
    unfolding fault_of checks
    two_past e = first_no _ _ (lt-leb 16 asked.compared room) e

    pub two_variable : 3 < v → 5 ≡ fault_of s asked (OfQuery (CompareTwo v a operator v2 a2))
    two_variable h = two_past (first_yes _ (or_left _ (lt-ltb 3 v h)))

    pub two_attribute : ATTRIBUTES ≤ a → 5 ≡ fault_of s asked (OfQuery (CompareTwo v a operator v2 a2))
    two_attribute h = two_past (first_yes _ (or_right (ltb 3 v) (or_left _ (le-leb ATTRIBUTES a h))))

    pub two_operator : 5 < operator → 5 ≡ fault_of s asked (OfQuery (CompareTwo v a operator v2 a2))
    two_operator h =
        two_past (first_yes _ (or_right (ltb 3 v) (or_right (leb ATTRIBUTES a) (or_left _ (lt-ltb 5 operator h)))))

    pub two_variable2 : 3 < v2 → 5 ≡ fault_of s asked (OfQuery (CompareTwo v a operator v2 a2))
    two_variable2 h =
        two_past (first_yes _ (or_right (ltb 3 v) (or_right (leb ATTRIBUTES a) (or_right (ltb 5 operator)
        (or_left _ (lt-ltb 3 v2 h))))))

    pub two_attribute2 : ATTRIBUTES ≤ a2 → 5 ≡ fault_of s asked (OfQuery (CompareTwo v a operator v2 a2))
    two_attribute2 h =
        two_past (first_yes _ (or_right (ltb 3 v) (or_right (leb ATTRIBUTES a) (or_right (ltb 5 operator)
        (or_right (ltb 3 v2) (le-leb ATTRIBUTES a2 h))))))

    module _ (hv : v ≤ 3) (ha : a < ATTRIBUTES) (ho : operator ≤ 5) (hv2 : v2 ≤ 3) (ha2 : a2 < ATTRIBUTES) where
      two_inside : {n : ℕ} → n ≡ first_of two_rest → n
          ≡ fault_of s asked (OfQuery (CompareTwo v a operator v2 a2))
      two_inside e =
          two_past (first_no _ _ (or_no (le-ltb 3 v hv) (or_no (lt-leb ATTRIBUTES a ha) (or_no (le-ltb 5 operator ho)
          (or_no (le-ltb 3 v2 hv2) (lt-leb ATTRIBUTES a2 ha2))))) e)

      module _ {r : Bool} {w : ℕ} (e : r ≡ has s.attributes w) (q : w ≡ a) where
        pub two_undeclared : not r ≡ true → 7 ≡ fault_of s asked (OfQuery (CompareTwo v a operator v2 a2))
        two_undeclared y = two_inside (first_yes _ (or_left _ (tested_absent s.attributes e q y)))

        module _ (known : not r ≡ false) {r2 : Bool} {w2 : ℕ} (e2 : r2 ≡ has s.attributes w2) (q2 : w2 ≡ a2) where
          pub two_undeclared2 : not r2 ≡ true → 7
              ≡ fault_of s asked (OfQuery (CompareTwo v a operator v2 a2))
          two_undeclared2 y =
              two_inside (first_yes _ (or_right (not (has s.attributes a)) (tested_absent s.attributes e2 q2 y)))

          module _ (known2 : not r2 ≡ false) {t : Bool}
              (f : t ≡ allows s.table.masks operator (kind_in s a) (kind_in s a2)) where
            two_declared : {n : ℕ} → n
                ≡ first_of ((not (allows s.table.masks operator (kind_in s a) (kind_in s a2)), 11) ∷ [])
                → n ≡ fault_of s asked (OfQuery (CompareTwo v a operator v2 a2))
            two_declared d =
                two_inside (first_no _ _ (or_no (tested_absent s.attributes e q known)
                (tested_absent s.attributes e2 q2 known2)) d)

            pub two_not_allowed : not t ≡ true → 11
                ≡ fault_of s asked (OfQuery (CompareTwo v a operator v2 a2))
            two_not_allowed y = two_declared (first_yes _ (tested_not f y))

            pub two_right : not t ≡ false → 0 ≡ fault_of s asked (OfQuery (CompareTwo v a operator v2 a2))
            two_right n = two_declared (first_no _ _ (tested_not f n) first_none)

-- ---- comparisons with a constant

module _ (s : Scheme) (asked : Asked) (v a operator cell : ℕ) where
  pub constant_over : 16 ≤ asked.compared → 4 ≡ fault_of s asked (OfQuery (CompareConstant v a operator cell))
  unfolding fault_of checks
  constant_over h = first_yes _ (le-leb 16 asked.compared h)

  abbrev constant_rest : List (Bool × ℕ)
  constant_rest =
      (not (has s.attributes a), 7)
      ∷ (not (allows s.table.masks operator (kind_in s a) (kind_in s a)), 11)
      ∷ (not (in_range (kind_in s a) cell), 5)
      ∷ (missing (kind_in s a) cell, 5)
      ∷ []

  module _ (room : asked.compared < 16) where
    constant_past : {n : ℕ} → n ≡ first_of ((ltb 3 v || (leb ATTRIBUTES a || ltb 5 operator), 5) ∷ constant_rest)
        → n ≡ fault_of s asked (OfQuery (CompareConstant v a operator cell))
    unfolding fault_of checks
    constant_past e = first_no _ _ (lt-leb 16 asked.compared room) e

    pub constant_variable : 3 < v → 5 ≡ fault_of s asked (OfQuery (CompareConstant v a operator cell))
    constant_variable h = constant_past (first_yes _ (or_left _ (lt-ltb 3 v h)))

    pub constant_attribute : ATTRIBUTES ≤ a → 5 ≡ fault_of s asked (OfQuery (CompareConstant v a operator cell))
    constant_attribute h = constant_past (first_yes _ (or_right (ltb 3 v) (or_left _ (le-leb ATTRIBUTES a h))))

    pub constant_operator : 5 < operator → 5 ≡ fault_of s asked (OfQuery (CompareConstant v a operator cell))
    constant_operator h =
        constant_past (first_yes _ (or_right (ltb 3 v) (or_right (leb ATTRIBUTES a) (lt-ltb 5 operator h))))

    module _ (hv : v ≤ 3) (ha : a < ATTRIBUTES) (ho : operator ≤ 5) {r : Bool} {w : ℕ} (e : r ≡ has s.attributes w)
        (q : w ≡ a) where
      constant_inside : {n : ℕ} → n ≡ first_of constant_rest
          → n ≡ fault_of s asked (OfQuery (CompareConstant v a operator cell))
      constant_inside d =
          constant_past (first_no _ _ (or_no (le-ltb 3 v hv) (or_no (lt-leb ATTRIBUTES a ha) (le-ltb 5 operator ho))) d)

      pub constant_undeclared : not r ≡ true → 7
          ≡ fault_of s asked (OfQuery (CompareConstant v a operator cell))
      constant_undeclared y = constant_inside (first_yes _ (tested_absent s.attributes e q y))

      module _ (known : not r ≡ false) {t : Bool}
          (f : t ≡ allows s.table.masks operator (kind_in s a) (kind_in s a)) where
        pub constant_not_allowed : not t ≡ true → 11
            ≡ fault_of s asked (OfQuery (CompareConstant v a operator cell))
        constant_not_allowed y =
            constant_inside (first_no _ _ (tested_absent s.attributes e q known) (first_yes _ (tested_not f y)))

        module _ (fits : not t ≡ false) {u : Bool} (g : u ≡ in_range (kind_in s a) cell) where
          constant_allowed : {n : ℕ}
              → n ≡ first_of ((not (in_range (kind_in s a) cell), 5) ∷ (missing (kind_in s a) cell, 5) ∷ [])
              → n ≡ fault_of s asked (OfQuery (CompareConstant v a operator cell))
          constant_allowed d =
              constant_inside (first_no _ _ (tested_absent s.attributes e q known)
              (first_no _ _ (tested_not f fits) d))

          pub constant_outside : not u ≡ true → 5
              ≡ fault_of s asked (OfQuery (CompareConstant v a operator cell))
          constant_outside y = constant_allowed (first_yes _ (tested_not g y))

          module _ (inside : not u ≡ false) {gone : Bool} (l : gone ≡ missing (kind_in s a) cell) where
            pub constant_missing : gone ≡ true → 5
                ≡ fault_of s asked (OfQuery (CompareConstant v a operator cell))
            constant_missing y = constant_allowed (first_no _ _ (tested_not g inside) (first_yes _ (sym l ∙ y)))

            pub constant_right : gone ≡ false → 0
                ≡ fault_of s asked (OfQuery (CompareConstant v a operator cell))
            constant_right n =
                constant_allowed (first_no _ _ (tested_not g inside) (first_no _ _ (sym l ∙ n) first_none))

-- ---- the other kinds

pub end_right : (s : Scheme) (asked : Asked) → 0 ≡ fault_of s asked (OfQuery End)
unfolding fault_of checks first_of
end_right s asked = refl
