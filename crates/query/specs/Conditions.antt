-- The checks of a query's record in the paper's words, as conditions and not as tests. That `fault_of` is the number of
-- the first that holds is a theorem (`Statements`).
-- Assumes nothing.
use Rattle.std.specs.Prelude.{◌≡◌, true, false, ◌⊎◌, List, [], ◌∷◌, ◌≤◌, ◌<◌}
use Rattle.sets.specs.Sets.{◌∉◌, ATTRIBUTES}
use Rattle.values.specs.Values.{missing, in_range}
use Rattle.values.specs.Table.{allows}
use Rattle.records.specs.Checks.{Condition, ◌gives◌}
use Rattle.records.specs.declared.Record.{Record}
use Rattle.records.specs.declared.Record.TheVariants.{OfBook, OfQuery}
use Rattle.records.specs.declared.QueryRecord.TheVariants.{Item, CompareTwo, CompareConstant, End}
use Rattle.scheme.specs.declared.Scheme.{Scheme}
use Rattle.query.specs.declared.Asked.{Asked}
use Rattle.query.specs.Faults.{kind_in}

-- "kind not allowed 2"; "one more than its bound 4": "items 1 to 8; comparisons 0 to 16 in all"; "field outside its
-- range .. 5": "variables 0 to 3"; "attribute .. not declared 7"; "an operator of 0 to 5 that the table doesn't allow
-- there 11 (one over 5 is 5; a constant has its attribute's kind); an angle constant over 35,999 is then 5": of value
-- kinds 0 to 3 only angles have cells out of range; request 5: "A constant may not be missing (5, after 11)"
unfoldable pub conditions : Scheme → Asked → Record → List Condition
conditions s q (OfBook r) = (Unit {0} gives 2) ∷ []
conditions s q (OfQuery (Item v a)) =
    (8 ≤ q.retrieved gives 4)
    ∷ ((3 < v) ⊎ (ATTRIBUTES ≤ a) gives 5)
    ∷ (a ∉ s.attributes gives 7)
    ∷ []
conditions s q (OfQuery (CompareTwo v a operator v2 a2)) =
    (16 ≤ q.compared gives 4)
    ∷ ((3 < v) ⊎ ((ATTRIBUTES ≤ a) ⊎ ((5 < operator) ⊎ ((3 < v2) ⊎ (ATTRIBUTES ≤ a2)))) gives 5)
    ∷ ((a ∉ s.attributes) ⊎ (a2 ∉ s.attributes) gives 7)
    ∷ (allows s.table.masks operator (kind_in s a) (kind_in s a2) ≡ false gives 11)
    ∷ []
conditions s q (OfQuery (CompareConstant v a operator cell)) =
    (16 ≤ q.compared gives 4)
    ∷ ((3 < v) ⊎ ((ATTRIBUTES ≤ a) ⊎ (5 < operator)) gives 5)
    ∷ (a ∉ s.attributes gives 7)
    ∷ (allows s.table.masks operator (kind_in s a) (kind_in s a) ≡ false gives 11)
    ∷ (in_range (kind_in s a) cell ≡ false gives 5)
    ∷ (missing (kind_in s a) cell ≡ true gives 5)
    ∷ []
conditions s q (OfQuery End) = []
