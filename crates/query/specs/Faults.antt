-- What is wrong with a record of a query: "Answering a query" of the paper. The checks of each kind stand in the
-- paper's order, each with the number that it gives; the first that holds is the fault.
-- In order: the checks of a record, its fault. Not here: a body that is cut short (`Reading`).
-- Assumes nothing.
use Rattle.std.specs.Prelude.{Bool, true, not, ◌||◌, List, [], ◌∷◌, ℕ, ltb, leb, get_or}
use Rattle.sets.specs.Sets.{has, ATTRIBUTES}
use Rattle.values.specs.Values.{missing, in_range}
use Rattle.values.specs.Table.{allows}
use Rattle.records.specs.Checks.{first_of}
use Rattle.records.specs.declared.Record.{Record}
use Rattle.records.specs.declared.Record.TheVariants.{OfBook, OfQuery}
use Rattle.records.specs.declared.QueryRecord.TheVariants.{Item, CompareTwo, CompareConstant, End}
use Rattle.scheme.specs.declared.Scheme.{Scheme}
use Rattle.query.specs.declared.Asked.{Asked}

-- the value kind of an attribute
abbrev pub kind_in : Scheme → ℕ → ℕ
kind_in s a = get_or s.kinds a 0

-- the checks of a record, over a book of scheme s, behind what the records before it ask: "for each record 2, 3, 4, 5, 7
-- as above; an operator of 0 to 5 that the table doesn't allow there 11 (one over 5 is 5; a constant has its
-- attribute's kind); an angle constant over 35,999 is then 5"; request 5: "A constant may not be missing (5, after 11)"
unfoldable pub checks : Scheme → Asked → Record → List (Bool × ℕ)
checks s q (OfBook r) = (true, 2) ∷ []
checks s q (OfQuery (Item v a)) =
    (leb 8 q.retrieved, 4)
    ∷ (ltb 3 v || leb ATTRIBUTES a, 5)
    ∷ (not (has s.attributes a), 7)
    ∷ []
checks s q (OfQuery (CompareTwo v a operator v2 a2)) =
    (leb 16 q.compared, 4)
    ∷ (ltb 3 v || (leb ATTRIBUTES a || (ltb 5 operator || (ltb 3 v2 || leb ATTRIBUTES a2))), 5)
    ∷ (not (has s.attributes a) || not (has s.attributes a2), 7)
    ∷ (not (allows s.table.masks operator (kind_in s a) (kind_in s a2)), 11)
    ∷ []
checks s q (OfQuery (CompareConstant v a operator cell)) =
    (leb 16 q.compared, 4)
    ∷ (ltb 3 v || (leb ATTRIBUTES a || ltb 5 operator), 5)
    ∷ (not (has s.attributes a), 7)
    ∷ (not (allows s.table.masks operator (kind_in s a) (kind_in s a)), 11)
    ∷ (not (in_range (kind_in s a) cell), 5)
    ∷ (missing (kind_in s a) cell, 5)
    ∷ []
checks s q (OfQuery End) = []

-- its fault, 0 where it has none
unfoldable pub fault_of : Scheme → Asked → Record → ℕ
fault_of s q r = first_of (checks s q r)
