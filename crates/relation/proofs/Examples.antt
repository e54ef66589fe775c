-- Worked examples: the paper's printout and what its tables show, each as what the definitions give beside what is
-- expected.
-- In order: the tables, kept sets and joins, the objects that may stand, tables that agree and tables that do not,
-- missing cells among them.
-- Assumes nothing.
use mathlib.Core.Path.{◌≡◌, refl, sym, subst, subst₂}
use mathlib.Core.Bool.{false}
use mathlib.Core.Logic.{◌↔◌}
use mathlib.Core.List.Memᴰ
use mathlib.Core.List.{List, [], ◌∷◌, map, Memᴰ}
use mathlib.Core.List.{head-eq_of_cons-eq}
use Prim.Native.Nat.{ℕ, ◌^◌, ◌<◌}
use native.Mathlib.Omega.{arith}
use lib.Dec.{lit<}
use lib.ListN.{get_or}
use Rattle.sets.specs.Sets.{◌∈◌, ◌⊆◌, bit, has, within, ◌∩◌, ◌∪◌, single, is_empty, rank, members, ATTRIBUTES}
use Rattle.sets.proofs.Sets.{∩_in, in_single, yes_within}
use Rattle.values.specs.Values.{missing, matches}
use Rattle.reduction.specs.Steps.{at}
use Rattle.reduction.specs.Kept.{union, around, some_holds, removable, stays, staying, settle, left}
use Rattle.reduction.specs.Kept.{goes_for, goes, keeps, kept_of, kept}
use Rattle.reduction.specs.Statements.{OfAttributes}
use Rattle.relation.specs.Tables.{Row, cell_of, Table, SameRows, family, projected, project}
use Rattle.relation.specs.Joins.{AgreePairwise, OfTwo, NoneMissing, together, InFullJoin, StandFor, none, one}
use Rattle.relation.specs.Joins.{shown, kept_sets, shown_rows, InPart}
use Rattle.relation.specs.Computed.{all_pass, rows_match, matches_all, each_passing, going_on, join_rows, part}
use Rattle.relation.proofs.Theorems.{join_computed, part_computed, part_holds}

-- ---- the tables

-- "attributes 0 STATION, 1 LEAD, 2 TRIP (names), 3 DEPTH (length)"
unfoldable pub kinds : List ℕ
kinds = 0 ∷ 0 ∷ 0 ∷ 1 ∷ []

-- "objects 0 {0,1}, 1 {0,2}, 2 {0,3}" and their rows, -2500 and -900 in two's complement
unfoldable pub survey : List Table
survey =
    record { set = 3; rows = (10 ∷ 501 ∷ []) ∷ (11 ∷ 502 ∷ []) ∷ (12 ∷ 503 ∷ []) ∷ [] }
    ∷ record { set = 5; rows = (10 ∷ 7 ∷ []) ∷ (11 ∷ 7 ∷ []) ∷ (13 ∷ 7 ∷ []) ∷ [] }
    ∷ record { set = 9; rows = (10 ∷ 4294964796 ∷ []) ∷ (12 ∷ 4294966396 ∷ []) ∷ [] }
    ∷ []

-- leads and trips of the same two stations; station 10 has two leads and two trips
abbrev pub leads : Table
leads = record { set = 3; rows = (10 ∷ 501 ∷ []) ∷ (10 ∷ 504 ∷ []) ∷ (11 ∷ 502 ∷ []) ∷ [] }

abbrev pub trips : Table
trips = record { set = 5; rows = (10 ∷ 7 ∷ []) ∷ (10 ∷ 8 ∷ []) ∷ (11 ∷ 7 ∷ []) ∷ [] }

unfoldable pub paired : List Table
paired = leads ∷ trips ∷ []

-- a table with no row
abbrev pub no_rows : ℕ → Table
no_rows S = record { set = S; rows = [] }

-- stations, and a table of trips that shares nothing with them and has no row
unfoldable pub apart : List Table
apart = record { set = 1; rows = (10 ∷ []) ∷ [] } ∷ no_rows 4 ∷ []

-- a lead and a trip whose stations nobody noted
abbrev pub lead_only : Table
lead_only = record { set = 3; rows = (4294967295 ∷ 501 ∷ []) ∷ [] }

abbrev pub trip_only : Table
trip_only = record { set = 5; rows = (4294967295 ∷ 7 ∷ []) ∷ [] }

unfoldable pub gap : List Table
gap = lead_only ∷ trip_only ∷ []

-- a lead of a station whose depth nobody measured: DEPTH is an attribute of one object
abbrev pub lead : Table
lead = record { set = 3; rows = (10 ∷ 501 ∷ []) ∷ [] }

abbrev pub no_depth : Table
no_depth = record { set = 9; rows = (10 ∷ 2147483648 ∷ []) ∷ [] }

unfoldable pub own_gap : List Table
own_gap = lead ∷ no_depth ∷ []

-- leads and trips by their depth, one of them missing
unfoldable pub depths : List Table
depths =
    record { set = 10; rows = (501 ∷ 4294967295 ∷ []) ∷ (502 ∷ 2147483648 ∷ []) ∷ [] }
    ∷ record { set = 12; rows = (7 ∷ 4294967295 ∷ []) ∷ (8 ∷ 2147483648 ∷ []) ∷ [] }
    ∷ []

-- ---- kept sets and joins

pub record Trial : Type 0 where
  pub gives : List (List ℕ)
  pub says : List (List ℕ)

-- the join over the kept sets of columns X where the objects at the places cs stand for them
abbrev pub kept_join : List Table → ℕ → List ℕ → List (List ℕ)
kept_join Ts X cs = join_rows kinds (shown Ts (kept_sets Ts X) cs) X

unfoldable pub trials : List Trial
trials =
    -- "Sacred {1,2} keeps {0,1} and {0,2}"
    record { gives = kept_sets survey 6 ∷ []; says = (3 ∷ 5 ∷ []) ∷ [] }
    -- query 1 of the printout, LEAD and TRIP
    ∷ record { gives = part kinds survey 6; says = (501 ∷ 7 ∷ []) ∷ (502 ∷ 7 ∷ []) ∷ [] }
    -- query 2 before its comparison: LEAD, TRIP and DEPTH
    ∷ record { gives = part kinds survey 14; says = (501 ∷ 7 ∷ 4294964796 ∷ []) ∷ [] }
    -- "Sacred {0} keeps {0}"; all three objects contain it and show it
    ∷ record { gives = kept_sets survey 1 ∷ []; says = (1 ∷ []) ∷ [] }
    -- query 3, STATION: four stations, some shown by several objects
    ∷ record {
      gives = part kinds survey 1;
      says = (10 ∷ []) ∷ (11 ∷ []) ∷ (12 ∷ []) ∷ (10 ∷ []) ∷ (11 ∷ []) ∷ (13 ∷ []) ∷ (10 ∷ []) ∷ (12 ∷ []) ∷ [];
    }
    -- the same kept set shown by one object: other rows for each, since the tables do not agree
    ∷ record { gives = kept_join survey 1 (0 ∷ []); says = (10 ∷ []) ∷ (11 ∷ []) ∷ (12 ∷ []) ∷ [] }
    ∷ record { gives = family (shown survey (kept_sets survey 1) (1 ∷ [])) ∷ []; says = (1 ∷ []) ∷ [] }
    ∷ record { gives = kept_join survey 1 (1 ∷ []); says = (10 ∷ []) ∷ (11 ∷ []) ∷ (13 ∷ []) ∷ [] }
    ∷ record { gives = family (shown survey (kept_sets survey 1) (2 ∷ [])) ∷ []; says = (1 ∷ []) ∷ [] }
    ∷ record { gives = kept_join survey 1 (2 ∷ []); says = (10 ∷ []) ∷ (12 ∷ []) ∷ [] }
    -- the full join on STATION has fewer rows than each of the three
    ∷ record { gives = join_rows kinds survey 1; says = (10 ∷ []) ∷ [] }
    -- "where they share none, both are empty or neither is": else a row is shown that the full join lacks
    ∷ record { gives = part kinds apart 1; says = (10 ∷ []) ∷ [] }
    ∷ record { gives = join_rows kinds apart 1; says = [] }
    -- where the tables agree, the full join on STATION and what either object shows: the same rows, a row found more
    -- than once counting once
    ∷ record {
      gives = join_rows kinds paired 1;
      says = (10 ∷ []) ∷ (10 ∷ []) ∷ (10 ∷ []) ∷ (10 ∷ []) ∷ (11 ∷ []) ∷ [];
    }
    ∷ record { gives = kept_join paired 1 (0 ∷ []); says = (10 ∷ []) ∷ (10 ∷ []) ∷ (11 ∷ []) ∷ [] }
    ∷ record { gives = kept_join paired 1 (1 ∷ []); says = (10 ∷ []) ∷ (10 ∷ []) ∷ (11 ∷ []) ∷ [] }
    -- request 5: "in a join a missing cell matches nothing, itself included"; the lead alone is shown by one object. So
    -- the full join on LEAD has not all rows of the part, although the tables agree (`gap_agrees`)
    ∷ record { gives = part kinds gap 6; says = [] }
    ∷ record { gives = part kinds gap 2; says = (501 ∷ []) ∷ [] }
    ∷ record { gives = join_rows kinds gap 2; says = [] }
    -- tables that share DEPTH, a length: -1 matches itself, -2,147,483,648 is missing
    ∷ record { gives = part kinds depths 6; says = (501 ∷ 7 ∷ []) ∷ [] }
    -- a missing cell under an attribute of one object
    ∷ record { gives = part kinds (lead_only ∷ []) 3; says = (4294967295 ∷ 501 ∷ []) ∷ [] }
    ∷ record { gives = part kinds own_gap 10; says = (501 ∷ 2147483648 ∷ []) ∷ [] }
    ∷ record { gives = join_rows kinds own_gap 10; says = (501 ∷ 2147483648 ∷ []) ∷ [] }
    ∷ []

pub trials_hold : map (λ t. t.gives) trials ≡ map (λ t. t.says) trials
unfolding trials survey paired apart gap own_gap depths kinds missing part join_rows going_on each_passing matches_all
    rows_match all_pass together shown project projected cell_of shown_rows kept kept_of keeps goes goes_for left settle
    staying stays removable some_holds around union bit has within ◌∩◌ ◌∪◌ single is_empty rank members matches
trials_hold = refl

-- ---- the objects that may stand

-- each object may stand for the kept set {0}: the kept objects differ by the choice, the kept set does not
pub each_may_stand : StandFor survey (kept_sets survey 1) (0 ∷ []) × StandFor survey (kept_sets survey 1) (1 ∷ [])
    × StandFor survey (kept_sets survey 1) (2 ∷ [])
unfolding survey kept kept_of keeps goes goes_for left settle staying stays removable some_holds around union bit has
    within ◌∩◌ ◌∪◌ single is_empty
each_may_stand = (
  one (lit< tt) (yes_within 1 3 refl) none,
  one (lit< tt) (yes_within 1 5 refl) none,
  one (lit< tt) (yes_within 1 9 refl) none,
)

-- ---- tables that agree and tables that do not

abbrev Shared : Table → Table → Type 0
Shared T U = SameRows (project (T.set ∩ U.set) T) (project (T.set ∩ U.set) U)

-- two tables agree pairwise if they show the same rows
two_agree : (T U : Table) → Shared T U → Shared U T → AgreePairwise (T ∷ U ∷ [])
two_agree T U tu ut = record { shared = shared }
  where
    self : (T : Table) → Shared T T
    self T = record { first_in_second = λ row m. m; second_in_first = λ row m. m }

    shared : (V₁ V₂ : Table) → Memᴰ V₁ (T ∷ U ∷ []) → Memᴰ V₂ (T ∷ U ∷ []) → Shared V₁ V₂
    shared V₁ V₂ (Memᴰ.head p) (Memᴰ.head q) = subst₂ Shared (sym p) (sym q) (self T)
    shared V₁ V₂ (Memᴰ.head p) (Memᴰ.tail (Memᴰ.head q)) = subst₂ Shared (sym p) (sym q) tu
    shared V₁ V₂ (Memᴰ.tail (Memᴰ.head p)) (Memᴰ.head q) = subst₂ Shared (sym p) (sym q) ut
    shared V₁ V₂ (Memᴰ.tail (Memᴰ.head p)) (Memᴰ.tail (Memᴰ.head q)) =
        subst₂ Shared (sym p) (sym q) (self U)
    shared V₁ V₂ (Memᴰ.tail (Memᴰ.tail m)) n = absurd (Memᴰ.not-nil m)
    shared V₁ V₂ (Memᴰ.head p) (Memᴰ.tail (Memᴰ.tail n)) = absurd (Memᴰ.not-nil n)
    shared V₁ V₂ (Memᴰ.tail (Memᴰ.head p)) (Memᴰ.tail (Memᴰ.tail n)) = absurd (Memᴰ.not-nil n)

-- an attribute of two of two sets is one that they share
shared_of_two : {S U a : ℕ} → OfTwo (S ∷ U ∷ []) a → a ∈ S ∩ U
shared_of_two {S} {U} {a} w =
    ∩_in (subst (λ (i : ℕ). a ∈ at (S ∷ U ∷ []) i) first w.in_first)
    (subst (λ (i : ℕ). a ∈ at (S ∷ U ∷ []) i) second w.in_second)
  where
    first : w.first ≡ 0
    first = omega (arith, w.before, w.there)

    second : w.second ≡ 1
    second = omega (arith, w.before, w.there)

-- two sets of attributes
two_bounded : {S U : ℕ} → S < 2 ^ ATTRIBUTES → U < 2 ^ ATTRIBUTES → OfAttributes (S ∷ U ∷ [])
two_bounded {S} {U} p q = record { bounded = low }
  where
    low : (s : ℕ) → Memᴰ s (S ∷ U ∷ []) → s < 2 ^ ATTRIBUTES
    low s (Memᴰ.head e) = omega (arith, e, p)
    low s (Memᴰ.tail (Memᴰ.head e)) = omega (arith, e, q)
    low s (Memᴰ.tail (Memᴰ.tail m)) = absurd (Memᴰ.not-nil m)

-- on the station the leads and the trips of `paired` show the same rows
pub paired_agree : AgreePairwise paired
unfolding paired project projected cell_of rank members has bit ◌∩◌
paired_agree =
    two_agree leads trips (record { first_in_second = λ row m. m; second_in_first = λ row m. m })
    (record { first_in_second = λ row m. m; second_in_first = λ row m. m })

-- nor do they differ where the station is missing: "Duplicate rows are still judged by their bytes", and so is
-- agreement
pub gap_agrees : AgreePairwise gap
unfolding gap project projected cell_of rank members has bit ◌∩◌
gap_agrees =
    two_agree lead_only trip_only (record { first_in_second = λ row m. m; second_in_first = λ row m. m })
    (record { first_in_second = λ row m. m; second_in_first = λ row m. m })

-- so M's part has a lead that the full join has not, and "equality with it is kept" only without such cells
pub gap_adds_a_row : ((row : Row) → InPart kinds gap 2 row → InFullJoin kinds gap 2 row) → ⊥
unfolding gap kinds missing part join_rows going_on each_passing matches_all rows_match all_pass together project projected
    cell_of shown_rows kept kept_of keeps goes goes_for left settle staying stays removable some_holds around union bit has
    within ◌∩◌ ◌∪◌ single is_empty rank members matches
gap_adds_a_row same =
    Memᴰ.not-nil ((join_computed kinds gap 2 bounded inside).finds_row (501 ∷ []) (same (501 ∷ [])
    ((part_computed kinds gap 2 bounded inside).row_found (501 ∷ []) (Memᴰ.head refl))))
  where
    inside : 2 ⊆ union (family gap)
    inside = yes_within 2 7 refl

    bounded : OfAttributes (family gap)
    bounded = two_bounded (lit< tt) (lit< tt)

-- a missing cell under an attribute of one object is none "under an attribute of two of its objects": the tables agree,
-- the premise holds, and M's part is the full join
pub own_gap_agrees : AgreePairwise own_gap
unfolding own_gap project projected cell_of rank members has bit ◌∩◌
own_gap_agrees =
    two_agree lead no_depth (record { first_in_second = λ row m. m; second_in_first = λ row m. m })
    (record { first_in_second = λ row m. m; second_in_first = λ row m. m })

pub own_gap_none_missing : NoneMissing kinds own_gap
unfolding own_gap kinds missing cell_of rank ◌∩◌ single
own_gap_none_missing = record {
  stated = λ a w T m i row r.
      let e : a ≡ 0 = in_single (shared_of_two w) in
      subst (λ (b : ℕ). missing (get_or kinds b 0) (cell_of T.set row b) ≡ false) (sym e) (station T m row r);
}
  where
    -- a cell of STATION, the one attribute of both
    Noted : ℕ → Row → Type 0
    Noted S row = missing (get_or kinds 0 0) (cell_of S row 0) ≡ false

    only : (S : ℕ) {x : Row} → Noted S x → (row : Row) → Memᴰ row (x ∷ []) → Noted S row
    only S y row (Memᴰ.head e) = subst (Noted S) (sym e) y
    only S y row (Memᴰ.tail m) = absurd (Memᴰ.not-nil m)

    station : (T : Table) → Memᴰ T own_gap → (row : Row) → Memᴰ row T.rows → Noted T.set row
    station T (Memᴰ.head e) =
        subst (λ (U : Table). (row : Row) → Memᴰ row U.rows → Noted U.set row) (sym e) (only 3 refl)
    station T (Memᴰ.tail (Memᴰ.head e)) =
        subst (λ (U : Table). (row : Row) → Memᴰ row U.rows → Noted U.set row) (sym e) (only 9 refl)
    station T (Memᴰ.tail (Memᴰ.tail m)) = absurd (Memᴰ.not-nil m)

pub own_gap_equal : (row : Row) → InFullJoin kinds own_gap 10 row ↔ InPart kinds own_gap 10 row
unfolding own_gap union bit ◌∪◌ within
own_gap_equal =
    (part_holds kinds own_gap 10 (two_bounded (lit< tt) (lit< tt)) (yes_within 10 11 refl) (1, record { is_one = refl })
    ).equal own_gap_agrees own_gap_none_missing

-- the survey has a lead at station 12 and no trip there
pub survey_disagrees : AgreePairwise survey → ⊥
unfolding survey project projected cell_of rank members has bit ◌∩◌
survey_disagrees agree =
    no_trip ((agree.shared _ _ (Memᴰ.head refl) (Memᴰ.tail (Memᴰ.head refl))).first_in_second (12 ∷ [])
    (Memᴰ.tail (Memᴰ.tail (Memᴰ.head refl))))
  where
    no_trip : Memᴰ {A = List ℕ} (12 ∷ []) ((10 ∷ []) ∷ (11 ∷ []) ∷ (13 ∷ []) ∷ []) → ⊥
    no_trip (Memᴰ.head e) = let z : ◌≡◌ {A = ℕ} 12 10 = head-eq_of_cons-eq e in omega arith
    no_trip (Memᴰ.tail (Memᴰ.head e)) = let z : ◌≡◌ {A = ℕ} 12 11 = head-eq_of_cons-eq e in omega arith
    no_trip (Memᴰ.tail (Memᴰ.tail (Memᴰ.head e))) =
        let z : ◌≡◌ {A = ℕ} 12 13 = head-eq_of_cons-eq e in omega arith
    no_trip (Memᴰ.tail (Memᴰ.tail (Memᴰ.tail m))) = Memᴰ.not-nil m

-- two tables with no row agree: those of leads and of trips, which share STATION, and two that share nothing
pub empty_tables_agree : AgreePairwise (no_rows 3 ∷ no_rows 5 ∷ []) × AgreePairwise (no_rows 1 ∷ no_rows 4 ∷ [])
unfolding project
empty_tables_agree = (agree 3 5, agree 1 4)
  where
    same : (S S' : ℕ) → Shared (no_rows S) (no_rows S')
    same S S' = record { first_in_second = λ row m. m; second_in_first = λ row m. m }

    agree : (S S' : ℕ) → AgreePairwise (no_rows S ∷ no_rows S' ∷ [])
    agree S S' = two_agree (no_rows S) (no_rows S') (same S S') (same S' S)

-- an empty table and a filled one do not: leads and no trips, which share STATION
pub leads_and_no_trips_disagree : AgreePairwise (leads ∷ no_rows 5 ∷ []) → ⊥
unfolding project projected cell_of rank members has bit ◌∩◌
leads_and_no_trips_disagree agree =
    Memᴰ.not-nil ((agree.shared leads (no_rows 5) (Memᴰ.head refl) (Memᴰ.tail (Memᴰ.head refl))
    ).first_in_second (10 ∷ []) (Memᴰ.head refl))

-- and stations and no trips, which share nothing
pub apart_disagrees : AgreePairwise apart → ⊥
unfolding apart project projected cell_of rank members has bit ◌∩◌
apart_disagrees agree =
    Memᴰ.not-nil ((agree.shared _ _ (Memᴰ.head refl) (Memᴰ.tail (Memᴰ.head refl))
    ).first_in_second [] (Memᴰ.head refl))
