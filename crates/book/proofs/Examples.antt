-- Worked examples: what reading gives beside what the paper says, in one list under one theorem.
-- In order: the unit's book, three objects in a ring, comparison tables, small books, the trials, bounds, what books
-- declare, tables.
-- Assumes nothing.
use mathlib.Core.Path.{◌≡◌, refl}
use mathlib.Core.Bool.{false}
use mathlib.Core.List.{List, [], ◌∷◌, ◌++◌, map, flat_map}
use Prim.Native.Nat.{ℕ}
use lib.ListN.{length, take, replicate}
use Rattle.sets.specs.Sets.{bit, has, within, ◌∩◌, ◌∪◌, ◌∖◌, single, is_empty, rank, members, ATTRIBUTES}
use Rattle.values.specs.Values.{missing, in_range}
use Rattle.values.specs.Table.{built_in, mirrored, entry_keeps, every_below, keeps_rules}
use Rattle.reduction.specs.Kept.{union, around, some_holds, removable, stays, staying, settle, left, acyclic, goes_for}
use Rattle.reduction.specs.Kept.{goes, keeps, kept_of}
use Rattle.records.specs.Fields.{bytes, value, field}
use Rattle.records.specs.Records.{kinds, whose, is_kind, of_book, body_length, kind_of, bytes_of, bytes_of_all}
use Rattle.records.specs.Records.{bytes_of_book, bytes_of_query}
use Rattle.records.specs.Reader.{bodies, record_of, read_front, read_at}
use Rattle.records.specs.Checks.{first_of}
use Rattle.records.specs.Walking.{short_number, walk_from, walk}
use Rattle.records.specs.declared.BookRecord.{BookRecord}
use Rattle.records.specs.declared.Record.TheVariants.{OfBook}
use Rattle.records.specs.declared.BookRecord.TheVariants.{Attribute, Object, Dependency, Row, Declared, Removed}
use Rattle.records.specs.declared.BookRecord.TheVariants.{ComparisonTable, OnlyDeclared, DeclaredWide}
use Rattle.records.specs.declared.QueryRecord.TheVariants.{Item}
use Rattle.relation.specs.Tables.{cell_of, Table}
use Rattle.scheme.specs.declared.Scheme.{Scheme}
use Rattle.scheme.specs.Dependencies.{pass, passes, closure}
use Rattle.scheme.specs.Growing.{family_of, attributes_of, joins, holding, rounds, grown}
use Rattle.scheme.specs.MaximalObjects.{computed, is_one, removing, adding, counted}
use Rattle.scheme.specs.MaximalObjects.{maximal_objects, both_kinds, some_cyclic}
use Rattle.scheme.specs.OfScheme.{pairs, computed_of, maximal_of, both_of, cyclic_of}
use Rattle.book.specs.Faults.{some_non_zero, some_outside, wrong_cells, row_checks, maximal_checks}
use Rattle.book.specs.Faults.{checks, fault_of}
use Rattle.book.specs.Declaring.{nothing_declared, with_attribute, with_object, with_dependency, with_maximal}
use Rattle.book.specs.Declaring.{with_table, with_declared, with_removed, with_only, with_masks, declare}
use Rattle.book.specs.Reading.{Outcome, is_row, with_row, records, last_fault, after_last}
use Rattle.book.specs.Reading.{last_number, read, maximals_of}
use Rattle.book.specs.TablesOf.{cells_of, row_of, rows_of, tables_of}

-- ---- the unit's book: "attributes 0 STATION, 1 LEAD, 2 TRIP (names), 3 DEPTH (length); objects 0 {0,1}, 1 {0,2}, 2
-- {0,3}; dependencies {0} to {2} and {0} to {3}. Rows: object 0 (10,501) (11,502) (12,503); object 1 (10,7) (11,7)
-- (13,7); object 2 (10,-2500) (12,-900)."

unfoldable pub survey : List BookRecord
survey =
    Attribute 0 0 ∷ Attribute 1 0 ∷ Attribute 2 0 ∷ Attribute 3 1
    ∷ Object 0 3 ∷ Object 1 5 ∷ Object 2 9
    ∷ Dependency 1 4 ∷ Dependency 1 8
    ∷ Row 0 10 501 0 0 0 0 ∷ Row 0 11 502 0 0 0 0 ∷ Row 0 12 503 0 0 0 0
    ∷ Row 1 10 7 0 0 0 0 ∷ Row 1 11 7 0 0 0 0 ∷ Row 1 13 7 0 0 0 0
    ∷ Row 2 10 4294964796 0 0 0 0 ∷ Row 2 12 4294966396 0 0 0 0
    ∷ []

-- ---- "Objects AB, BC, CA with A to B and B to C". Attributes: 0 A, 1 B, 2 C

unfoldable pub ring : List BookRecord
ring =
    Attribute 0 0 ∷ Attribute 1 0 ∷ Attribute 2 0 ∷ Object 0 3 ∷ Object 1 6 ∷ Object 2 5
    ∷ Dependency 1 2 ∷ Dependency 2 4 ∷ []

-- ---- comparison tables: the built-in one as a record, a word for each left kind, and a club's own, which has all six
-- operators between names and dates too

unfoldable pub as_built_in : BookRecord
as_built_in = ComparisonTable 3 16128 196608 1056964608

unfoldable pub of_club : BookRecord
of_club = ComparisonTable 1056964611 16128 196608 1056964671

-- ---- small books: an angle with an object of it, and eight maximal objects declared

unfoldable pub angles : List BookRecord
angles = Attribute 0 2 ∷ Object 0 1 ∷ []

unfoldable pub eight : List BookRecord
eight =
    angles
    ++ Declared 1 ∷ Declared 1 ∷ Declared 1 ∷ Declared 1 ∷ Declared 1 ∷ Declared 1 ∷ Declared 1 ∷ Declared 1 ∷ []

-- request 9: attributes 0 to 3, names; objects 31 {0, 1}, 32 {1, 2}, 63 {2, 3}, which grow into {31, 32} and {63} where 1
-- determines 2
unfoldable pub far : List BookRecord
far = Attribute 0 0 ∷ Attribute 1 0 ∷ Attribute 2 0 ∷ Attribute 3 0 ∷ Object 31 3 ∷ Object 32 6 ∷ Object 63 12 ∷ []

unfoldable pub grown_far : List BookRecord
grown_far = far ++ Dependency 2 4 ∷ []

-- one record or two of each kind that declares something: attributes of all four value kinds, not in order
unfoldable pub mixed : List BookRecord
mixed =
    Attribute 4 0 ∷ Attribute 1 2 ∷ Attribute 0 3 ∷ Attribute 2 1
    ∷ Object 3 19 ∷ Object 1 6
    ∷ Dependency 1 2 ∷ Dependency 4 16
    ∷ Declared 8 ∷ Declared 10 ∷ Removed 2 ∷ of_club ∷ []

-- ---- the trials

-- the number, how many rows, and the maximal objects
unfoldable pub result : List ℕ → List ℕ
result b = let o : Outcome = read b in o.number ∷ length o.rows ∷ maximals_of o

abbrev pub book : List BookRecord → List ℕ
book rs = result (bytes_of_book rs)

pub record Trial : Type 0 where
  pub gives : List ℕ
  pub says : List ℕ

unfoldable pub trials : List Trial
trials =
    record { gives = book survey; says = 0 ∷ 8 ∷ 7 ∷ [] }  -- good, with one maximal object of all three
    ∷ record { gives = result []; says = 0 ∷ 0 ∷ [] }  -- "A file that can't be opened counts as an empty book."
    ∷ record { gives = book ring; says = 9 ∷ 0 ∷ 7 ∷ [] }  -- "Objects AB, BC, CA with A to B and B to C: 9"
    ∷ record { gives = book (ring ++ Object 3 7 ∷ []); says = 0 ∷ 0 ∷ 15 ∷ [] }  -- "With object ABC also: accepted."
    ∷ record { gives = book (ring ++ Removed 1 ∷ []); says = 9 ∷ 0 ∷ 7 ∷ [] }  -- it matches nothing: no effect
    ∷ record { gives = book (ring ++ Removed 7 ∷ []); says = 0 ∷ 0 ∷ [] }  -- it matches: none is left
    ∷ record { gives = book (ring ++ OnlyDeclared ∷ []); says = 0 ∷ 0 ∷ [] }  -- "only declared maximal objects count"
    ∷ record { gives = book (ring ++ OnlyDeclared ∷ Declared 3 ∷ OnlyDeclared ∷ []); says = 0 ∷ 0 ∷ 3 ∷ [] }
    ∷ record { gives = book (ring ++ Declared 7 ∷ OnlyDeclared ∷ Removed 1 ∷ []); says = 21 ∷ 0 ∷ 7 ∷ [] }  -- 21, not 9
    ∷ record {  -- a record first
      gives = result (bytes_of_book (ring ++ Removed 7 ∷ OnlyDeclared ∷ []) ++ bytes_of_query (Item 0 0 ∷ []));
      says = 2 ∷ 0 ∷ [];
    }
    ∷ record { gives = result (bytes_of_query (Item 0 0 ∷ [])); says = 2 ∷ 0 ∷ [] }  -- a kind of a query
    ∷ record { gives = result (1 ∷ 0 ∷ []); says = 3 ∷ 0 ∷ [] }  -- a body cut short
    ∷ record { gives = result (8 ∷ 0 ∷ []); says = 2 ∷ 0 ∷ [] }  -- a kind of a query cut short
    ∷ record { gives = book (eight ++ Declared 0 ∷ []); says = 4 ∷ 0 ∷ [] }  -- 4 comes before 5
    ∷ record { gives = book (angles ++ Object 0 2 ∷ []); says = 6 ∷ 0 ∷ [] }  -- 6 comes before 7
    ∷ record { gives = book (angles ++ Row 1 36000 1 0 0 0 0 ∷ []); says = 7 ∷ 0 ∷ [] }  -- the row's object first
    ∷ record { gives = book (angles ++ Row 0 35999 0 0 0 0 0 ∷ []); says = 0 ∷ 1 ∷ 1 ∷ [] }
    ∷ record { gives = book (angles ++ Row 0 36000 0 0 0 0 0 ∷ []); says = 5 ∷ 0 ∷ [] }  -- "an angle over 35,999"
    ∷ record { gives = book (angles ++ Row 0 0 0 0 0 0 1 ∷ []); says = 5 ∷ 0 ∷ [] }  -- "a non-zero unneeded cell"
    -- request 5: 4,294,967,295 "in the other kinds (angles too), now means missing and is in range"; one less is not,
    -- nor is it a cell that no attribute needs
    ∷ record { gives = book (angles ++ Row 0 4294967295 0 0 0 0 0 ∷ []); says = 0 ∷ 1 ∷ 1 ∷ [] }
    ∷ record { gives = book (angles ++ Row 0 4294967294 0 0 0 0 0 ∷ []); says = 5 ∷ 0 ∷ [] }
    ∷ record { gives = book (angles ++ Row 0 0 4294967295 0 0 0 0 ∷ []); says = 5 ∷ 0 ∷ [] }
    ∷ record { gives = book (angles ++ as_built_in ∷ []); says = 0 ∷ 0 ∷ 1 ∷ [] }  -- a table that keeps the rules
    ∷ record { gives = book (of_club ∷ angles); says = 0 ∷ 0 ∷ 1 ∷ [] }
    -- less between names and dates, and greater between dates and names
    ∷ record { gives = book (ComparisonTable 67108867 16128 196608 1056964624 ∷ []); says = 0 ∷ 0 ∷ [] }
    -- "at most one (else 4)", also where the second breaks the rules
    ∷ record { gives = book (of_club ∷ as_built_in ∷ []); says = 4 ∷ 0 ∷ [] }
    ∷ record { gives = book (of_club ∷ ComparisonTable 2 16128 196608 1056964608 ∷ []); says = 4 ∷ 0 ∷ [] }
    -- "20 a table that breaks this": bit 6 within lengths; less between names and dates, and nothing between dates and
    -- names; no equal within names, lengths, angles, dates
    ∷ record { gives = book (ComparisonTable 3 32512 196608 1056964608 ∷ []); says = 20 ∷ 0 ∷ [] }
    ∷ record { gives = book (ComparisonTable 67108867 16128 196608 1056964608 ∷ []); says = 20 ∷ 0 ∷ [] }
    ∷ record { gives = book (ComparisonTable 2 16128 196608 1056964608 ∷ []); says = 20 ∷ 0 ∷ [] }
    ∷ record { gives = book (ComparisonTable 3 15872 196608 1056964608 ∷ []); says = 20 ∷ 0 ∷ [] }
    ∷ record { gives = book (ComparisonTable 3 16128 131072 1056964608 ∷ []); says = 20 ∷ 0 ∷ [] }
    ∷ record { gives = book (ComparisonTable 3 16128 196608 1040187392 ∷ []); says = 20 ∷ 0 ∷ [] }
    ∷ record { gives = result (13 ∷ 3 ∷ 0 ∷ 0 ∷ 0 ∷ []); says = 3 ∷ 0 ∷ [] }  -- a table cut short
    -- request 9: objects over 31, each alone, and grown; declared together by kind 15
    ∷ record { gives = book far; says = 0 ∷ 0 ∷ 2147483648 ∷ 4294967296 ∷ 9223372036854775808 ∷ [] }
    ∷ record { gives = book grown_far; says = 0 ∷ 0 ∷ 6442450944 ∷ 9223372036854775808 ∷ [] }
    ∷ record {
      gives = book (grown_far ++ DeclaredWide 9223372043297226752 ∷ []);
      says = 0 ∷ 0 ∷ 6442450944 ∷ 9223372036854775808 ∷ 9223372043297226752 ∷ [];
    }
    -- "the sets of kinds 5 and 6 name objects 0 to 31": the low half of a computed set is not that set
    ∷ record { gives = book (grown_far ++ Removed 2147483648 ∷ []); says = 0 ∷ 0 ∷ 6442450944 ∷ 9223372036854775808 ∷ [] }
    -- the same set by kind 5 and by kind 15 is one, under kind 14 too
    ∷ record {
      gives = book (far ++ OnlyDeclared ∷ Declared 2147483648 ∷ DeclaredWide 2147483648 ∷ []);
      says = 0 ∷ 0 ∷ 2147483648 ∷ [];
    }
    -- an empty set, an object that is not declared, a body cut short
    ∷ record { gives = book (far ++ DeclaredWide 0 ∷ []); says = 5 ∷ 0 ∷ [] }
    ∷ record { gives = book (far ++ DeclaredWide 4611686018427387904 ∷ []); says = 7 ∷ 0 ∷ [] }
    ∷ record { gives = result (15 ∷ 1 ∷ 0 ∷ 0 ∷ 0 ∷ 0 ∷ 0 ∷ 0 ∷ []); says = 3 ∷ 0 ∷ [] }
    -- "shares its bound of 8": the ninth of both kinds, before 5; cut off
    ∷ record { gives = book (eight ++ DeclaredWide 0 ∷ []); says = 4 ∷ 0 ∷ [] }
    ∷ record { gives = result (bytes_of_book eight ++ 15 ∷ 1 ∷ []); says = 3 ∷ 0 ∷ [] }
    ∷ []

pub trials_hold : map (λ t. t.gives) trials ≡ map (λ t. t.says) trials
unfolding trials survey ring far grown_far angles eight as_built_in of_club result read after_last last_fault last_number records walk
    walk_from short_number with_row is_row maximals_of declare with_maximal with_table with_masks with_only with_removed
    with_declared with_dependency
    with_object with_attribute nothing_declared keeps_rules every_below entry_keeps mirrored built_in fault_of checks
    maximal_checks row_checks wrong_cells some_outside some_non_zero first_of of_book cyclic_of both_of maximal_of computed_of pairs
    some_cyclic counted both_kinds maximal_objects adding removing is_one computed grown rounds holding joins attributes_of
    family_of closure passes pass cell_of read_at read_front record_of bodies bytes_of_all bytes_of kind_of body_length is_kind
    whose kinds field value bytes kept_of keeps goes goes_for acyclic left settle staying stays removable some_holds around
    union missing in_range members rank is_empty single ◌∖◌ ◌∪◌ ◌∩◌ within has bit
trials_hold = refl

-- ---- bounds: "64 dependencies; 8 records of kind 5 and 8 of kind 6"; "attribute, id 0..31"; "An object has one
-- to six attributes."; request 7: "at most one (else 4)"; request 9: "Object numbers run to 63 in kinds 2 and 4", "number
-- 64 meets 5", kind 15 "shares its bound of 8"

-- a scheme with so many of each behind it: attributes 0 to 6, names; objects 31 and 63, both of attributes 0 to 5
unfoldable pub having : ℕ → ℕ → ℕ → ℕ → Scheme
having dependencies declarations removals tables = record {
  kinds = replicate ATTRIBUTES 0;
  attributes = 127;
  sets = replicate 31 0 ++ 63 ∷ replicate 31 0 ++ 63 ∷ [];
  objects = 9223372039002259456;
  left = replicate 64 0;
  right = replicate 64 0;
  dependencies = dependencies;
  maximal = record {
    declared = replicate 8 0;
    declarations = declarations;
    removed = replicate 8 0;
    removals = removals;
    only = false;
  };
  table = record { masks = built_in; given = tables };
}

abbrev pub behind : ℕ → ℕ → ℕ → ℕ → BookRecord → ℕ
behind dependencies declarations removals tables r =
    fault_of (having dependencies declarations removals tables) (OfBook r)

abbrev pub inside : BookRecord → ℕ
inside r = behind 0 0 0 0 r

-- the fault of a record at its bound, and one past it
unfoldable pub bounds : List (List ℕ)
bounds =
    (behind 63 0 0 0 (Dependency 1 2) ∷ behind 64 0 0 0 (Dependency 1 2) ∷ [])
    ∷ (behind 0 7 0 0 (Declared 2147483648) ∷ behind 0 8 0 0 (Declared 2147483648) ∷ [])
    ∷ (behind 0 7 0 0 (DeclaredWide 9223372036854775808) ∷ behind 0 8 0 0 (DeclaredWide 9223372036854775808) ∷ [])
    ∷ (behind 0 0 7 0 (Removed 2147483648) ∷ behind 0 0 8 0 (Removed 2147483648) ∷ [])
    ∷ (behind 0 0 0 0 as_built_in ∷ behind 0 0 0 1 as_built_in ∷ [])
    ∷ (inside (Attribute 31 0) ∷ inside (Attribute 32 0) ∷ [])
    ∷ (inside (Attribute 7 3) ∷ inside (Attribute 7 4) ∷ [])
    ∷ (inside (Object 0 1) ∷ inside (Object 0 0) ∷ [])
    ∷ (inside (Object 0 63) ∷ inside (Object 0 127) ∷ [])
    ∷ (inside (Object 62 1) ∷ inside (Object 64 1) ∷ [])
    ∷ (inside (Row 63 1 2 3 4 5 6) ∷ inside (Row 64 1 2 3 4 5 6) ∷ [])
    ∷ []

pub bounds_hold : bounds
    ≡ (0 ∷ 4 ∷ []) ∷ (0 ∷ 4 ∷ []) ∷ (0 ∷ 4 ∷ []) ∷ (0 ∷ 4 ∷ []) ∷ (0 ∷ 4 ∷ []) ∷ (0 ∷ 5 ∷ []) ∷ (0 ∷ 5 ∷ []) ∷ (0 ∷ 5 ∷ [])
    ∷ (0 ∷ 5 ∷ []) ∷ (0 ∷ 5 ∷ []) ∷ (0 ∷ 5 ∷ []) ∷ []
unfolding bounds having as_built_in built_in fault_of checks maximal_checks row_checks wrong_cells some_outside some_non_zero
    first_of keeps_rules every_below entry_keeps mirrored cell_of missing in_range members rank is_empty single ◌∖◌ ◌∪◌ ◌∩◌
    within has bit bytes
bounds_hold = refl

-- ---- what books declare: value kinds, the sets of objects, both sides of the dependencies, kind 5 and kind 6 sets,
-- each with a place more; the comparison table; the sets of attributes and objects and the counts; the positions of the
-- rows

unfoldable pub declares : List BookRecord → List (List ℕ)
declares rs =
    let o : Outcome = read (bytes_of_book rs) in
    let s : Scheme = o.scheme in
    take 6 s.kinds ∷ take 5 s.sets ∷ take 3 s.left ∷ take 3 s.right ∷ take 3 s.maximal.declared
    ∷ take 2 s.maximal.removed ∷ s.table.masks
    ∷ (s.attributes ∷ s.objects ∷ s.dependencies ∷ s.maximal.declarations ∷ s.maximal.removals
    ∷ s.table.given ∷ [])
    ∷ o.rows ∷ []

-- ---- tables: for each object of M its set, then its rows

unfoldable pub tables : List BookRecord → ℕ → List (List ℕ)
tables rs M =
    let b : List ℕ = bytes_of_book rs in
    flat_map (λ (T : Table). (T.set ∷ []) ∷ T.rows) (tables_of b (read b) M)

-- a row of two cells: "cells not needed are zero"
abbrev pair : ℕ → ℕ → List ℕ
pair a c = a ∷ c ∷ 0 ∷ 0 ∷ 0 ∷ 0 ∷ []

pub record Layout : Type 0 where
  pub gives : List (List ℕ)
  pub says : List (List ℕ)

-- the unit's book, with -2500 and -900 in two's complement, and the mixed one
unfoldable pub layouts : List Layout
layouts =
    record {
      gives = declares survey;
      says =
          (0 ∷ 0 ∷ 0 ∷ 1 ∷ 0 ∷ 0 ∷ []) ∷ (3 ∷ 5 ∷ 9 ∷ 0 ∷ 0 ∷ []) ∷ (1 ∷ 1 ∷ 0 ∷ []) ∷ (4 ∷ 8 ∷ 0 ∷ [])
          ∷ (0 ∷ 0 ∷ 0 ∷ []) ∷ (0 ∷ 0 ∷ [])
          ∷ (3 ∷ 0 ∷ 0 ∷ 0 ∷ 0 ∷ 63 ∷ 0 ∷ 0 ∷ 0 ∷ 0 ∷ 3 ∷ 0 ∷ 0 ∷ 0 ∷ 0 ∷ 63 ∷ [])
          ∷ (15 ∷ 7 ∷ 2 ∷ 0 ∷ 0 ∷ 0 ∷ [])
          ∷ (48 ∷ 74 ∷ 100 ∷ 126 ∷ 152 ∷ 178 ∷ 204 ∷ 230 ∷ []) ∷ [];
    }
    ∷ record {
      gives = tables survey 7;
      says =
          (3 ∷ []) ∷ pair 10 501 ∷ pair 11 502 ∷ pair 12 503
          ∷ (5 ∷ []) ∷ pair 10 7 ∷ pair 11 7 ∷ pair 13 7
          ∷ (9 ∷ []) ∷ pair 10 4294964796 ∷ pair 12 4294966396 ∷ [];
    }
    ∷ record {
      gives = declares mixed;
      says =
          (3 ∷ 2 ∷ 1 ∷ 0 ∷ 0 ∷ 0 ∷ []) ∷ (0 ∷ 6 ∷ 0 ∷ 19 ∷ 0 ∷ []) ∷ (1 ∷ 4 ∷ 0 ∷ []) ∷ (2 ∷ 16 ∷ 0 ∷ [])
          ∷ (8 ∷ 10 ∷ 0 ∷ []) ∷ (2 ∷ 0 ∷ [])
          ∷ (3 ∷ 0 ∷ 0 ∷ 63 ∷ 0 ∷ 63 ∷ 0 ∷ 0 ∷ 0 ∷ 0 ∷ 3 ∷ 0 ∷ 63 ∷ 0 ∷ 0 ∷ 63 ∷ [])
          ∷ (23 ∷ 10 ∷ 2 ∷ 2 ∷ 1 ∷ 1 ∷ []) ∷ [] ∷ [];
    }
    ∷ []

pub layouts_hold : map (λ l. l.gives) layouts ≡ map (λ l. l.says) layouts
unfolding layouts declares tables flat_map tables_of rows_of row_of cells_of survey mixed of_club read after_last last_fault
    last_number records walk walk_from short_number with_row is_row declare with_maximal with_table with_masks with_only
    with_removed with_declared
    with_dependency with_object with_attribute nothing_declared keeps_rules every_below entry_keeps mirrored built_in fault_of
    checks maximal_checks row_checks wrong_cells some_outside some_non_zero first_of of_book cyclic_of both_of maximal_of
    computed_of pairs some_cyclic counted both_kinds maximal_objects adding removing is_one computed grown rounds holding
    joins attributes_of family_of closure passes pass cell_of read_at read_front record_of bodies bytes_of_all bytes_of kind_of
    body_length is_kind whose kinds field value bytes kept_of keeps goes goes_for acyclic left settle staying stays
    removable some_holds around union missing in_range members rank is_empty single ◌∖◌ ◌∪◌ ◌∩◌ within has bit
layouts_hold = refl
