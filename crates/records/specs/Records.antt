-- The records of books and queries, and the bytes that each is: "Records" of the paper, in the order of its table.
-- In order: the table of kinds, the bytes of a record and of records, the widths of fields.
-- Not here: which values a field may have.
-- Assumes nothing.
use Rattle.std.specs.Prelude.{Bool, not, List, [], ◌∷◌, ◌++◌, map, ℕ, ◌+◌, ◌*◌, ◌^◌, ◌<◌, eqb, get_or}
use Rattle.std.specs.Prelude.{Option, None, Some}
use Rattle.records.specs.Fields.{bytes}
use Rattle.records.specs.declared.Owner.{Owner}
use Rattle.records.specs.declared.Owner.TheVariants.{Book, Query}
use Rattle.records.specs.declared.Record.{Record}
use Rattle.records.specs.declared.BookRecord.{BookRecord}
use Rattle.records.specs.declared.QueryRecord.{QueryRecord}
use Rattle.records.specs.declared.Record.TheVariants.{OfBook, OfQuery}
use Rattle.records.specs.declared.BookRecord.TheVariants.{Attribute, Object, Dependency, Row, Declared}
use Rattle.records.specs.declared.BookRecord.TheVariants.{Removed, ComparisonTable, OnlyDeclared}
use Rattle.records.specs.declared.BookRecord.TheVariants.{DeclaredWide}
use Rattle.records.specs.declared.QueryRecord.TheVariants.{Item, CompareTwo, CompareConstant, End}

-- The table of kinds, two numbers for each byte from 0 on: whose kind it is (0 no one's, 1 a book's, 2 a query's), and
-- the bytes of its body: "a body whose length the kind fixes".
unfoldable pub kinds : List ℕ
kinds =
    0 ∷ 0  -- no kind
    ∷ 1 ∷ 2  -- 1: id, value kind
    ∷ 1 ∷ 5  -- 2: number, set
    ∷ 1 ∷ 8  -- 3: set, set
    ∷ 1 ∷ 25  -- 4: object, six cells
    ∷ 1 ∷ 4  -- 5: set of objects
    ∷ 1 ∷ 4  -- 6: set of objects
    ∷ 2 ∷ 2  -- 7: variable, attribute
    ∷ 2 ∷ 5  -- 8: variable, attribute, operator, variable, attribute
    ∷ 2 ∷ 7  -- 9: variable, attribute, operator, cell
    ∷ 2 ∷ 0  -- 10: none
    ∷ 0 ∷ 0  -- 11
    ∷ 0 ∷ 0  -- 12
    ∷ 1 ∷ 16  -- 13: 16 masks
    ∷ 1 ∷ 0  -- 14: none
    ∷ 1 ∷ 8  -- 15: set of objects, in 8 bytes
    ∷ []

-- The number of whose kind a byte is, as the table has it.
abbrev pub owner_number : Option Owner → ℕ
owner_number None = 0
owner_number (Some Book) = 1
owner_number (Some Query) = 2

-- Whose kind k is, and the bytes of its body; 0 for a number that is no kind.
unfoldable pub whose : ℕ → ℕ
whose k = get_or kinds (k * 2) 0

unfoldable pub body_length : ℕ → ℕ
body_length k = get_or kinds (k * 2 + 1) 0

unfoldable pub of_book : ℕ → Bool
of_book k = eqb (whose k) 1

unfoldable pub of_query : ℕ → Bool
of_query k = eqb (whose k) 2

-- the kinds that may stand where the records of an owner are read
abbrev pub allowed_to : Owner → ℕ → Bool
allowed_to Book = of_book
allowed_to Query = of_query

unfoldable pub is_kind : ℕ → Bool
is_kind k = not (eqb (whose k) 0)

unfoldable pub kind_of : Record → ℕ
kind_of (OfBook (Attribute id kind)) = 1
kind_of (OfBook (Object number set)) = 2
kind_of (OfBook (Dependency left right)) = 3
kind_of (OfBook (Row object c0 c1 c2 c3 c4 c5)) = 4
kind_of (OfBook (Declared set)) = 5
kind_of (OfBook (Removed set)) = 6
kind_of (OfBook (ComparisonTable names lengths angles dates)) = 13
kind_of (OfBook OnlyDeclared) = 14
kind_of (OfBook (DeclaredWide set)) = 15
kind_of (OfQuery (Item variable attribute)) = 7
kind_of (OfQuery (CompareTwo variable attribute operator variable2 attribute2)) = 8
kind_of (OfQuery (CompareConstant variable attribute operator cell)) = 9
kind_of (OfQuery End) = 10

-- the masks of a comparison table: "16 bytes, byte 4 times left kind plus right kind"
abbrev pub masks_of : ℕ → ℕ → ℕ → ℕ → List ℕ
masks_of names lengths angles dates = bytes 4 names ++ bytes 4 lengths ++ bytes 4 angles ++ bytes 4 dates

-- "A record is one byte of kind, then a body". "Single fields are one byte", a set and a cell four.
unfoldable pub bytes_of : Record → List ℕ
bytes_of (OfBook (Attribute id kind)) = 1 ∷ bytes 1 id ++ bytes 1 kind
bytes_of (OfBook (Object number set)) = 2 ∷ bytes 1 number ++ bytes 4 set
bytes_of (OfBook (Dependency left right)) = 3 ∷ bytes 4 left ++ bytes 4 right
bytes_of (OfBook (Row object c0 c1 c2 c3 c4 c5)) =
    4 ∷ bytes 1 object ++ bytes 4 c0 ++ bytes 4 c1 ++ bytes 4 c2 ++ bytes 4 c3 ++ bytes 4 c4 ++ bytes 4 c5
bytes_of (OfBook (Declared set)) = 5 ∷ bytes 4 set
bytes_of (OfBook (Removed set)) = 6 ∷ bytes 4 set
bytes_of (OfBook (ComparisonTable names lengths angles dates)) = 13 ∷ masks_of names lengths angles dates
bytes_of (OfBook OnlyDeclared) = 14 ∷ []
-- "Kind 15 is kind 5 with an 8-byte set" (request 9)
bytes_of (OfBook (DeclaredWide set)) = 15 ∷ bytes 8 set
bytes_of (OfQuery (Item variable attribute)) = 7 ∷ bytes 1 variable ++ bytes 1 attribute
bytes_of (OfQuery (CompareTwo variable attribute operator variable2 attribute2)) =
    8 ∷ bytes 1 variable ++ bytes 1 attribute ++ bytes 1 operator ++ bytes 1 variable2 ++ bytes 1 attribute2
bytes_of (OfQuery (CompareConstant variable attribute operator cell)) =
    9 ∷ bytes 1 variable ++ bytes 1 attribute ++ bytes 1 operator ++ bytes 4 cell
bytes_of (OfQuery End) = 10 ∷ []

-- The bytes of records that stand one after another.
unfoldable pub bytes_of_all : List Record → List ℕ
bytes_of_all [] = []
bytes_of_all (r ∷ rs) = bytes_of r ++ bytes_of_all rs

-- Those of a book's records, and of a query's.
abbrev pub bytes_of_book : List BookRecord → List ℕ
bytes_of_book rs = bytes_of_all (map OfBook rs)

abbrev pub bytes_of_query : List QueryRecord → List ℕ
bytes_of_query rs = bytes_of_all (map OfQuery rs)

-- A single field is below 2 ^ 8, a set or a cell below 2 ^ 32, a set of objects in 8 bytes below 2 ^ 64.
abbrev pub Small : ℕ → Type 0
Small n = n < 2 ^ 8

abbrev pub Wide : ℕ → Type 0
Wide n = n < 2 ^ 32

abbrev pub Long : ℕ → Type 0
Long n = n < 2 ^ 64

-- Each field of the record fits its bytes.
unfoldable pub InWidth : Record → Type 0
InWidth (OfBook (Attribute id kind)) = Small id × Small kind
InWidth (OfBook (Object number set)) = Small number × Wide set
InWidth (OfBook (Dependency left right)) = Wide left × Wide right
InWidth (OfBook (Row object c0 c1 c2 c3 c4 c5)) =
    Small object × Wide c0 × Wide c1 × Wide c2 × Wide c3 × Wide c4 × Wide c5
InWidth (OfBook (Declared set)) = Wide set
InWidth (OfBook (Removed set)) = Wide set
InWidth (OfBook (ComparisonTable names lengths angles dates)) = Wide names × Wide lengths × Wide angles × Wide dates
InWidth (OfBook OnlyDeclared) = Unit {0}
InWidth (OfBook (DeclaredWide set)) = Long set
InWidth (OfQuery (Item variable attribute)) = Small variable × Small attribute
InWidth (OfQuery (CompareTwo variable attribute operator variable2 attribute2)) =
    Small variable × Small attribute × Small operator × Small variable2 × Small attribute2
InWidth (OfQuery (CompareConstant variable attribute operator cell)) =
    Small variable × Small attribute × Small operator × Wide cell
InWidth (OfQuery End) = Unit {0}

unfoldable pub AllInWidth : List Record → Type 0
AllInWidth [] = Unit {0}
AllInWidth (r ∷ rs) = InWidth r × AllInWidth rs
