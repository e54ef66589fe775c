-- Worked examples: one record of each kind beside its bytes, row for row of the paper's table.
-- In order: the records with their bytes; written, each is those bytes; read, those bytes are the record.
-- Assumes nothing.
use mathlib.Core.Path.{◌≡◌, refl}
use mathlib.Core.List.{List, [], ◌∷◌, map}
use Prim.Native.Nat.{ℕ}
use lib.ListN.{length}
use Rattle.records.specs.Fields.{bytes, value, field}
use Rattle.records.specs.Records.{kinds, whose, is_kind, body_length, bytes_of}
use Rattle.records.specs.Reader.{bodies, record_of, read_front, read_at}
use Rattle.records.specs.declared.Record.{Record}
use Rattle.records.specs.declared.Record.TheVariants.{OfBook, OfQuery}
use Rattle.records.specs.declared.BookRecord.TheVariants.{Attribute, Object, Dependency, Row, Declared}
use Rattle.records.specs.declared.BookRecord.TheVariants.{Removed, ComparisonTable, OnlyDeclared}
use Rattle.records.specs.declared.BookRecord.TheVariants.{DeclaredWide}
use Rattle.records.specs.declared.QueryRecord.TheVariants.{Item, CompareTwo, CompareConstant, End}
use Rattle.records.specs.declared.Reading.TheVariants.{Found}

-- A record, and the bytes that the paper's table says it is.
pub record Example : Type 0 where
  pub content : Record
  pub says : List ℕ

-- "Multi-byte fields are little-endian", "Single fields are one byte". The fields of a record differ, and so do the
-- bytes of its sets and cells: 67305985 has the bytes 1 to 4, 134678021 has 5 to 8, and so on to 404166165, which has
-- 21 to 24.
unfoldable pub examples : List Example
examples =
    -- "id, value kind"
    record { content = OfBook (Attribute 5 2); says = 1 ∷ 5 ∷ 2 ∷ [] }
    -- "number, set"
    ∷ record { content = OfBook (Object 9 67305985); says = 2 ∷ 9 ∷ 1 ∷ 2 ∷ 3 ∷ 4 ∷ [] }
    -- "dependency: left determines right"
    ∷ record { content = OfBook (Dependency 67305985 134678021); says = 3 ∷ 1 ∷ 2 ∷ 3 ∷ 4 ∷ 5 ∷ 6 ∷ 7 ∷ 8 ∷ [] }
    -- "object, six cells"
    ∷ record {
      content = OfBook (Row 31 67305985 134678021 202050057 269422093 336794129 404166165);
      says =
          4 ∷ 31 ∷ 1 ∷ 2 ∷ 3 ∷ 4 ∷ 5 ∷ 6 ∷ 7 ∷ 8 ∷ 9 ∷ 10 ∷ 11 ∷ 12
          ∷ 13 ∷ 14 ∷ 15 ∷ 16 ∷ 17 ∷ 18 ∷ 19 ∷ 20 ∷ 21 ∷ 22 ∷ 23 ∷ 24 ∷ [];
    }
    -- "declared maximal object"
    ∷ record { content = OfBook (Declared 67305985); says = 5 ∷ 1 ∷ 2 ∷ 3 ∷ 4 ∷ [] }
    -- "computed maximal object to be removed"
    ∷ record { content = OfBook (Removed 134678021); says = 6 ∷ 5 ∷ 6 ∷ 7 ∷ 8 ∷ [] }
    -- request 7: "16 bytes, byte 4 times left kind plus right kind"
    ∷ record {
      content = OfBook (ComparisonTable 67305985 134678021 202050057 269422093);
      says = 13 ∷ 1 ∷ 2 ∷ 3 ∷ 4 ∷ 5 ∷ 6 ∷ 7 ∷ 8 ∷ 9 ∷ 10 ∷ 11 ∷ 12 ∷ 13 ∷ 14 ∷ 15 ∷ 16 ∷ [];
    }
    -- request 8: "only declared maximal objects count"
    ∷ record { content = OfBook OnlyDeclared; says = 14 ∷ [] }
    -- request 9: "kind 5 with an 8-byte set"
    ∷ record {
      content = OfBook (DeclaredWide 578437695752307201);
      says = 15 ∷ 1 ∷ 2 ∷ 3 ∷ 4 ∷ 5 ∷ 6 ∷ 7 ∷ 8 ∷ [];
    }
    -- "variable, attribute"
    ∷ record { content = OfQuery (Item 2 12); says = 7 ∷ 2 ∷ 12 ∷ [] }
    -- "variable, attribute, operator, variable, attribute"
    ∷ record { content = OfQuery (CompareTwo 1 12 5 3 14); says = 8 ∷ 1 ∷ 12 ∷ 5 ∷ 3 ∷ 14 ∷ [] }
    -- "variable, attribute, operator, cell"
    ∷ record { content = OfQuery (CompareConstant 2 13 4 404166165); says = 9 ∷ 2 ∷ 13 ∷ 4 ∷ 21 ∷ 22 ∷ 23 ∷ 24 ∷ [] }
    -- "end of query"
    ∷ record { content = OfQuery End; says = 10 ∷ [] }
    ∷ []

pub examples_written : map (λ e. bytes_of e.content) examples ≡ map (λ e. e.says) examples
unfolding examples bytes_of bytes
examples_written = refl

-- Each is found, with the position after its last byte.
pub examples_read : map (λ e. read_at e.says 0) examples ≡ map (λ e. Found e.content (length e.says)) examples
unfolding examples read_at read_front record_of bodies is_kind body_length whose kinds field value
examples_read = refl
