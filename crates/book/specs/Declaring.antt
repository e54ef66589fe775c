-- What a record without a fault adds to a scheme: "A record uses only what stands before it."
-- In order: the scheme that nothing was declared in, one part of a scheme changed, what each kind adds.
-- Assumes nothing.
use Rattle.std.specs.Prelude.{true, false, List, ℕ, ◌+◌, set, replicate}
use Rattle.sets.specs.Sets.{insert, ATTRIBUTES, OBJECTS}
use Rattle.values.specs.Table.{built_in}
use Rattle.records.specs.Records.{masks_of}
use Rattle.records.specs.declared.Record.{Record}
use Rattle.records.specs.declared.Record.TheVariants.{OfBook, OfQuery}
use Rattle.records.specs.declared.BookRecord.TheVariants.{Attribute, Object, Dependency, Row, Declared, Removed}
use Rattle.records.specs.declared.BookRecord.TheVariants.{ComparisonTable, OnlyDeclared, DeclaredWide}
use Rattle.scheme.specs.declared.Scheme.{Scheme}
use Rattle.scheme.specs.declared.MaximalRecords.{MaximalRecords}
use Rattle.scheme.specs.declared.TableOfMasks.{TableOfMasks}

-- nothing is declared
abbrev pub nothing_of_maximal : MaximalRecords
nothing_of_maximal = record {
  declared = replicate 8 0;
  declarations = 0;
  removed = replicate 8 0;
  removals = 0;
  only = false;
}

unfoldable pub nothing_declared : Scheme
nothing_declared = record {
  kinds = replicate ATTRIBUTES 0;
  attributes = 0;
  sets = replicate OBJECTS 0;
  objects = 0;
  left = replicate 64 0;
  right = replicate 64 0;
  dependencies = 0;
  maximal = nothing_of_maximal;
  table = record { masks = built_in; given = 0 };
}

-- "attribute, id 0..31", with its value kind
unfoldable pub with_attribute : Scheme → ℕ → ℕ → Scheme
with_attribute s id kind = record {
  kinds = set s.kinds id kind;
  attributes = insert s.attributes id;
  sets = s.sets;
  objects = s.objects;
  left = s.left;
  right = s.right;
  dependencies = s.dependencies;
  maximal = s.maximal;
  table = s.table;
}

-- "object 0..31 and its attributes"
unfoldable pub with_object : Scheme → ℕ → ℕ → Scheme
with_object s number attributes = record {
  kinds = s.kinds;
  attributes = s.attributes;
  sets = set s.sets number attributes;
  objects = insert s.objects number;
  left = s.left;
  right = s.right;
  dependencies = s.dependencies;
  maximal = s.maximal;
  table = s.table;
}

-- "dependency: left determines right", behind those before it
unfoldable pub with_dependency : Scheme → ℕ → ℕ → Scheme
with_dependency s left right = record {
  kinds = s.kinds;
  attributes = s.attributes;
  sets = s.sets;
  objects = s.objects;
  left = set s.left s.dependencies left;
  right = set s.right s.dependencies right;
  dependencies = s.dependencies + 1;
  maximal = s.maximal;
  table = s.table;
}

-- other records of maximal objects, and another comparison table
unfoldable pub with_maximal : Scheme → MaximalRecords → Scheme
with_maximal s maximal = record {
  kinds = s.kinds;
  attributes = s.attributes;
  sets = s.sets;
  objects = s.objects;
  left = s.left;
  right = s.right;
  dependencies = s.dependencies;
  maximal = maximal;
  table = s.table;
}

unfoldable pub with_table : Scheme → TableOfMasks → Scheme
with_table s table = record {
  kinds = s.kinds;
  attributes = s.attributes;
  sets = s.sets;
  objects = s.objects;
  left = s.left;
  right = s.right;
  dependencies = s.dependencies;
  maximal = s.maximal;
  table = table;
}

-- "declared maximal object", behind those before it
unfoldable pub with_declared : MaximalRecords → ℕ → MaximalRecords
with_declared m M = record {
  declared = set m.declared m.declarations M;
  declarations = m.declarations + 1;
  removed = m.removed;
  removals = m.removals;
  only = m.only;
}

-- "computed maximal object to be removed", behind those before it
unfoldable pub with_removed : MaximalRecords → ℕ → MaximalRecords
with_removed m M = record {
  declared = m.declared;
  declarations = m.declarations;
  removed = set m.removed m.removals M;
  removals = m.removals + 1;
  only = m.only;
}

-- "only declared maximal objects count"
unfoldable pub with_only : MaximalRecords → MaximalRecords
with_only m = record {
  declared = m.declared;
  declarations = m.declarations;
  removed = m.removed;
  removals = m.removals;
  only = true;
}

-- "Book kind 13 .. replacing the built-in table for that book"
unfoldable pub with_masks : TableOfMasks → List ℕ → TableOfMasks
with_masks t masks = record { masks = masks; given = t.given + 1 }

-- what a record adds; a row adds nothing to the scheme, and the kinds of a query stand in no book
unfoldable pub declare : Scheme → Record → Scheme
declare s (OfBook (Attribute id kind)) = with_attribute s id kind
declare s (OfBook (Object number attributes)) = with_object s number attributes
declare s (OfBook (Dependency left right)) = with_dependency s left right
declare s (OfBook (Row object c0 c1 c2 c3 c4 c5)) = s
declare s (OfBook (Declared M)) = with_maximal s (with_declared s.maximal M)
declare s (OfBook (Removed M)) = with_maximal s (with_removed s.maximal M)
declare s (OfBook (ComparisonTable names lengths angles dates)) =
    with_table s (with_masks s.table (masks_of names lengths angles dates))
declare s (OfBook OnlyDeclared) = with_maximal s (with_only s.maximal)
declare s (OfBook (DeclaredWide M)) = with_maximal s (with_declared s.maximal M)
declare s (OfQuery r) = s
