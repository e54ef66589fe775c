-- `book::declare_record` meets its contract: a record without a fault has a place for what it adds. Assumes nothing.
use Rattle.book.proofs.Declaring.{same_fault, attribute_accepted, object_accepted, dependency_accepted}
use Rattle.book.proofs.Declaring.{declared_accepted, removed_accepted, table_accepted, with_variant}
use Rattle.book.proofs.Declaring.{declared_wide_accepted, declared_by, removed_by}
use mathlib.Core.Path.{refl, ap, ◌∙◌}
use Rattle.book.specs.Declaring.{declare}
use Rattle.book.proofs.declare_record.Goals as goal

pub with_attribute-requires : goal.with_attribute-requires
with_attribute-requires c = (attribute_accepted _ _ _ (same_fault _ c.in-Attribute.is c.requires)).below

pub with_object-requires : goal.with_object-requires
with_object-requires c = (object_accepted _ _ _ (same_fault _ c.in-Object.is c.requires)).below

pub with_dependency-requires : goal.with_dependency-requires
with_dependency-requires c = (dependency_accepted _ _ _ (same_fault _ c.in-Dependency.is c.requires)).room

pub with_declared-requires : goal.with_declared-requires
with_declared-requires c = (declared_accepted _ _ (same_fault _ c.in-Declared.is c.requires)).room

pub with_removed-requires : goal.with_removed-requires
with_removed-requires c = (removed_accepted _ _ (same_fault _ c.in-Removed.is c.requires)).room

pub with_table-requires : goal.with_table-requires
with_table-requires c = (table_accepted _ _ _ _ _ (same_fault _ c.in-ComparisonTable.is c.requires)).room

pub with_declared-requires-in-DeclaredWide : goal.with_declared-requires-in-DeclaredWide
with_declared-requires-in-DeclaredWide c = (declared_wide_accepted _ _ (same_fault _ c.in-DeclaredWide.is c.requires)).room

pub returns-in-Attribute : goal.returns-in-Attribute
unfolding declare
returns-in-Attribute c = with_variant _ c.with_attribute.ensures c.in-Attribute.is

pub returns-in-Object : goal.returns-in-Object
unfolding declare
returns-in-Object c = with_variant _ c.with_object.ensures c.in-Object.is

pub returns-in-Dependency : goal.returns-in-Dependency
unfolding declare
returns-in-Dependency c = with_variant _ c.with_dependency.ensures c.in-Dependency.is

pub returns-in-Row : goal.returns-in-Row
unfolding declare
returns-in-Row c = with_variant _ refl c.in-Row.is

pub returns-in-Declared : goal.returns-in-Declared
unfolding declare
returns-in-Declared c = with_variant _ (c.with_declared.ensures ∙ ap (declared_by _) c.from.ensures)
    c.in-Declared.is

pub returns-in-Removed : goal.returns-in-Removed
unfolding declare
returns-in-Removed c = with_variant _ (c.with_removed.ensures ∙ ap (removed_by _) c.from-in-Removed.ensures)
    c.in-Removed.is

pub returns-in-ComparisonTable : goal.returns-in-ComparisonTable
unfolding declare
returns-in-ComparisonTable c = with_variant _ c.with_table.ensures c.in-ComparisonTable.is

pub returns-in-OnlyDeclared : goal.returns-in-OnlyDeclared
unfolding declare
returns-in-OnlyDeclared c = with_variant _ c.with_only.ensures c.in-OnlyDeclared.is

pub returns-in-DeclaredWide : goal.returns-in-DeclaredWide
unfolding declare
returns-in-DeclaredWide c = with_variant _ c.with_declared-in-DeclaredWide.ensures c.in-DeclaredWide.is
