-- `book::book_fault` meets its contract: in each arm the record is of that kind. Assumes nothing.
use mathlib.Core.Path.{refl}
use Rattle.records.specs.Checks.{first_of}
use Rattle.book.specs.Faults.{checks, fault_of}
use Rattle.book.proofs.Declaring.{of_variant, declared_fault, removed_fault}
use Rattle.book.proofs.book_fault.Goals as goal

pub returns-in-Attribute : goal.returns-in-Attribute
returns-in-Attribute c = of_variant _ c.attribute_fault.ensures c.in-Attribute.is

pub returns-in-Object : goal.returns-in-Object
returns-in-Object c = of_variant _ c.object_fault.ensures c.in-Object.is

pub returns-in-Dependency : goal.returns-in-Dependency
returns-in-Dependency c = of_variant _ c.dependency_fault.ensures c.in-Dependency.is

pub returns-in-Row : goal.returns-in-Row
unfolding fault_of checks
returns-in-Row c = of_variant _ c.row_fault.ensures c.in-Row.is

pub returns-in-Declared : goal.returns-in-Declared
returns-in-Declared c = of_variant _ (declared_fault _ c.maximal_fault.ensures c.from.ensures)
    c.in-Declared.is

pub returns-in-Removed : goal.returns-in-Removed
returns-in-Removed c = of_variant _ (removed_fault _ c.maximal_fault-in-Removed.ensures c.from-in-Removed.ensures)
    c.in-Removed.is

pub returns-in-ComparisonTable : goal.returns-in-ComparisonTable
returns-in-ComparisonTable c = of_variant _ c.table_fault.ensures c.in-ComparisonTable.is

pub returns-in-OnlyDeclared : goal.returns-in-OnlyDeclared
unfolding fault_of checks first_of
returns-in-OnlyDeclared c = of_variant _ refl c.in-OnlyDeclared.is

pub returns-in-DeclaredWide : goal.returns-in-DeclaredWide
unfolding fault_of checks
returns-in-DeclaredWide c = of_variant _ c.maximal_fault-in-DeclaredWide.ensures c.in-DeclaredWide.is
