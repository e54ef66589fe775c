-- `records::kind_of_book` meets its contract: the number is that of the variant. Assumes nothing.
use mathlib.Core.Path.{refl}
use Rattle.records.specs.Records.{kind_of}
use Rattle.records.proofs.kind_of_book.Goals as goal

pub returns-in-Attribute : goal.returns-in-Attribute
unfolding kind_of
returns-in-Attribute c = rw c.in-Attribute.is refl

pub returns-in-Object : goal.returns-in-Object
unfolding kind_of
returns-in-Object c = rw c.in-Object.is refl

pub returns-in-Dependency : goal.returns-in-Dependency
unfolding kind_of
returns-in-Dependency c = rw c.in-Dependency.is refl

pub returns-in-Row : goal.returns-in-Row
unfolding kind_of
returns-in-Row c = rw c.in-Row.is refl

pub returns-in-Declared : goal.returns-in-Declared
unfolding kind_of
returns-in-Declared c = rw c.in-Declared.is refl

pub returns-in-Removed : goal.returns-in-Removed
unfolding kind_of
returns-in-Removed c = rw c.in-Removed.is refl

pub returns-in-ComparisonTable : goal.returns-in-ComparisonTable
unfolding kind_of
returns-in-ComparisonTable c = rw c.in-ComparisonTable.is refl

pub returns-in-OnlyDeclared : goal.returns-in-OnlyDeclared
unfolding kind_of
returns-in-OnlyDeclared c = rw c.in-OnlyDeclared.is refl

pub returns-in-DeclaredWide : goal.returns-in-DeclaredWide
unfolding kind_of
returns-in-DeclaredWide c = rw c.in-DeclaredWide.is refl
