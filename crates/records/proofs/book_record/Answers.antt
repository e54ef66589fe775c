-- `records::book_record` meets its contract: in each arm the kind says how long the body is and which fields it has.
-- Assumes nothing.
use Rattle.records.proofs.Records.{attribute_at, object_at, dependency_at, declared_at, removed_at}
use Rattle.records.proofs.Records.{only_declared_at, declared_wide_at, last_of_book}
use Rattle.records.specs.Records.{body_length, kinds}
use mathlib.Core.Path.{ap}
use native.Mathlib.Omega.{arith}
use borrow.Author.Rules.{rules}
use Rattle.records.proofs.book_record.Goals as goal

pub byte_at-requires : goal.byte_at-requires
unfolding body_length kinds
byte_at-requires c = omega (arith, ap body_length c.in-1.is)

pub byte_at-requires-in-1 : goal.byte_at-requires-in-1
unfolding body_length kinds
byte_at-requires-in-1 c = omega (arith, ap body_length c.in-1.is)

pub byte_at-requires-in-2 : goal.byte_at-requires-in-2
unfolding body_length kinds
byte_at-requires-in-2 c = omega (arith, ap body_length c.in-2.is)

pub word_at-requires : goal.word_at-requires
unfolding body_length kinds
word_at-requires c = omega (arith, ap body_length c.in-2.is)

pub word_at-requires-in-3 : goal.word_at-requires-in-3
unfolding body_length kinds
word_at-requires-in-3 c = omega (arith, ap body_length c.in-3.is)

pub word_at-requires-in-3-2 : goal.word_at-requires-in-3-2
unfolding body_length kinds
word_at-requires-in-3-2 c = omega (arith, ap body_length c.in-3.is)

pub row-requires : goal.row-requires
unfolding body_length kinds
row-requires c = omega (arith, ap body_length c.in-4.is)

pub word_at-requires-in-5 : goal.word_at-requires-in-5
unfolding body_length kinds
word_at-requires-in-5 c = omega (arith, ap body_length c.in-5.is)

pub word_at-requires-in-6 : goal.word_at-requires-in-6
unfolding body_length kinds
word_at-requires-in-6 c = omega (arith, ap body_length c.in-6.is)

pub comparison_table-requires : goal.comparison_table-requires
unfolding body_length kinds
comparison_table-requires c = omega (arith, ap body_length c.in-13.is)

pub long_at-requires : goal.long_at-requires
unfolding body_length kinds
long_at-requires c = let a = c.args in
    omega (
      arith,
      ap body_length
          (last_of_book a.kind c.requires.0 (omega arith) (omega arith) (omega arith) (omega arith) (omega arith) (omega arith) (omega arith) (omega arith)),
    )

pub returns-in-1 : goal.returns-in-1
returns-in-1 c = search (rules, attribute_at)

pub returns-in-2 : goal.returns-in-2
returns-in-2 c = search (rules, object_at)

pub returns-in-3 : goal.returns-in-3
returns-in-3 c = search (rules, dependency_at)

pub returns-in-4 : goal.returns-in-4
returns-in-4 c = rw c.in-4.is c.row.ensures

pub returns-in-5 : goal.returns-in-5
returns-in-5 c = search (rules, declared_at)

pub returns-in-6 : goal.returns-in-6
returns-in-6 c = search (rules, removed_at)

pub returns-in-13 : goal.returns-in-13
returns-in-13 c = rw c.in-13.is c.comparison_table.ensures

pub returns-in-14 : goal.returns-in-14
returns-in-14 c = search (rules, only_declared_at)

pub returns-in_default : goal.returns-in_default
returns-in_default c = let a = c.args in
    declared_wide_at a.s.now a.kind a.body _
    (last_of_book a.kind c.requires.0 (omega arith) (omega arith) (omega arith) (omega arith) (omega arith) (omega arith) (omega arith) (omega arith)) c.long_at.ensures
