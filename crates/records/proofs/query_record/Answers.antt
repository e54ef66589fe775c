-- `records::query_record` meets its contract: in each arm the kind says how long the body is and which fields it has.
-- Assumes nothing.
use Rattle.records.proofs.Records.{item_at, compare_two_at, compare_constant_at, end_at}
use Rattle.records.proofs.Records.{last_of_query}
use Rattle.records.specs.Records.{body_length, kinds}
use mathlib.Core.Path.{ap}
use native.Mathlib.Omega.{arith}
use borrow.Author.Rules.{rules}
use Rattle.records.proofs.query_record.Goals as goal

pub byte_at-requires : goal.byte_at-requires
unfolding body_length kinds
byte_at-requires c = omega (arith, ap body_length c.in-7.is)

pub byte_at-requires-in-7 : goal.byte_at-requires-in-7
unfolding body_length kinds
byte_at-requires-in-7 c = omega (arith, ap body_length c.in-7.is)

pub byte_at-requires-in-8 : goal.byte_at-requires-in-8
unfolding body_length kinds
byte_at-requires-in-8 c = omega (arith, ap body_length c.in-8.is)

pub byte_at-requires-in-8-2 : goal.byte_at-requires-in-8-2
unfolding body_length kinds
byte_at-requires-in-8-2 c = omega (arith, ap body_length c.in-8.is)

pub byte_at-requires-in-8-3 : goal.byte_at-requires-in-8-3
unfolding body_length kinds
byte_at-requires-in-8-3 c = omega (arith, ap body_length c.in-8.is)

pub byte_at-requires-in-8-4 : goal.byte_at-requires-in-8-4
unfolding body_length kinds
byte_at-requires-in-8-4 c = omega (arith, ap body_length c.in-8.is)

pub byte_at-requires-in-8-5 : goal.byte_at-requires-in-8-5
unfolding body_length kinds
byte_at-requires-in-8-5 c = omega (arith, ap body_length c.in-8.is)

pub byte_at-requires-in-9 : goal.byte_at-requires-in-9
unfolding body_length kinds
byte_at-requires-in-9 c = omega (arith, ap body_length c.in-9.is)

pub byte_at-requires-in-9-2 : goal.byte_at-requires-in-9-2
unfolding body_length kinds
byte_at-requires-in-9-2 c = omega (arith, ap body_length c.in-9.is)

pub byte_at-requires-in-9-3 : goal.byte_at-requires-in-9-3
unfolding body_length kinds
byte_at-requires-in-9-3 c = omega (arith, ap body_length c.in-9.is)

pub word_at-requires : goal.word_at-requires
unfolding body_length kinds
word_at-requires c = omega (arith, ap body_length c.in-9.is)

pub returns-in-7 : goal.returns-in-7
returns-in-7 c = search (rules, item_at)

pub returns-in-8 : goal.returns-in-8
returns-in-8 c = search (rules, compare_two_at)

pub returns-in-9 : goal.returns-in-9
returns-in-9 c = search (rules, compare_constant_at)

pub returns-in_default : goal.returns-in_default
returns-in_default c = let a = c.args in
    end_at a.s.now a.kind a.body
    (last_of_query a.kind c.requires.0 (omega arith) (omega arith) (omega arith))
