-- `records::read` meets its contract: at each `return` the tests that led there are what the answer means (`Means`).
-- Assumes nothing.
use Rattle.records.proofs.Records.{other_kind}
use Rattle.records.proofs.Reader.{finds_nothing, finds_unknown, finds_kind, finds_short, finds_record}
use mathlib.Core.Path.{ap, sym, ◌∙◌}
use mathlib.Core.Bool.{not}
use Prim.Native.Nat.{◌+◌, ◌-◌, ◌<◌}
use native.Mathlib.Omega.{arith}
use lib.ListN.{length}
use borrow.Author.Rules.{rules}
use Rattle.records.proofs.read.Goals as goal

pub returns-then-at-s : goal.returns-then-at-s
returns-then-at-s c = finds_nothing _ _ (omega arith)

pub returns-then-not-is_kind : goal.returns-then-not-is_kind
returns-then-not-is_kind c = search (rules, finds_unknown)

pub returns-then-s-body : goal.returns-then-s-body
returns-then-s-body c = let a = c.args in
    let cut : length a.s.now - (a.at + 1) < c.body_length-len.result = omega arith in
    search (rules, finds_short)

pub book_record-requires : goal.book_record-requires
book_record-requires c = (sym c.is_of.ensures ∙ c.if-is_of.true, omega arith)

pub query_record-requires : goal.query_record-requires
query_record-requires c = let kind = finds_kind _ _ c.is_kind.ensures (ap not c.if-not-is_kind.false) in
    (other_kind _ kind (sym c.is_of.ensures ∙ c.if-is_of.false), omega arith)

pub returns-then-is_of : goal.returns-then-is_of
returns-then-is_of c = search (rules, finds_record)

pub returns-else-is_of : goal.returns-else-is_of
returns-else-is_of c = search (rules, finds_record)
