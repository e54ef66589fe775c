-- `query::with_query_record` meets its contract: a record without a fault has a place for what it adds.
-- Assumes nothing.
use Rattle.query.proofs.Asking.{item_room, item_named, two_fits, constant_fits, with_item_record, with_variant}
use mathlib.Core.Path.{ap, sym}
use Rattle.records.specs.declared.QueryRecord.{QueryRecord}
use Rattle.records.specs.declared.Record.TheVariants.{OfQuery}
use Rattle.query.specs.Asking.{with_record}
use borrow.Author.Rules.{rules}
use Rattle.query.proofs.with_query_record.Goals as goal

pub with_item-requires : goal.with_item-requires
with_item-requires c = item_room _ _ c.requires _ _ c.in-Item.is

pub with_name-requires : goal.with_name-requires
with_name-requires c = item_named _ _ c.requires _ _ c.in-Item.is

pub with_two-requires : goal.with_two-requires
with_two-requires c = two_fits _ _ c.requires _ _ _ _ _ c.in-CompareTwo.is

pub with_constant-requires : goal.with_constant-requires
with_constant-requires c = constant_fits _ _ c.requires _ _ _ _ c.in-CompareConstant.is

pub returns-in-Item : goal.returns-in-Item
returns-in-Item c = search (rules, with_item_record)

pub returns-in-CompareTwo : goal.returns-in-CompareTwo
returns-in-CompareTwo c = search (rules, with_variant)

pub returns-in-CompareConstant : goal.returns-in-CompareConstant
returns-in-CompareConstant c = search (rules, with_variant)

pub returns-in-End : goal.returns-in-End
unfolding with_record
returns-in-End c = ap (λ (r : QueryRecord). with_record c.args.q (OfQuery r)) (sym c.in-End.is)
