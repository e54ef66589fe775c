-- `book::table_fault` meets its contract: each way out is the first check of kind 13 that holds. Assumes nothing.
use mathlib.Core.Path.{ap, ◌∙◌}
use Rattle.values.specs.Table.{keeps_rules}
use Rattle.records.proofs.Checks.{first_yes, first_no, first_none, tested_not}
use borrow.Author.Tests.{le-leb, lt-leb}
use Rattle.book.specs.Faults.{checks, fault_of}
use Rattle.book.proofs.table_fault.Goals as goal

pub returns-then-s-ge1 : goal.returns-then-s-ge1
unfolding fault_of checks
returns-then-s-ge1 c = first_yes _ (le-leb 1 _ c.if-s-ge1.true)

pub returns-then-not-keeps_rules : goal.returns-then-not-keeps_rules
unfolding fault_of checks
returns-then-not-keeps_rules c = let room = lt-leb 1 _ c.if-s-ge1.false in
    let kept = c.keeps_rules.ensures ∙ ap keeps_rules c.masks_of.ensures in
    first_no _ _ room (first_yes _ (tested_not kept c.if-not-keeps_rules.true-raw))

pub returns : goal.returns
unfolding fault_of checks
returns c = let room = lt-leb 1 _ c.if-s-ge1.false in
    let kept = c.keeps_rules.ensures ∙ ap keeps_rules c.masks_of.ensures in
    first_no _ _ room (first_no _ _ (tested_not kept c.if-not-keeps_rules.false-raw) first_none)
