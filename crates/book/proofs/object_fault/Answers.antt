-- `book::object_fault` meets its contract: each way out is the first check of kind 2 that holds. Assumes nothing.
use lib.Dec.{ltb, leb}
use mathlib.Core.Bool.{◌||◌}
use Rattle.sets.specs.Sets.{is_empty, count, ATTRIBUTES, OBJECTS}
use Rattle.records.proofs.Checks.{first_yes, first_no, first_none, tested, tested_member, tested_not}
use Rattle.book.proofs.Faults.{over_counted, under_counted}
use borrow.Author.Tests.{le-leb, lt-leb}
use Rattle.sets.proofs.Tests.{or_left, or_right, or_no}
use Rattle.book.specs.Faults.{checks, fault_of}
use Rattle.book.proofs.object_fault.Goals as goal

pub returns-then-number-ge-OBJECTS : goal.returns-then-number-ge-OBJECTS
unfolding fault_of checks
returns-then-number-ge-OBJECTS c = first_yes _ (or_left _ (or_left _ (le-leb OBJECTS _ c.if-number-ge-OBJECTS.true)))

pub returns-then-is_empty : goal.returns-then-is_empty
unfolding fault_of checks
returns-then-is_empty c = first_yes _ (or_left (ltb 6 (count ATTRIBUTES c.args.set)) (or_right (leb OBJECTS c.args.number) (tested c.is_empty.ensures c.if-is_empty.true)))

pub returns-then-count-gt6 : goal.returns-then-count-gt6
unfolding fault_of checks
returns-then-count-gt6 c = first_yes _ (or_right (leb OBJECTS c.args.number || is_empty c.args.set) (over_counted c.count.ensures c.if-count-gt6.true))

pub returns-then-has : goal.returns-then-has
unfolding fault_of checks
returns-then-has c = let filled = or_no (lt-leb OBJECTS _ c.if-number-ge-OBJECTS.false) (tested c.is_empty.ensures c.if-is_empty.false) in
    let range = or_no filled (under_counted c.count.ensures c.if-count-gt6.false) in
    first_no _ _ range (first_yes _ (tested_member _ c.has.ensures c.from.ensures
    c.if-has.true))

pub returns-then-not-within : goal.returns-then-not-within
unfolding fault_of checks
returns-then-not-within c = let filled = or_no (lt-leb OBJECTS _ c.if-number-ge-OBJECTS.false) (tested c.is_empty.ensures c.if-is_empty.false) in
    let range = or_no filled (under_counted c.count.ensures c.if-count-gt6.false) in
    let new = tested_member _ c.has.ensures c.from.ensures c.if-has.false in
    first_no _ _ range (first_no _ _ new (first_yes _ (tested_not c.within.ensures c.if-not-within.true-raw)))

pub returns : goal.returns
unfolding fault_of checks
returns c = let filled = or_no (lt-leb OBJECTS _ c.if-number-ge-OBJECTS.false) (tested c.is_empty.ensures c.if-is_empty.false) in
    let range = or_no filled (under_counted c.count.ensures c.if-count-gt6.false) in
    let new = tested_member _ c.has.ensures c.from.ensures c.if-has.false in
    let known = tested_not c.within.ensures c.if-not-within.false-raw in
    first_no _ _ range (first_no _ _ new (first_no _ _ known first_none))
