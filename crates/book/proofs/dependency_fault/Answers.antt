-- `book::dependency_fault` meets its contract: each way out is the first check of kind 3 that holds. Assumes nothing.
use mathlib.Core.Bool.{not}
use Rattle.sets.specs.Sets.{is_empty, within}
use Rattle.records.proofs.Checks.{first_yes, first_no, first_none, tested, tested_not}
use borrow.Author.Tests.{le-leb, lt-leb}
use Rattle.sets.proofs.Tests.{or_left, or_right, or_no}
use Rattle.book.specs.Faults.{checks, fault_of}
use Rattle.book.proofs.dependency_fault.Goals as goal

pub returns-then-s-ge64 : goal.returns-then-s-ge64
unfolding fault_of checks
returns-then-s-ge64 c = first_yes _ (le-leb 64 _ c.if-s-ge64.true)

pub returns-then-is_empty : goal.returns-then-is_empty
unfolding fault_of checks
returns-then-is_empty c = first_no _ _ (lt-leb 64 _ c.if-s-ge64.false) (first_yes _ (or_left _ (tested c.is_empty.ensures c.if-is_empty.true)))

pub returns-then-is_empty-2 : goal.returns-then-is_empty-2
unfolding fault_of checks
returns-then-is_empty-2 c = first_no _ _ (lt-leb 64 _ c.if-s-ge64.false) (first_yes _ (or_right (is_empty c.args.left) (tested c.is_empty-2.ensures c.if-is_empty-2.true)))

pub returns-then-not-within : goal.returns-then-not-within
unfolding fault_of checks
returns-then-not-within c = let room = lt-leb 64 _ c.if-s-ge64.false in
    let filled = or_no (tested c.is_empty.ensures c.if-is_empty.false) (tested c.is_empty-2.ensures c.if-is_empty-2.false) in
    first_no _ _ room (first_no _ _ filled (first_yes _ (or_left _ (tested_not c.within.ensures c.if-not-within.true-raw))))

pub returns-then-not-within-2 : goal.returns-then-not-within-2
unfolding fault_of checks
returns-then-not-within-2 c = let room = lt-leb 64 _ c.if-s-ge64.false in
    let filled = or_no (tested c.is_empty.ensures c.if-is_empty.false) (tested c.is_empty-2.ensures c.if-is_empty-2.false) in
    let right = tested_not c.within-2.ensures c.if-not-within-2.true-raw in
    let known = or_right (not (within c.args.left c.args.s.attributes)) right in
    first_no _ _ room (first_no _ _ filled (first_yes _ known))

pub returns : goal.returns
unfolding fault_of checks
returns c = let room = lt-leb 64 _ c.if-s-ge64.false in
    let filled = or_no (tested c.is_empty.ensures c.if-is_empty.false) (tested c.is_empty-2.ensures c.if-is_empty-2.false) in
    let known = or_no (tested_not c.within.ensures c.if-not-within.false-raw)
    (tested_not c.within-2.ensures c.if-not-within-2.false-raw) in
    first_no _ _ room (first_no _ _ filled (first_no _ _ known first_none))
