-- `book::maximal_fault` meets its contract: each way out is the first check of kinds 5 and 6 that holds. Assumes
-- nothing.
use Rattle.records.proofs.Checks.{first_yes, first_no, first_none, tested, tested_not}
use borrow.Author.Tests.{le-leb, lt-leb}
use Rattle.book.specs.Faults.{maximal_checks}
use Rattle.book.proofs.maximal_fault.Goals as goal

pub returns-then-n-ge8 : goal.returns-then-n-ge8
unfolding maximal_checks
returns-then-n-ge8 c = first_yes _ (le-leb 8 _ c.if-n-ge8.true)

pub returns-then-is_empty : goal.returns-then-is_empty
unfolding maximal_checks
returns-then-is_empty c = first_no _ _ (lt-leb 8 _ c.if-n-ge8.false) (first_yes _ (tested c.is_empty.ensures c.if-is_empty.true))

pub returns-then-not-within : goal.returns-then-not-within
unfolding maximal_checks
returns-then-not-within c = let room = lt-leb 8 _ c.if-n-ge8.false in
    let filled = tested c.is_empty.ensures c.if-is_empty.false in
    first_no _ _ room (first_no _ _ filled (first_yes _ (tested_not c.within.ensures c.if-not-within.true-raw)))

pub returns : goal.returns
unfolding maximal_checks
returns c = let room = lt-leb 8 _ c.if-n-ge8.false in
    let filled = tested c.is_empty.ensures c.if-is_empty.false in
    let known = tested_not c.within.ensures c.if-not-within.false-raw in
    first_no _ _ room (first_no _ _ filled (first_no _ _ known first_none))
