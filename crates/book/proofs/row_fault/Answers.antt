-- `book::row_fault` meets its contract: each way out is the first check of a row that holds. Assumes nothing.
use borrow.Author.Tests.{le-leb, lt-leb}
use Rattle.sets.specs.Sets.{OBJECTS}
use Rattle.book.specs.Faults.{row_checks}
use Rattle.records.proofs.Checks.{first_yes, first_no, first_none, tested, tested_absent}
use Rattle.book.proofs.row_fault.Goals as goal

pub returns-then-object-ge-OBJECTS : goal.returns-then-object-ge-OBJECTS
unfolding row_checks
returns-then-object-ge-OBJECTS c = first_yes _ (le-leb OBJECTS _ c.if-object-ge-OBJECTS.true)

pub returns-then-not-has : goal.returns-then-not-has
unfolding row_checks
returns-then-not-has c = let below = lt-leb OBJECTS _ c.if-object-ge-OBJECTS.false in
    first_no _ _ below (first_yes _ (tested_absent _ c.has.ensures c.from.ensures
    c.if-not-has.true-raw))

pub wrong_cells-requires : goal.wrong_cells-requires
wrong_cells-requires c = c.requires.six _

pub returns-then-wrong_cells : goal.returns-then-wrong_cells
unfolding row_checks
returns-then-wrong_cells c = let below = lt-leb OBJECTS _ c.if-object-ge-OBJECTS.false in
    let known = tested_absent _ c.has.ensures c.from.ensures c.if-not-has.false-raw in
    first_no _ _ below (first_no _ _ known (first_yes _ (tested c.wrong_cells.ensures c.if-wrong_cells.true)))

pub returns : goal.returns
unfolding row_checks
returns c = let below = lt-leb OBJECTS _ c.if-object-ge-OBJECTS.false in
    let known = tested_absent _ c.has.ensures c.from.ensures c.if-not-has.false-raw in
    let right = tested c.wrong_cells.ensures c.if-wrong_cells.false in
    first_no _ _ below (first_no _ _ known (first_no _ _ right first_none))
