-- `book::attribute_fault` meets its contract: each way out is the first check of kind 1 that holds. Assumes nothing.
use mathlib.Core.List.{[], ◌∷◌}
use lib.Dec.{leb}
use Rattle.sets.specs.Sets.{has, ATTRIBUTES}
use borrow.Author.Tests.{lt-ltb, le-ltb, le-leb, lt-leb}
use Rattle.sets.proofs.Tests.{or_left, or_right, or_no}
use Rattle.book.specs.Faults.{checks, fault_of}
use Rattle.records.proofs.Checks.{first_yes, first_no, first_none, tested_member}
use Rattle.book.proofs.attribute_fault.Goals as goal

pub returns-then-id-ge-ATTRIBUTES : goal.returns-then-id-ge-ATTRIBUTES
unfolding fault_of checks
returns-then-id-ge-ATTRIBUTES c = first_yes _ (or_left _ (le-leb ATTRIBUTES _ c.if-id-ge-ATTRIBUTES.true))

pub returns-then-kind-gt3 : goal.returns-then-kind-gt3
unfolding fault_of checks
returns-then-kind-gt3 c = first_yes ((has _ _, 6) ∷ []) (or_right (leb ATTRIBUTES c.args.id) (lt-ltb 3 c.args.kind c.if-kind-gt3.true))

pub returns-then-has : goal.returns-then-has
unfolding fault_of checks
returns-then-has c = let range = or_no (lt-leb ATTRIBUTES _ c.if-id-ge-ATTRIBUTES.false) (le-ltb 3 _ c.if-kind-gt3.false) in
    first_no _ _ range (first_yes _ (tested_member _ c.has.ensures c.from.ensures
    c.if-has.true))

pub returns : goal.returns
unfolding fault_of checks
returns c = let range = or_no (lt-leb ATTRIBUTES _ c.if-id-ge-ATTRIBUTES.false) (le-ltb 3 _ c.if-kind-gt3.false) in
    let new = tested_member _ c.has.ensures c.from.ensures c.if-has.false in
    first_no _ _ range (first_no _ _ new first_none)
