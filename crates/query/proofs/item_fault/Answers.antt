-- `query::item_fault` meets its contract: each way out is the first check of kind 7 that holds. Assumes nothing.
use Rattle.query.proofs.Faulting.{item_over, item_variable, item_attribute, item_undeclared, item_right}
use borrow.Author.Rules.{rules}
use Rattle.query.proofs.item_fault.Goals as goal

pub returns-then-q-ge8 : goal.returns-then-q-ge8
returns-then-q-ge8 c = search (rules, item_over)

pub returns-then-variable-gt3 : goal.returns-then-variable-gt3
returns-then-variable-gt3 c = search (rules, item_variable)

pub returns-then-attribute-ge-ATTRIBUTES : goal.returns-then-attribute-ge-ATTRIBUTES
returns-then-attribute-ge-ATTRIBUTES c = search (rules, item_attribute)

pub returns-then-not-has : goal.returns-then-not-has
returns-then-not-has c = search (rules, item_undeclared)

pub returns : goal.returns
returns c = search (rules, item_right)
