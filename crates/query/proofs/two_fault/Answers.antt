-- `query::two_fault` meets its contract: each way out is the first check of kind 8 that holds. Assumes nothing.
use Rattle.query.proofs.Faulting.{two_over, two_variable, two_attribute, two_operator, two_variable2}
use Rattle.query.proofs.Faulting.{two_attribute2, two_undeclared}
use Rattle.query.proofs.Faulting.{two_undeclared2, two_not_allowed, two_right}
use borrow.Author.Rules.{rules}
use Rattle.query.proofs.two_fault.Goals as goal

pub returns-then-q-ge16 : goal.returns-then-q-ge16
returns-then-q-ge16 c = search (rules, two_over)

pub returns-then-variable-gt3 : goal.returns-then-variable-gt3
returns-then-variable-gt3 c = search (rules, two_variable)

pub returns-then-attribute-ge-ATTRIBUTES : goal.returns-then-attribute-ge-ATTRIBUTES
returns-then-attribute-ge-ATTRIBUTES c = search (rules, two_attribute)

pub returns-then-operator-gt5 : goal.returns-then-operator-gt5
returns-then-operator-gt5 c = search (rules, two_operator)

pub returns-then-variable2-gt3 : goal.returns-then-variable2-gt3
returns-then-variable2-gt3 c = search (rules, two_variable2)

pub returns-then-attribute2-ge-ATTRIBUTES : goal.returns-then-attribute2-ge-ATTRIBUTES
returns-then-attribute2-ge-ATTRIBUTES c = search (rules, two_attribute2)

pub returns-then-not-has : goal.returns-then-not-has
returns-then-not-has c = search (rules, two_undeclared)

pub returns-then-not-has-2 : goal.returns-then-not-has-2
returns-then-not-has-2 c = search (rules, two_undeclared2)

pub returns-then-not-allowed : goal.returns-then-not-allowed
returns-then-not-allowed c = search (rules, two_not_allowed)

pub returns : goal.returns
returns c = search (rules, two_right)
