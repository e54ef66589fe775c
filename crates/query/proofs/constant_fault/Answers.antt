-- `query::constant_fault` meets its contract: each way out is the first check of kind 9 that holds. Assumes nothing.
use Rattle.query.proofs.Faulting.{constant_over, constant_variable, constant_attribute, constant_operator}
use Rattle.query.proofs.Faulting.{constant_undeclared}
use Rattle.query.proofs.Faulting.{constant_not_allowed, constant_outside, constant_missing, constant_right}
use borrow.Author.Rules.{rules}
use Rattle.query.proofs.constant_fault.Goals as goal

pub returns-then-q-ge16 : goal.returns-then-q-ge16
returns-then-q-ge16 c = search (rules, constant_over)

pub returns-then-variable-gt3 : goal.returns-then-variable-gt3
returns-then-variable-gt3 c = search (rules, constant_variable)

pub returns-then-attribute-ge-ATTRIBUTES : goal.returns-then-attribute-ge-ATTRIBUTES
returns-then-attribute-ge-ATTRIBUTES c = search (rules, constant_attribute)

pub returns-then-operator-gt5 : goal.returns-then-operator-gt5
returns-then-operator-gt5 c = search (rules, constant_operator)

pub returns-then-not-has : goal.returns-then-not-has
returns-then-not-has c = search (rules, constant_undeclared)

pub returns-then-not-allowed : goal.returns-then-not-allowed
returns-then-not-allowed c = search (rules, constant_not_allowed)

pub returns-then-not-in_range : goal.returns-then-not-in_range
returns-then-not-in_range c = search (rules, constant_outside)

pub returns-then-missing : goal.returns-then-missing
returns-then-missing c = search (rules, constant_missing)

pub returns : goal.returns
returns c = search (rules, constant_right)
