-- `query::query_fault` meets its contract: in each arm the record is of that kind. Assumes nothing.
use Rattle.query.proofs.Faulting.{end_right}
use Rattle.query.proofs.Asking.{of_variant}
use borrow.Author.Rules.{rules}
use Rattle.query.proofs.query_fault.Goals as goal

pub returns-in-Item : goal.returns-in-Item
returns-in-Item c = search (rules, of_variant)

pub returns-in-CompareTwo : goal.returns-in-CompareTwo
returns-in-CompareTwo c = search (rules, of_variant)

pub returns-in-CompareConstant : goal.returns-in-CompareConstant
returns-in-CompareConstant c = search (rules, of_variant)

pub returns-in-End : goal.returns-in-End
returns-in-End c = of_variant _ _ (end_right _ _) c.in-End.is
