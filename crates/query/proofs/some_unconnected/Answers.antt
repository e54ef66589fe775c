-- `query::some_unconnected` meets its contract. The invariant: no variable before the place is unconnected (`NoneUnconnected`).
-- Assumes nothing.
use borrow.Author.Rules.{rules}
use Rattle.query.proofs.Loops.{variables_start, variable_not_named, variable_found}
use Rattle.query.proofs.Loops.{variable_connected, variables_end}
use Rattle.query.proofs.some_unconnected.Goals as goal
use Rattle.query.proofs.some_unconnected.Goals.{then-not-is_empty+else-none_contains, else-not-is_empty}

pub loop-x-init : goal.loop-x-init
loop-x-init c = variables_start _ _ _ (search rules)

pub returns-then-none_contains : goal.returns-then-none_contains
returns-then-none_contains c = search (rules, variable_found)

pub loop-x-preserved : goal.loop-x-preserved
loop-x-preserved c = elim c.if-not-is_empty.branch [
  | then-not-is_empty+else-none_contains w ↦ search (rules, variable_connected)
  | else-not-is_empty w ↦ search (rules, variable_not_named)
]

pub returns : goal.returns
returns c = search (rules, variables_end)
