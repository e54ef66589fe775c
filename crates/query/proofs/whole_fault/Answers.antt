-- `query::whole_fault` meets its contract: each way out is a case of the definition. Assumes nothing.
use Rattle.query.proofs.Loops.{whole_no_item, whole_unconnected, whole_good}
use borrow.Author.Rules.{rules}
use Rattle.query.proofs.whole_fault.Goals as goal

pub returns-then-q-eq0 : goal.returns-then-q-eq0
returns-then-q-eq0 c = search (rules, whole_no_item)

pub returns-then-some_unconnected : goal.returns-then-some_unconnected
returns-then-some_unconnected c = search (rules, whole_unconnected)

pub returns : goal.returns
returns c = search (rules, whole_good)
