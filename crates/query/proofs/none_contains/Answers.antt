-- `query::none_contains` meets its contract. The invariant: no maximal object before the place contains x (`NoneSoFar`).
-- Assumes nothing.
use Rattle.scheme.proofs.Lists.{none_start}
use Rattle.query.proofs.Loops.{contains_found, contains_next, contains_none}
use borrow.Author.Rules.{rules}
use Rattle.query.proofs.none_contains.Goals as goal

pub loop-objects-init : goal.loop-objects-init
loop-objects-init c = none_start _ _

pub returns-then-within : goal.returns-then-within
returns-then-within c = search (rules, contains_found)

pub loop-objects-preserved : goal.loop-objects-preserved
loop-objects-preserved c = search (rules, contains_next)

pub returns : goal.returns
returns c = search (rules, contains_none)
