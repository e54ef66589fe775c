-- `scheme::maximal_objects` meets its contract: each part is the definition's, by its callees (`OfScheme`).
-- Assumes nothing.
use Rattle.scheme.proofs.OfScheme.{counted_list, found_few, rest_of, rest_room, all_of, all_list, both_of_fact}
use Rattle.scheme.proofs.OfScheme.{cyclic_of_fact, returned}
use borrow.Author.Rules.{rules}
use Rattle.scheme.proofs.maximal_objects.Goals as goal

pub without_removed-rest-requires : goal.without_removed-rest-requires
without_removed-rest-requires c = let s = c.before.before.args.s in
    found_few s (counted_list s c.before.computed-found.ensures c.counting.ensures c.first-list.ensures)

pub with_declared-all-requires : goal.with_declared-all-requires
with_declared-all-requires c = let s = c.before.before.before.args.s in
    let found = counted_list s c.before.before.computed-found.ensures c.counting.ensures c.first-list.ensures in
    rest_room s (rest_of s found c.first-removed.ensures c.without_removed-rest.ensures) (search rules) c.first.ensures

pub returns : goal.returns
returns c = let s = c.before.before.before.before.before.args.s in
    let found = counted_list s c.before.before.before.before.computed-found.ensures c.counting.ensures c.first-list.ensures in
    let rest = rest_of s found c.first-removed.ensures c.without_removed-rest.ensures in
    let all = all_of s rest c.first.ensures c.with_declared-all.ensures in
    let listed = all_list s all (search rules) c.first-2.ensures in
    returned s all (both_of_fact s c.both_kinds-both.ensures) (cyclic_of_fact s listed c.some_cyclic-cyclic.ensures)
