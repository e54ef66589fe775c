-- `scheme::computed_sets` meets its contract: it is the definition, by its callees. The grown sets are
-- read back out of their array. Assumes nothing.
use mathlib.Core.Path.{◌∙◌}
use Rattle.scheme.specs.OfScheme.{beside}
use Rattle.scheme.proofs.OfScheme.{grown_list, grown_fits, computed_by}
use Rattle.scheme.proofs.computed_sets.Goals as goal

pub maximal_sets-requires : goal.maximal_sets-requires
maximal_sets-requires c = grown_fits (beside c.before.args.dependencies.left.now c.before.args.dependencies.right.now) c.before.args.objects.sets.now c.before.args.objects.declared (grown_list (beside c.before.args.dependencies.left.now c.before.args.dependencies.right.now) c.before.args.objects.sets.now c.before.args.objects.declared c.grown_sets-all.ensures c.first.ensures)

pub returns : goal.returns
returns c = c.maximal_sets.ensures ∙ computed_by (beside c.before.args.dependencies.left.now c.before.args.dependencies.right.now) c.before.args.objects.sets.now c.before.args.objects.declared (grown_list (beside c.before.args.dependencies.left.now c.before.args.dependencies.right.now) c.before.args.objects.sets.now c.before.args.objects.declared c.grown_sets-all.ensures c.first.ensures)
