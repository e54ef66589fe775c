-- `scheme::some_cyclic` meets its contract: `any` asks of each set what the definition asks (`or_is`). Assumes nothing.
use Rattle.std.proofs.Common.{ℕ, refl, rules}
use Rattle.std.proofs.lemmas.List.Recursion.{or_is}
use mathlib.Core.Bool.{not}
use Rattle.reduction.specs.Kept.{acyclic}
use Rattle.scheme.specs.Growing.{family_of}
use Rattle.scheme.specs.MaximalObjects.{some_cyclic}
use Rattle.scheme.proofs.some_cyclic.Goals as goal

pub returns : goal.returns
unfolding some_cyclic
returns c = or_is (some_cyclic c.args.sets.now) (λ (m : ℕ). not (acyclic (family_of c.args.sets.now m))) refl (λ _ _. refl) c.args.list.now 0 _ (search rules) (search rules)
