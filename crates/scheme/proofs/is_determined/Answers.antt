-- `scheme::is_determined` meets its contract: it is the test of the closure, by its callees; with the same attributes
-- shared as before, the one that failed then.
-- Assumes nothing.
use mathlib.Core.Path.{sym, ap, ◌∙◌}
use Prim.Native.Nat.{ℕ}
use Rattle.sets.specs.Sets.{within}
use Rattle.scheme.specs.Dependencies.{closure}
use Rattle.scheme.specs.OfScheme.{beside}
use Rattle.scheme.proofs.is_determined.Goals as goal

pub returns-then-intersection-shared : goal.returns-then-intersection-shared
returns-then-intersection-shared c = let a = c.args in
    let same = sym c.intersection.ensures ∙ c.if-intersection-shared.true ∙ c.intersection-shared.ensures in
    sym (ap (λ (x : ℕ). within a.s (closure (beside a.dependencies.left.now a.dependencies.right.now) x)) (sym same)
    ∙ rw c.in-Some.is at c.requires)

pub returns : goal.returns
returns c = let a = c.args in
    c.within.ensures
    ∙ ap (within a.s) (c.closure.ensures
    ∙ ap (closure (beside a.dependencies.left.now a.dependencies.right.now)) c.intersection-shared.ensures)
