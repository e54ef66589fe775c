-- `records::is_kind` meets its contract: a kind is a byte that has an owner.
-- Assumes nothing.
use mathlib.Core.Path.{◌≡◌, refl, ap, ◌∙◌}
use mathlib.Core.Bool.{not}
use Prim.Native.Nat.{ℕ}
use lib.Dec.{eqb}
use Rattle.std.specs.Prelude.{Option, None, Some}
use Rattle.std.specs.Option.{is_some}
use Rattle.records.specs.Records.{owner_number, is_kind}
use Rattle.records.specs.declared.Owner.{Owner}
use Rattle.records.specs.declared.Owner.TheVariants.{Book, Query}
use Rattle.records.proofs.is_kind.Goals as goal

some_owner : (o : Option Owner) → is_some o ≡ not (eqb (owner_number o) 0)
some_owner None = refl
some_owner (Some Book) = refl
some_owner (Some Query) = refl

pub returns : goal.returns
unfolding is_kind
returns c = c.is_some.ensures ∙ some_owner c.whose.result ∙ ap (λ (w : ℕ). not (eqb w 0)) c.whose.ensures
