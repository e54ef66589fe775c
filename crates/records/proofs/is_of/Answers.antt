-- `records::is_of` meets its contract: the owner is that of the definition.
-- Assumes nothing.
use mathlib.Core.Path.{◌≡◌, refl, ap, ◌∙◌}
use Prim.Native.Nat.{ℕ}
use lib.Dec.{eqb}
use Rattle.std.specs.Prelude.{Option, None, Some}
use Rattle.std.specs.Option.{option_eq}
use Rattle.records.specs.Records.{owner_number, whose, of_book, of_query, allowed_to}
use Rattle.records.specs.declared.Owner.{Owner}
use Rattle.records.specs.declared.Owner.TheVariants.{Book, Query}
use Rattle.records.specs.contracts.OwnerPartialEq as OwnerPartialEq
use Rattle.records.proofs.is_of.Goals as goal

same_owner : (o : Option Owner) (owner : Owner)
    → option_eq (OwnerPartialEq.TheImpl.eq-value).it o (Some owner) ≡ eqb (owner_number o) (owner_number (Some owner))
same_owner None Book = refl
same_owner None Query = refl
same_owner (Some Book) Book = refl
same_owner (Some Book) Query = refl
same_owner (Some Query) Book = refl
same_owner (Some Query) Query = refl

of_owner : (owner : Owner) (k : ℕ) → eqb (whose k) (owner_number (Some owner)) ≡ allowed_to owner k
unfolding of_book of_query
of_owner Book k = refl
of_owner Query k = refl

pub returns : goal.returns
returns c = let a = c.args in
    c.eq.ensures ∙ same_owner c.whose.result a.owner
    ∙ ap (λ (w : ℕ). eqb w (owner_number (Some a.owner))) c.whose.ensures
    ∙ of_owner a.owner a.kind
