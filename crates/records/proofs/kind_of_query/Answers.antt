-- `records::kind_of_query` meets its contract: the number is that of the variant. Assumes nothing.
use mathlib.Core.Path.{refl}
use Rattle.records.specs.Records.{kind_of}
use Rattle.records.proofs.kind_of_query.Goals as goal

pub returns-in-Item : goal.returns-in-Item
unfolding kind_of
returns-in-Item c = rw c.in-Item.is refl

pub returns-in-CompareTwo : goal.returns-in-CompareTwo
unfolding kind_of
returns-in-CompareTwo c = rw c.in-CompareTwo.is refl

pub returns-in-CompareConstant : goal.returns-in-CompareConstant
unfolding kind_of
returns-in-CompareConstant c = rw c.in-CompareConstant.is refl

pub returns-in-End : goal.returns-in-End
unfolding kind_of
returns-in-End c = rw c.in-End.is refl
