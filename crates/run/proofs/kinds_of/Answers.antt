-- `run::kinds_of` meets its contract: the terms have the kinds (`Returns`).
-- Assumes nothing.
use Rattle.run.proofs.Returns.{kinds_found}
use Rattle.answer.proofs.Returning.{kinds_long, asked_ready}
use mathlib.Core.Path.{sym}
use Rattle.run.proofs.kinds_of.Goals as goal

pub slice_bounds-terms_of-end : goal.slice_bounds-terms_of-end
slice_bounds-terms_of-end c = sym (kinds_long c.requires.bytes c.requires.is_read)

pub terms_of-t-requires : goal.terms_of-t-requires
terms_of-t-requires c = asked_ready c.requires.bytes c.requires.is_read c.requires.askable

pub returns : goal.returns
returns c = kinds_found c.requires c.terms_of-t.ensures
