-- `scheme::is_one` meets its contract: `contains` asks of each place what the definition asks (`or_is`).
-- Assumes nothing.
use Rattle.std.proofs.Common.{◌≡◌, ◌∙◌, ℕ, refl, sym, ap, rules, eqb}
use Rattle.std.proofs.lemmas.List.Recursion.{or_is}
use mathlib.Core.Bool.{Bool, ◌||◌}
use mathlib.Core.Logic.{⊎_elim}
use borrow.Author.Tests.{eqb-true, eq-eqb, ne_eqb}
use Rattle.sets.proofs.Tests.{yes_or_no, yes_no}
use Rattle.scheme.specs.MaximalObjects.{is_one}
use Rattle.scheme.proofs.is_one.Goals as goal

eqb_turned : (s t : ℕ) → eqb s t ≡ eqb t s
eqb_turned s t =
    ⊎_elim (λ y. y ∙ sym (eq-eqb t s (sym (eqb-true s t y))))
    (λ n. n ∙ sym (ne_eqb t s (λ e. yes_no (eq-eqb s t (sym e)) n))) (yes_or_no (eqb s t))

pub returns : goal.returns
unfolding is_one
returns c = or_is (is_one c.args.s) (λ x. eqb x c.args.s) refl
    (λ x l. ap (λ (b : Bool). b || is_one c.args.s l) (eqb_turned c.args.s x)) c.args.list.now 0 _ (search rules) (search rules)
