-- `text::fixed` meets its contract. By the first byte, each begins one word, mark or operator only (`Marks`).
-- Assumes nothing.
use mathlib.Core.Path.{refl}
use Rattle.text.proofs.Marks.{fixed_retrieve, fixed_where, fixed_not, fixed_and, fixed_or, fixed_opening}
use Rattle.text.proofs.Marks.{fixed_closing, fixed_comma, fixed_greater, fixed_equal, fixed_other}
use borrow.Author.Rules.{rules}
use Rattle.text.proofs.fixed.Goals as goal

pub returns-in-114 : goal.returns-in-114
returns-in-114 c = search (rules, fixed_retrieve)

pub returns-in-119 : goal.returns-in-119
returns-in-119 c = search (rules, fixed_where)

pub returns-in-110 : goal.returns-in-110
returns-in-110 c = search (rules, fixed_not)

pub returns-in-97 : goal.returns-in-97
returns-in-97 c = search (rules, fixed_and)

pub returns-in-111 : goal.returns-in-111
returns-in-111 c = search (rules, fixed_or)

pub returns-in-40 : goal.returns-in-40
returns-in-40 c = search (rules, fixed_opening)

pub returns-in-41 : goal.returns-in-41
returns-in-41 c = search (rules, fixed_closing)

pub returns-in-44 : goal.returns-in-44
returns-in-44 c = search (rules, fixed_comma)

pub returns-in-62 : goal.returns-in-62
returns-in-62 c = search (rules, fixed_greater)

pub returns-in-61 : goal.returns-in-61
returns-in-61 c = search (rules, fixed_equal)

pub returns-in_default : goal.returns-in_default
returns-in_default c =
    fixed_other c.args.s.now c.args.at c.requires _ refl (search rules) (search rules) (search rules) (search rules)
    (search rules) (search rules) (search rules) (search rules) (search rules) (search rules) (search rules)
