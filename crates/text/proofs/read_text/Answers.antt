-- `text::read_text` meets its contract. At each way out what the grammar says of the text (`Whole`).
-- Assumes nothing.
use mathlib.Core.Path.{refl}
use Rattle.text.proofs.Whole.{words_few, after_long, no_condition, end_inside, whole_shows}
use Rattle.text.proofs.Whole.{list_long, no_closing, fourth_inside, plain_shows, wanted_inside, condition_room}
use Rattle.text.proofs.Whole.{none_shows, no_retrieve, first_inside, no_opening, second_inside, no_list, third_inside}
use borrow.Author.Rules.{rules}
use Rattle.text.proofs.read_text.Goals as goal

pub returns-in_err-first : goal.returns-in_err-first
returns-in_err-first c =
    rw c.from_residual.ensures (none_shows _ _ _ (no_retrieve c.args.s.now c.in_err-first.ensures) refl)

pub after-requires-2 : goal.after-requires-2
after-requires-2 c = first_inside c.args.s.now _ c.in_ok-first.ensures

pub returns-in_err-second : goal.returns-in_err-second
returns-in_err-second c =
    rw c.from_residual-in_err-second.ensures (none_shows _ _ _ (no_opening c.args.s.now _ c.in_ok-first.ensures c.in_err-second.ensures) refl)

pub items_at-requires : goal.items_at-requires
items_at-requires c = (second_inside c.args.s.now _ c.in_ok-first.ensures _ c.in_ok-second.ensures, c.requires)

pub returns-in_err-list : goal.returns-in_err-list
returns-in_err-list c =
    rw c.from_residual-in_err-list.ensures (none_shows _ _ _ (no_list c.args.s.now _ c.in_ok-first.ensures _ c.in_ok-second.ensures _ _ c.in_err-list.ensures).0 (no_list c.args.s.now _ c.in_ok-first.ensures _ c.in_ok-second.ensures _ _
    c.in_err-list.ensures).1)

pub after-requires-3 : goal.after-requires-3
after-requires-3 c = third_inside c.args.s.now _ c.in_ok-first.ensures _ c.in_ok-second.ensures _ _ _ c.in_ok-list.ensures c.requires

pub returns-in_err-fourth : goal.returns-in_err-fourth
returns-in_err-fourth c =
    rw c.from_residual-in_err-fourth.ensures (none_shows _ _ _ (no_closing c.args.s.now _ c.in_ok-first.ensures _ c.in_ok-second.ensures _ _ _ c.in_ok-list.ensures c.requires c.in_err-fourth.ensures) (list_long c.args.s.now _ c.in_ok-first.ensures _ c.in_ok-second.ensures _ _ _ c.in_ok-list.ensures c.requires))

pub overflow_mul-from : goal.overflow_mul-from
overflow_mul-from c = search (rules, words_few c.args.s.now _ c.in_ok-first.ensures _ c.in_ok-second.ensures _ _ _ c.in_ok-list.ensures c.requires, third_inside c.args.s.now _ c.in_ok-first.ensures _ c.in_ok-second.ensures _ _ _ c.in_ok-list.ensures c.requires)

pub after-requires-4 : goal.after-requires-4
after-requires-4 c = fourth_inside c.args.s.now _ c.in_ok-first.ensures _ c.in_ok-second.ensures _ _ _ c.in_ok-list.ensures c.requires _ c.in_ok-fourth.ensures

pub text_end-requires : goal.text_end-requires
text_end-requires c = fourth_inside c.args.s.now _ c.in_ok-first.ensures _ c.in_ok-second.ensures _ _ _ c.in_ok-list.ensures c.requires _ c.in_ok-fourth.ensures

pub returns-in_default : goal.returns-in_default
returns-in_default c =
    plain_shows c.args.s.now _ c.in_ok-first.ensures _ c.in_ok-second.ensures _ _ _ c.in_ok-list.ensures c.requires _ c.in_ok-fourth.ensures c.in_default.ensures refl c.text_end.ensures

pub or_at-requires : goal.or_at-requires
or_at-requires c = (wanted_inside c.args.s.now _ c.in_ok-first.ensures _ c.in_ok-second.ensures _ _ _ c.in_ok-list.ensures c.requires _ c.in_ok-fourth.ensures _ c.in-Some.ensures, condition_room c.args.s.now _ c.in_ok-first.ensures _ c.in_ok-second.ensures _ _ _ c.in_ok-list.ensures c.requires _ c.in_ok-fourth.ensures _ c.in-Some.ensures _ refl)

pub returns-in_err-c : goal.returns-in_err-c
returns-in_err-c c =
    rw c.from_residual-in_err-c.ensures (none_shows _ _ _ (no_condition c.args.s.now _ c.in_ok-first.ensures _ c.in_ok-second.ensures _ _ _ c.in_ok-list.ensures c.requires _ c.in_ok-fourth.ensures _ c.in-Some.ensures _ refl _ c.in_err-c.ensures)
    (after_long c.args.s.now _ c.in_ok-first.ensures _ c.in_ok-second.ensures _ _ _ c.in_ok-list.ensures c.requires _ c.in_ok-fourth.ensures _ c.in-Some.ensures _ refl _ _ c.in_err-c.ensures))

pub text_end-requires-2 : goal.text_end-requires-2
text_end-requires-2 c = end_inside c.args.s.now _ c.in_ok-first.ensures _ c.in_ok-second.ensures _ _ _ c.in_ok-list.ensures c.requires _ c.in_ok-fourth.ensures _ c.in-Some.ensures _ refl _ _ c.in_ok-c.ensures

pub returns : goal.returns
returns c = whole_shows c.args.s.now _ c.in_ok-first.ensures _ c.in_ok-second.ensures _ _ _ c.in_ok-list.ensures c.requires _ c.in_ok-fourth.ensures _ c.in-Some.ensures _ refl _ _ c.in_ok-c.ensures c.text_end-2.ensures
