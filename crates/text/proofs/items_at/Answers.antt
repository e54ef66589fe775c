-- `text::items_at` meets its contract. The invariant: some items are done and the rest stands from `here` on (`Going`). The
-- measure: the bytes left.
-- Assumes nothing.
use Rattle.text.proofs.Listing.{second_place, more_same, comma_within, going_next}
use Rattle.text.proofs.Listing.{going_start, going_long, going_fails, mid_within, first_room, going_last}
use native.Mathlib.Omega.{arith}
use mathlib.Core.Path.{refl}
use Rattle.text.proofs.items_at.Goals as goal

pub loop-letter-init : goal.loop-letter-init
loop-letter-init c = going_start _ _ _ c.requires.0

pub token_at-requires : goal.token_at-requires
token_at-requires c = c.loop-letter.invariant.inside

pub shape_of-out-in_default : goal.shape_of-out-in_default
shape_of-out-in_default c = going_long _ _ _ c.loop-letter.invariant c.requires.1

pub returns-in_default : goal.returns-in_default
returns-in_default c =
    going_fails _ _ _ c.loop-letter.invariant c.requires.1 c.token_at.ensures c.in_default.not-ItemAt

pub put-place-requires : goal.put-place-requires
put-place-requires c = first_room _ _ _ c.loop-letter.invariant c.requires.1 _ _ _ c.in-ItemAt.ensures

pub put-requires : goal.put-requires
put-requires c =
    second_place _ _ _ c.loop-letter.invariant c.requires.1 _ _ _ c.in-ItemAt.ensures _
    c.put-place.ensures.out_after c.put-place.ensures.value

pub after-requires : goal.after-requires
after-requires c = (mid_within _ _ _ c.loop-letter.invariant c.requires.1 _ _ _ c.in-ItemAt.ensures).inside

pub shape_of-out-in_default-after : goal.shape_of-out-in_default-after
shape_of-out-in_default-after c =
    more_same _ _ _ c.loop-letter.invariant c.requires.1 _ _ _ c.in-ItemAt.ensures c.letter_word.ensures
    c.put-place.ensures.out_after c.put-place.ensures.value c.put.ensures.out_after

pub returns-in_default-after : goal.returns-in_default-after
returns-in_default-after c =
    going_last _ _ _ c.loop-letter.invariant c.requires.1 _ _ _ c.in-ItemAt.ensures c.in_default-after.ensures
    c.letter_word.ensures c.put-place.ensures.out_after c.put-place.ensures.value c.put.ensures.out_after refl

pub loop-letter-smaller : goal.loop-letter-smaller
loop-letter-smaller c =
    omega (
      arith,
      (mid_within _ _ _ c.loop-letter.invariant c.requires.1 _ _ _ c.in-ItemAt.ensures).after,
      (comma_within _ _ _ c.loop-letter.invariant c.requires.1 _ _ _ c.in-ItemAt.ensures _ c.in-Some.ensures).after,
      (comma_within _ _ _ c.loop-letter.invariant c.requires.1 _ _ _ c.in-ItemAt.ensures _ c.in-Some.ensures).inside,
    )

pub loop-letter-preserved : goal.loop-letter-preserved
loop-letter-preserved c =
    going_next _ _ _ c.loop-letter.invariant c.requires.1 _ _ _ c.in-ItemAt.ensures _ c.in-Some.ensures c.letter_word.ensures
    c.put-place.ensures.out_after c.put-place.ensures.value c.put.ensures.out_after refl
