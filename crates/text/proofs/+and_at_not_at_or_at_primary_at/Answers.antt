-- The proof of the cycle of calls {or_at, and_at, not_at, primary_at}: "or, and, not and primary parsers call each other,
-- remaining depth and bytes falling". The measure: four for each byte left, and 4, 3, 2, 1 for the parser. The loops
-- keep that the chain goes on with what is parsed so far (`OrKeeps`, `AndKeeps`), whatever the words were before its
-- first part was written; their measure is what is left of the text.
-- Assumes nothing.
use native.Mathlib.Omega.{arith}
use Rattle.text.specs.Tokens.{code_word}
use Rattle.text.proofs.Chains.{round_start, round_none, round_ends, round_next_inside, round_room}
use Rattle.text.proofs.Chains.{round_falls, part_fails, part_room, round_next, round_less}
use Rattle.text.proofs.Parsers.{inner_room, inner_end, inner_closed, not_plain, not_within, not_fails, not_behind}
use Rattle.text.proofs.Parsers.{primary_plain, primary_within, primary_fails, primary_closed, or_chain, and_chain}
use Rattle.text.proofs.+and_at_not_at_or_at_primary_at.Goals as goal

pub or_at-returns-in_err-c : goal.or_at-returns-in_err-c
or_at-returns-in_err-c t c =
    rw c.from_residual.ensures (round_none _ _ _ _ _ _ _ _ (or_chain _) _ _ _ c.requires.1 _ c.in_err-c.ensures)

pub or_at-loop-next-init : goal.or_at-loop-next-init
or_at-loop-next-init t c = λ before room g. round_start _ _ _ _ _ _ _ _ (or_chain _) _ _ before room _ _ g

pub or_at-returns : goal.or_at-returns
unfolding code_word
or_at-returns t c = round_ends _ _ _ _ _ _ _ _ (or_chain _) _ _ _ c.requires.1 _ _ (c.loop-next.invariant _ c.requires.1 c.in_ok-c.ensures) c.in_default.ensures

pub or_at-and_at-requires-in-Some : goal.or_at-and_at-requires-in-Some
unfolding code_word
or_at-and_at-requires-in-Some t c =
    let w = round_falls _ _ _ _ _ _ _ _ (or_chain _) _ _ _ c.requires.1 _ _ (c.loop-next.invariant _ c.requires.1 c.in_ok-c.ensures) _ c.in-Some.ensures in (
      omega (arith, c.decreases, w),
      (
        round_next_inside _ _ _ _ _ _ _ _ (or_chain _) _ _ _ c.requires.1 _ _ (c.loop-next.invariant _ c.requires.1 c.in_ok-c.ensures) _ c.in-Some.ensures,
        round_room _ _ _ _ _ _ _ _ (or_chain _) _ _ _ c.requires.1 _ _ (c.loop-next.invariant _ c.requires.1 c.in_ok-c.ensures) _ c.in-Some.ensures,
      ),
    )

pub or_at-returns-in_err-e : goal.or_at-returns-in_err-e
unfolding code_word
or_at-returns-in_err-e t c = rw c.from_residual-in_err-e.ensures (part_fails _ _ _ _ _ _ _ _ (or_chain _) _ _ _ c.requires.1 _ _ (c.loop-next.invariant _ c.requires.1 c.in_ok-c.ensures) _ c.in-Some.ensures _ c.in_err-e.ensures)

pub or_at-with_word-c-requires : goal.or_at-with_word-c-requires
unfolding code_word
or_at-with_word-c-requires t c = part_room _ _ _ _ _ _ _ _ (or_chain _) _ _ _ c.requires.1 _ _ (c.loop-next.invariant _ c.requires.1 c.in_ok-c.ensures) _ c.in-Some.ensures _ _ c.in_ok-e.ensures

pub or_at-loop-next-smaller : goal.or_at-loop-next-smaller
unfolding code_word
or_at-loop-next-smaller t c =
    round_less _ _ _ _ _ _ _ _ (or_chain _) _ _ _ c.requires.1 _ _ (c.loop-next.invariant _ c.requires.1 c.in_ok-c.ensures) _ c.in-Some.ensures _ _ c.in_ok-e.ensures _ _ c.with_word-c.ensures.value c.with_word-c.ensures.out_after

pub or_at-loop-next-preserved : goal.or_at-loop-next-preserved
unfolding code_word
or_at-loop-next-preserved t c =
    λ before room g. round_next _ _ _ _ _ _ _ _ (or_chain _) _ _ before room _ _ (c.loop-next.invariant before room g)
    _ c.in-Some.ensures _ _ c.in_ok-e.ensures _ _ c.with_word-c.ensures.value c.with_word-c.ensures.out_after

pub and_at-returns-in_err-c : goal.and_at-returns-in_err-c
and_at-returns-in_err-c t c =
    rw c.from_residual.ensures (round_none _ _ _ _ _ _ _ _ (and_chain _) _ _ _ c.requires.1 _ c.in_err-c.ensures)

pub and_at-loop-next-init : goal.and_at-loop-next-init
and_at-loop-next-init t c = λ before room g. round_start _ _ _ _ _ _ _ _ (and_chain _) _ _ before room _ _ g

pub and_at-returns : goal.and_at-returns
unfolding code_word
and_at-returns t c = round_ends _ _ _ _ _ _ _ _ (and_chain _) _ _ _ c.requires.1 _ _ (c.loop-next.invariant _ c.requires.1 c.in_ok-c.ensures) c.in_default.ensures

pub and_at-not_at-requires-in-Some : goal.and_at-not_at-requires-in-Some
unfolding code_word
and_at-not_at-requires-in-Some t c =
    let w = round_falls _ _ _ _ _ _ _ _ (and_chain _) _ _ _ c.requires.1 _ _ (c.loop-next.invariant _ c.requires.1 c.in_ok-c.ensures) _ c.in-Some.ensures in (
      omega (arith, c.decreases, w),
      (
        round_next_inside _ _ _ _ _ _ _ _ (and_chain _) _ _ _ c.requires.1 _ _ (c.loop-next.invariant _ c.requires.1 c.in_ok-c.ensures) _ c.in-Some.ensures,
        round_room _ _ _ _ _ _ _ _ (and_chain _) _ _ _ c.requires.1 _ _ (c.loop-next.invariant _ c.requires.1 c.in_ok-c.ensures) _ c.in-Some.ensures,
      ),
    )

pub and_at-returns-in_err-e : goal.and_at-returns-in_err-e
unfolding code_word
and_at-returns-in_err-e t c = rw c.from_residual-in_err-e.ensures (part_fails _ _ _ _ _ _ _ _ (and_chain _) _ _ _ c.requires.1 _ _ (c.loop-next.invariant _ c.requires.1 c.in_ok-c.ensures) _ c.in-Some.ensures _ c.in_err-e.ensures)

pub and_at-with_word-c-requires : goal.and_at-with_word-c-requires
unfolding code_word
and_at-with_word-c-requires t c = part_room _ _ _ _ _ _ _ _ (and_chain _) _ _ _ c.requires.1 _ _ (c.loop-next.invariant _ c.requires.1 c.in_ok-c.ensures) _ c.in-Some.ensures _ _ c.in_ok-e.ensures

pub and_at-loop-next-smaller : goal.and_at-loop-next-smaller
unfolding code_word
and_at-loop-next-smaller t c =
    round_less _ _ _ _ _ _ _ _ (and_chain _) _ _ _ c.requires.1 _ _ (c.loop-next.invariant _ c.requires.1 c.in_ok-c.ensures) _ c.in-Some.ensures _ _ c.in_ok-e.ensures _ _ c.with_word-c.ensures.value c.with_word-c.ensures.out_after

pub and_at-loop-next-preserved : goal.and_at-loop-next-preserved
unfolding code_word
and_at-loop-next-preserved t c =
    λ before room g. round_next _ _ _ _ _ _ _ _ (and_chain _) _ _ before room _ _ (c.loop-next.invariant before room g)
    _ c.in-Some.ensures _ _ c.in_ok-e.ensures _ _ c.with_word-c.ensures.value c.with_word-c.ensures.out_after

pub not_at-returns-in_default : goal.not_at-returns-in_default
not_at-returns-in_default t c =
    not_plain c.args.s.now c.args.at c.args.to c.args.out.now c.requires.1 c.in_default.ensures _ _ c.primary_at.ensures

pub not_at-not_at-requires : goal.not_at-not_at-requires
not_at-not_at-requires t c =
    let w = not_within c.args.s.now c.args.at c.args.to c.args.out.now c.requires.1 _ c.in-Some.ensures in (
      omega (arith, c.decreases, w.after, w.inside),
      (w.inside, inner_room c.args.s.now c.args.at c.args.to c.args.out.now c.requires.1 _ w),
    )

pub not_at-returns-in_err-c : goal.not_at-returns-in_err-c
not_at-returns-in_err-c t c =
    rw c.from_residual.ensures (not_fails c.args.s.now c.args.at c.args.to c.args.out.now c.requires.1 _ c.in-Some.ensures _ c.in_err-c.ensures)

pub not_at-with_word-requires : goal.not_at-with_word-requires
not_at-with_word-requires t c =
    inner_end c.args.s.now c.args.at c.args.to c.args.out.now c.requires.1 _ (not_within c.args.s.now c.args.at c.args.to c.args.out.now c.requires.1 _ c.in-Some.ensures) _ _ _ c.in_ok-c.ensures.shown

pub not_at-returns : goal.not_at-returns
not_at-returns t c =
    not_behind c.args.s.now c.args.at c.args.to c.args.out.now c.requires.1 _ c.in-Some.ensures _ _ c.in_ok-c.ensures _ _ c.with_word.ensures.value c.with_word.ensures.out_after

pub primary_at-returns-in_default : goal.primary_at-returns-in_default
primary_at-returns-in_default t c =
    primary_plain c.args.s.now c.args.at c.args.to c.args.out.now c.requires.1 c.in_default.ensures _ _ c.comparison.ensures

pub primary_at-or_at-requires : goal.primary_at-or_at-requires
primary_at-or_at-requires t c =
    let w = primary_within c.args.s.now c.args.at c.args.to c.args.out.now c.requires.1 _ c.in-Some.ensures in (
      omega (arith, c.decreases, w.after, w.inside),
      (w.inside, inner_room c.args.s.now c.args.at c.args.to c.args.out.now c.requires.1 _ w),
    )

pub primary_at-returns-in_err-c : goal.primary_at-returns-in_err-c
primary_at-returns-in_err-c t c =
    rw c.from_residual.ensures (primary_fails c.args.s.now c.args.at c.args.to c.args.out.now c.requires.1 _ c.in-Some.ensures _ c.in_err-c.ensures)

pub primary_at-closed-requires : goal.primary_at-closed-requires
primary_at-closed-requires t c =
    inner_closed c.args.s.now c.args.at c.args.to c.args.out.now c.requires.1 _ (primary_within c.args.s.now c.args.at c.args.to c.args.out.now c.requires.1 _ c.in-Some.ensures) _ _ _ c.in_ok-c.ensures.shown

pub primary_at-returns : goal.primary_at-returns
primary_at-returns t c =
    primary_closed c.args.s.now c.args.at c.args.to c.args.out.now c.requires.1 _ c.in-Some.ensures _ _ c.in_ok-c.ensures _ c.closed.ensures
