-- `printout::print_refusal` meets its contract: there is no room, or the words, the number and the line feed are
-- written.
-- Assumes nothing.
use native.Mathlib.Omega.{arith}
use Rattle.printout.proofs.Texts.{of_number, refusal_none, words_room, line_room, refusal_written}
use Rattle.printout.proofs.print_refusal.Goals as goal

pub returns-then-out-n : goal.returns-then-out-n
returns-then-out-n c = let r = of_number _ _ c.from-x.ensures (refusal_none c.args.words.now c.from-x.result
    c.args.out.now c.decimal_length.ensures.value (omega (arith, c.if-out-n.true))) in
    record { value = r.0; out_after = r.1 }

pub put_words-at-requires : goal.put_words-at-requires
put_words-at-requires c = words_room c.args.words.now c.from-x.result c.args.out.now
    c.decimal_length.ensures.value (omega (arith, c.if-out-n.false))

pub put_byte-requires : goal.put_byte-requires
put_byte-requires c = line_room c.args.words.now c.from-x.result c.args.out.now
    c.decimal_length.ensures.value (omega (arith, c.if-out-n.false))
    c.put_words-at.ensures.value
    c.put_words-at.ensures.out_after

pub returns : goal.returns
returns c = let r = of_number _ _ c.from-x.ensures (refusal_written c.args.words.now c.from-x.result c.args.out.now
    c.decimal_length.ensures.value (omega (arith, c.if-out-n.false))
    c.put_words-at.ensures.value
    c.put_words-at.ensures.out_after c.put_byte.ensures.value c.put_byte.ensures.out_after) in
    record { value = r.0; out_after = r.1 }
