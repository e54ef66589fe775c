-- `printout::put_words` meets its contract. Two texts, one behind the other (`both_written`).
-- Assumes nothing.
use Rattle.printout.proofs.Texts.{first_room, second_room, both_written}
use Rattle.printout.proofs.put_words.Goals as goal

pub put_text-end-requires : goal.put_text-end-requires
put_text-end-requires c = first_room c.args.at c.args.words.now _ c.args.out.now c.requires

pub put_decimal-requires : goal.put_decimal-requires
put_decimal-requires c = second_room c.args.at c.args.words.now _ c.args.out.now c.requires
    c.put_text-end.ensures.value c.put_text-end.ensures.out_after

pub returns : goal.returns
returns c = let r = both_written c.args.at c.args.words.now _ c.args.out.now c.requires
    c.put_text-end.ensures.value c.put_text-end.ensures.out_after
    c.put_decimal.ensures.value c.put_decimal.ensures.out_after in record { value = r.0; out_after = r.1 }
