-- `printout::put_head` meets its contract: the serial, the count and the line feed, one behind the other.
-- Assumes nothing.
use Rattle.printout.proofs.Texts.{serial_room, count_room, feed_room, head_written}
use Rattle.printout.proofs.put_head.Goals as goal

pub put_words-at-requires : goal.put_words-at-requires
put_words-at-requires c = serial_room c.args.serial c.args.rows c.index.ensures c.args.out.now c.requires

pub put_words-at-requires-2 : goal.put_words-at-requires-2
put_words-at-requires-2 c = count_room c.args.serial c.args.rows c.index.ensures c.args.out.now
    c.requires c.put_words-at.ensures.value c.put_words-at.ensures.out_after

pub put_byte-requires : goal.put_byte-requires
put_byte-requires c = feed_room c.args.serial c.args.rows c.index.ensures c.args.out.now
    c.requires c.put_words-at.ensures.value c.put_words-at.ensures.out_after
    c.put_words-at-2.ensures.value c.put_words-at-2.ensures.out_after

pub returns : goal.returns
returns c = let r = head_written c.args.serial c.args.rows c.index.ensures c.args.out.now
    c.requires c.put_words-at.ensures.value c.put_words-at.ensures.out_after
    c.put_words-at-2.ensures.value c.put_words-at-2.ensures.out_after
    c.put_byte.ensures.value c.put_byte.ensures.out_after in record { value = r.0; out_after = r.1 }
