-- `sheets::end_line` meets its contract: the blanks and the line feed.
-- Assumes nothing.
use Rattle.sheets.proofs.Putting.{rest_room, feed_room, rest_written}
use Rattle.sheets.proofs.end_line.Goals as goal

pub put_blanks-end-requires : goal.put_blanks-end-requires
put_blanks-end-requires c = rest_room c.args.used c.args.at c.args.out.now c.requires.used_in_bounds

pub put_byte-requires : goal.put_byte-requires
put_byte-requires c = feed_room c.args.used c.args.at c.args.out.now c.requires.used_in_bounds
    c.put_blanks-end.ensures.value c.put_blanks-end.ensures.out_after

pub returns : goal.returns
returns c = let r = rest_written c.args.used c.args.at c.args.out.now c.requires.used_in_bounds
    c.put_blanks-end.ensures.value c.put_blanks-end.ensures.out_after c.put_byte.ensures.value
    c.put_byte.ensures.out_after in
    record { value = r.0; out_after = r.1 }
