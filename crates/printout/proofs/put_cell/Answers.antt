-- `printout::put_cell` meets its contract: a minus alone, or the value.
-- Assumes nothing.
use Rattle.printout.proofs.Writing.{missing_room, missing_written, value_room, value_written}
use Rattle.printout.proofs.put_cell.Goals as goal

pub put_byte-requires : goal.put_byte-requires
put_byte-requires c = missing_room c.args.kind c.args.cell c.args.at c.args.out.now c.requires
    c.missing.ensures c.if-missing.true

pub returns-then-missing : goal.returns-then-missing
returns-then-missing c = let r = missing_written c.args.kind c.args.cell c.args.at c.args.out.now c.requires
    c.missing.ensures c.if-missing.true c.put_byte.ensures.value c.put_byte.ensures.out_after in
    record { value = r.0; out_after = r.1 }

pub put_value-requires : goal.put_value-requires
put_value-requires c = value_room c.args.kind c.args.cell c.args.at c.args.out.now c.requires
    c.missing.ensures c.if-missing.false

pub returns : goal.returns
returns c = let r = value_written c.args.kind c.args.cell c.args.at c.args.out.now c.requires
    c.missing.ensures c.if-missing.false c.put_value.ensures.value c.put_value.ensures.out_after in
    record { value = r.0; out_after = r.1 }
