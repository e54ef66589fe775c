-- `sheets::put_fields` meets its contract. The invariant: the fields before the next cell are written (`Writing`), 12
-- columns each.
-- Assumes nothing.
use lib.ListN.{length}
use Prim.Native.Nat.{◌+◌, ◌*◌}
use mathlib.Core.Path.{◌≡◌}
use Rattle.printout.proofs.Writing.{Writing}
use Rattle.sheets.proofs.Fields.{fields_left}
use Rattle.sheets.proofs.put_fields.Given as goal

abbrev pub invariant-loop-kind : goal.invariant-loop-kind
invariant-loop-kind l = record {
  so_far : Writing l.at (fields_left l.kinds l.row 0) l.initial.out l.end (fields_left l.kinds l.row (length l.yielded))
      l.out;
  columns : l.end ≡ l.at + 12 * length l.yielded;
}
