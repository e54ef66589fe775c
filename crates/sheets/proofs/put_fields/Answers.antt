-- `sheets::put_fields` meets its contract. The invariant: the fields before the next cell are written (`Writing`), 12
-- columns each.
-- Assumes nothing.
use mathlib.Core.List.{[], ◌∷◌}
use lib.ListN.{length-append}
use native.Mathlib.Omega.{arith}
use borrow.Author.Rules.{rules}
use Rattle.std.proofs.lemmas.Slice.Zip.{zip_turn, zip_end}
use Rattle.printout.proofs.Writing.{writing_start}
use Rattle.sheets.proofs.Putting.{field_room, fields_next, fields_end}
use Rattle.sheets.proofs.put_fields.Goals as goal

pub loop-kind-init : goal.loop-kind-init
loop-kind-init c = record { so_far = writing_start c.args.at _ _ c.requires.row_in_bounds; columns = omega arith }

pub put_field-end-requires : goal.put_field-end-requires
put_field-end-requires c =
    let (h, g, k, a) = zip_turn c.args.kinds.now c.args.row.now c.loop-kind.yielded c.into_iter-kind-iterator.result
    c.loop-kind.kind-iterator c.next.new.self c.next.result (search rules) (search rules) c.loop-kind.yielded_by
    (c.in-Some.kind, c.in-Some.cell) c.in-Some.is c.next.ensures.steps in
    field_room c.args.kinds.now c.args.row.now c.args.at c.args.out.now _ c.loop-kind.invariant.so_far
    h c.requires.kinds_in_bounds (k 0) (a 0)

pub loop-kind-preserved : goal.loop-kind-preserved
loop-kind-preserved c =
    let (h, g, k, a) = zip_turn c.args.kinds.now c.args.row.now c.loop-kind.yielded c.into_iter-kind-iterator.result
    c.loop-kind.kind-iterator c.next.new.self c.next.result (search rules) (search rules) c.loop-kind.yielded_by
    (c.in-Some.kind, c.in-Some.cell) c.in-Some.is c.next.ensures.steps in
    record {
      so_far = fields_next c.args.kinds.now c.args.row.now c.args.at c.args.out.now _ c.loop-kind.invariant.so_far
          h c.requires.kinds_in_bounds (k 0) (a 0) (length-append c.loop-kind.yielded _)
          c.put_field-end.ensures.value c.put_field-end.ensures.out_after;
      columns = omega (
        arith,
        c.put_field-end.ensures.inside,
        c.loop-kind.invariant.columns,
        length-append c.loop-kind.yielded ((c.in-Some.kind, c.in-Some.cell) ∷ []),
      );
    }

pub returns : goal.returns
returns c =
    let e = zip_end c.args.kinds.now c.args.row.now c.loop-kind.yielded c.into_iter-kind-iterator.result
    c.loop-kind.kind-iterator c.next.new.self c.next.result (search rules) (search rules) c.loop-kind.yielded_by
    c.in-None.is c.next.ensures.steps in
    let (p, w) = fields_end c.args.kinds.now c.args.row.now c.args.at c.args.out.now _ c.loop-kind.invariant.so_far
    (omega (arith, e, c.requires.kinds_in_bounds)) in
    record {
      value = p;
      out_after = w;
      inside = omega (arith, e, c.loop-kind.invariant.columns, c.requires.kinds_in_bounds);
    }
