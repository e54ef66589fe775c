-- `printout::row_length` meets its contract. The invariant: `n` counts the bytes before the next cell (`RowCounted`).
-- Assumes nothing.
use mathlib.Core.Path.{sym, ap₂, subst, ◌∙◌}
use Prim.Native.Nat.{ℕ}
use lib.ListN.{length, length-append}
use Rattle.std.proofs.lemmas.Slice.Zip.{zip_turn, zip_end}
use native.Mathlib.Omega.{arith}
use borrow.Author.Rules.{rules}
use Rattle.printout.specs.Decimal.{cell_text}
use Rattle.printout.proofs.Rows.{RowCounted, row_counted_start, row_counted_next, row_counted_end}
use Rattle.printout.proofs.row_length.Goals as goal

pub loop-kind-init : goal.loop-kind-init
loop-kind-init c = row_counted_start _ _

pub loop-kind-preserved : goal.loop-kind-preserved
loop-kind-preserved c =
    let (h, g, k, a) = zip_turn c.args.kinds.now c.args.row.now c.loop-kind.yielded c.into_iter-kind-iterator.result
    c.loop-kind.kind-iterator c.next.new.self c.next.result (search rules) (search rules) c.loop-kind.yielded_by (c.in-Some.kind, c.in-Some.cell) c.in-Some.is
    c.next.ensures.steps in
    subst (RowCounted c.args.kinds.now c.args.row.now _) (sym (length-append c.loop-kind.yielded _))
    (row_counted_next c.args.kinds.now c.args.row.now c.loop-kind.invariant h c.requires.1 (
      c.cell_length.ensures.value ∙ ap₂ (λ (x y : ℕ). length (cell_text x y)) (k 0) (a 0),
      c.cell_length.ensures.inside,
    ))

pub returns : goal.returns
returns c =
    let e = zip_end c.args.kinds.now c.args.row.now c.loop-kind.yielded c.into_iter-kind-iterator.result
    c.loop-kind.kind-iterator c.next.new.self c.next.result (search rules) (search rules) c.loop-kind.yielded_by c.in-None.is c.next.ensures.steps in
    let r = row_counted_end c.args.kinds.now c.args.row.now c.loop-kind.invariant (omega (arith, e, c.requires.1))
    c.requires.0 in record { value = r.0; inside = r.1 }
