-- `run::opening` meets its contract: at each way out what is printed has room (`Returns`).
-- Assumes nothing.
use Rattle.run.proofs.Returns.{unwrapped, opens_book, opens_long, opens_run}
use native.Mathlib.Omega.{arith}
use Rattle.run.proofs.opening.Goals as goal

pub returns-then-refusal-ne0 : goal.returns-then-refusal-ne0
returns-then-refusal-ne0 c = let r = opens_book c.args.refusal c.args.input c.args.out.now c.requires (omega arith) c.if-refusal-ne0.true
    (unwrapped _ c.unwrap_or.ensures) c.print_book_refusal-p.ensures.value c.print_book_refusal-p.ensures.out_after in
    record { value = r.0; out_after = r.1 }

pub returns-then-input-gt65536 : goal.returns-then-input-gt65536
returns-then-input-gt65536 c = let r = opens_long c.args.refusal c.args.input c.args.out.now c.requires c.if-refusal-ne0.false c.if-input-gt65536.true c.refuse.ensures.value c.refuse.ensures.out_after in record { value = r.0; out_after = r.1 }

pub returns : goal.returns
returns c = let r = opens_run c.args.refusal c.args.input c.args.out.now c.requires c.if-refusal-ne0.false c.if-input-gt65536.false in record { value = r.0; out_after = r.1 }
