-- `printout::print_query_refusal` meets its contract: its line is the words and the number (`query_refused_law`).
-- Assumes nothing.
use Rattle.printout.proofs.Texts.{query_refused_law}
use Rattle.printout.proofs.print_query_refusal.Goals as goal

pub returns : goal.returns
returns c = let r = query_refused_law c.args.number c.args.out.now (
  c.print_refusal.ensures.value,
  c.print_refusal.ensures.out_after,
) in
    record { value = r.0; out_after = r.1 }
