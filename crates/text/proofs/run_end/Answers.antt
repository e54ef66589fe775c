-- `text::run_end` meets its contract. As many bytes as pass from there on are the run (`run_counts`).
-- Assumes nothing.
use mathlib.Core.Path.{ap}
use native.Mathlib.Omega.{arith}
use lib.ListN.{length, length-drop}
use Rattle.text.proofs.Scanning.{rest_whole, run_counts}
use Rattle.text.proofs.run_end.Goals as goal

pub returns : goal.returns
returns c = record {
  value = omega (
    arith,
    run_counts c.args.first c.args.last c.args.s.now c.args.at c.run_length.ensures.value,
  );
  inside = omega (
    arith,
    c.run_length.ensures.within,
    ap length (rest_whole c.args.s.now c.args.at),
    length-drop c.args.at c.args.s.now,
  );
}
