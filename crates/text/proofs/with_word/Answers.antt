-- `text::with_word` meets its contract. One word more (`with_done`).
-- Assumes nothing.
use Rattle.text.proofs.Writing.{with_done}
use Rattle.text.proofs.with_word.Goals as goal

pub returns : goal.returns
returns c =
    let r = with_done _ _ _ _ _ _ _ c.put.ensures.value c.max.ensures c.put.ensures.out_after in
    record { value = r.0; out_after = r.1 }
