-- `text::put_comparison` meets its contract. Six words, one behind the other (`six_written`).
-- Assumes nothing.
use Rattle.text.proofs.Parsers.{six_written, operator_tag}
use Rattle.text.proofs.put_comparison.Goals as goal

pub returns : goal.returns
returns c =
    let r = six_written c.args.x c.args.to _ _ _ _ _ _ c.args.out.now _ _ _ _ _ _ _ _ _ _ c.requires
    c.put-at.ensures.value c.put-at-2.ensures.value c.put-at-3.ensures.value c.put-at-4.ensures.value
    c.put-at-5.ensures.value c.put.ensures.value c.put-at.ensures.out_after c.put-at-2.ensures.out_after
    c.put-at-3.ensures.out_after c.put-at-4.ensures.out_after c.put-at-5.ensures.out_after c.put.ensures.out_after
    c.letter_word.ensures (operator_tag c.args.x.operator) c.right_words-first.ensures in record { value = r.0; out_after = r.1 }
