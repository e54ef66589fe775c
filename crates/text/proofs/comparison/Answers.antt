-- `text::comparison` meets its contract. Its words are the program of the comparison (`comparison_done`).
-- Assumes nothing.
use Rattle.text.proofs.Parsers.{comparison_fails, comparison_room, comparison_done}
use Rattle.text.proofs.Chains.{shows_same}
use Rattle.text.proofs.comparison.Goals as goal

pub returns-in_err-x : goal.returns-in_err-x
returns-in_err-x c =
    rw c.from_residual.ensures
    (comparison_fails c.args.s.now c.args.at c.args.to c.args.out.now c.in_err-x.ensures)

pub put_comparison-end-requires : goal.put_comparison-end-requires
put_comparison-end-requires c =
    comparison_room c.args.s.now c.args.at c.args.to c.args.out.now _ c.in_ok-x.ensures c.requires.1

pub shape_of-out : goal.shape_of-out
shape_of-out c =
    shows_same _ _ _ _ _ _ _ (comparison_done c.args.s.now c.args.at c.args.to c.args.out.now _
    c.in_ok-x.ensures c.requires.1 _ _ c.put_comparison-end.ensures.value
    c.put_comparison-end.ensures.out_after).shown c.requires.1

pub returns : goal.returns
returns c =
    comparison_done c.args.s.now c.args.at c.args.to c.args.out.now _ c.in_ok-x.ensures
    c.requires.1 _ _ c.put_comparison-end.ensures.value c.put_comparison-end.ensures.out_after
