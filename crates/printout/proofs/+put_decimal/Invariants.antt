-- `printout::put_decimal` meets its contract. The digits of the tenth part, then the last one (`large_written`). The
-- measure: the number.
-- Assumes nothing.
use Rattle.printout.proofs.+put_decimal.Given as goal

abbrev pub decreases-put_decimal : goal.decreases-put_decimal
decreases-put_decimal l = l.x
