-- `records::body_length` meets its contract: in each arm the number is that of the table, and the other numbers have no
-- body (`bodiless`).
-- Assumes nothing.
use mathlib.Core.Path.{sym, ap}
use native.Mathlib.Omega.{arith}
use Rattle.records.specs.Records.{kinds, body_length}
use Rattle.records.proofs.Records.{bodiless}
use Rattle.records.proofs.body_length.Goals as goal

pub returns-in-1 : goal.returns-in-1
unfolding body_length kinds
returns-in-1 c = ap body_length (sym c.in-1.is)

pub returns-in-2 : goal.returns-in-2
unfolding body_length kinds
returns-in-2 c = ap body_length (sym c.in-2.is)

pub returns-in-3 : goal.returns-in-3
unfolding body_length kinds
returns-in-3 c = ap body_length (sym c.in-3.is)

pub returns-in-4 : goal.returns-in-4
unfolding body_length kinds
returns-in-4 c = ap body_length (sym c.in-4.is)

pub returns-in-5 : goal.returns-in-5
unfolding body_length kinds
returns-in-5 c = ap body_length (sym c.in-5.is)

pub returns-in-6 : goal.returns-in-6
unfolding body_length kinds
returns-in-6 c = ap body_length (sym c.in-6.is)

pub returns-in-7 : goal.returns-in-7
unfolding body_length kinds
returns-in-7 c = ap body_length (sym c.in-7.is)

pub returns-in-8 : goal.returns-in-8
unfolding body_length kinds
returns-in-8 c = ap body_length (sym c.in-8.is)

pub returns-in-9 : goal.returns-in-9
unfolding body_length kinds
returns-in-9 c = ap body_length (sym c.in-9.is)

pub returns-in-13 : goal.returns-in-13
unfolding body_length kinds
returns-in-13 c = ap body_length (sym c.in-13.is)

pub returns-in-15 : goal.returns-in-15
unfolding body_length kinds
returns-in-15 c = ap body_length (sym c.in-15.is)

pub returns-in_default : goal.returns-in_default
returns-in_default c = bodiless _ (omega arith) (omega arith) (omega arith) (omega arith) (omega arith) (omega arith) (omega arith) (omega arith) (omega arith) (omega arith) (omega arith)
