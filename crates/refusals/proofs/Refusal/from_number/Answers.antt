-- `refusals::Refusal::from_number` meets its contract: each number has its place in the list, and no other place has one.
-- Assumes nothing.
use Rattle.std.proofs.Common.{arith, refl, sym}
use Rattle.refusals.specs.Refusals.{refusals, refusal_of_number}
use Rattle.refusals.proofs.Numbers.{none_else}
use Rattle.refusals.proofs.Refusal.from_number.Goals as goal

pub returns-in-1 : goal.returns-in-1
unfolding refusals refusal_of_number
returns-in-1 c = rw c.in-1.is refl

pub returns-in-2 : goal.returns-in-2
unfolding refusals refusal_of_number
returns-in-2 c = rw c.in-2.is refl

pub returns-in-3 : goal.returns-in-3
unfolding refusals refusal_of_number
returns-in-3 c = rw c.in-3.is refl

pub returns-in-4 : goal.returns-in-4
unfolding refusals refusal_of_number
returns-in-4 c = rw c.in-4.is refl

pub returns-in-5 : goal.returns-in-5
unfolding refusals refusal_of_number
returns-in-5 c = rw c.in-5.is refl

pub returns-in-6 : goal.returns-in-6
unfolding refusals refusal_of_number
returns-in-6 c = rw c.in-6.is refl

pub returns-in-7 : goal.returns-in-7
unfolding refusals refusal_of_number
returns-in-7 c = rw c.in-7.is refl

pub returns-in-9 : goal.returns-in-9
unfolding refusals refusal_of_number
returns-in-9 c = rw c.in-9.is refl

pub returns-in-10 : goal.returns-in-10
unfolding refusals refusal_of_number
returns-in-10 c = rw c.in-10.is refl

pub returns-in-11 : goal.returns-in-11
unfolding refusals refusal_of_number
returns-in-11 c = rw c.in-11.is refl

pub returns-in-12 : goal.returns-in-12
unfolding refusals refusal_of_number
returns-in-12 c = rw c.in-12.is refl

pub returns-in-13 : goal.returns-in-13
unfolding refusals refusal_of_number
returns-in-13 c = rw c.in-13.is refl

pub returns-in-14 : goal.returns-in-14
unfolding refusals refusal_of_number
returns-in-14 c = rw c.in-14.is refl

pub returns-in-18 : goal.returns-in-18
unfolding refusals refusal_of_number
returns-in-18 c = rw c.in-18.is refl

pub returns-in-19 : goal.returns-in-19
unfolding refusals refusal_of_number
returns-in-19 c = rw c.in-19.is refl

pub returns-in-20 : goal.returns-in-20
unfolding refusals refusal_of_number
returns-in-20 c = rw c.in-20.is refl

pub returns-in-21 : goal.returns-in-21
unfolding refusals refusal_of_number
returns-in-21 c = rw c.in-21.is refl

pub returns-in_default : goal.returns-in_default
returns-in_default c = sym (none_else c.args.number (omega arith) (omega arith) (omega arith) (omega arith) (omega arith) (omega arith) (omega arith) (omega arith) (omega arith) (omega arith) (omega arith) (omega arith) (omega arith) (omega arith) (omega arith) (omega arith) (omega arith))
