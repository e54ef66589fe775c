-- `query::walk` meets its contract. The invariant: the records passed are accepted, and the code has what they ask
-- (`Walking`). The measure: the bytes left. Assumes nothing.
use mathlib.Core.Path.{sym}
use native.Mathlib.Omega.{arith}
use Rattle.records.proofs.Checks.{tested}
use Rattle.records.proofs.Reader.{found_after, whole_read_at}
use Rattle.query.proofs.Loops.{walking_start, walking_next, walking_unread, walking_faulty}
use Rattle.query.proofs.Loops.{walking_last}
use Rattle.query.proofs.walk.Goals as goal

pub loop-r-init : goal.loop-r-init
loop-r-init c = walking_start _ _ c.nothing_asked-asked.ensures

pub returns-in_default : goal.returns-in_default
returns-in_default c = let r = walking_unread c.loop-r.invariant _ _ (sym c.read-found.ensures) c.in_default.not-Found c.unread.ensures in
    record { value = r.value; numbered = r.numbered }

pub returns-in-Err : goal.returns-in-Err
returns-in-Err c = let e = sym c.in-Found.ensures in
    let r = walking_faulty c.loop-r.invariant _ e c.in-Err.ensures in
    record { value = r.value; numbered = r.numbered }

pub returns-then-is_end : goal.returns-then-is_end
returns-then-is_end c = let e = sym c.in-Found.ensures in
    let f = sym c.in_default-fault.ensures in
    let r = walking_last c.loop-r.invariant e f (tested c.is_end.ensures c.if-is_end.true) in
    record { value = r.value; numbered = r.numbered }

pub with_record-asked-requires : goal.with_record-asked-requires
with_record-asked-requires c = sym c.in_default-fault.ensures

pub loop-r-smaller : goal.loop-r-smaller
loop-r-smaller c = let e = sym c.in-Found.ensures in
    omega (arith, found_after _ _ e, (whole_read_at _ _ e).within)

pub loop-r-preserved : goal.loop-r-preserved
loop-r-preserved c = let e = sym c.in-Found.ensures in
    let f = sym c.in_default-fault.ensures in
    let l = tested c.is_end.ensures c.if-is_end.false in
    walking_next c.loop-r.invariant _ e f l c.with_record-asked.ensures
