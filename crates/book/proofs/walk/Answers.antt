-- `book::walk` meets its contract. The invariant: the records passed are accepted, their rows counted and stored
-- (`Walking`). The measure: the bytes left. Assumes nothing.
use mathlib.Core.Path.{refl, sym}
use native.Mathlib.Omega.{arith}
use Rattle.records.proofs.Reader.{found_after, whole_read_at}
use Rattle.records.proofs.Checks.{tested}
use Rattle.book.proofs.Walking.{walking_start, walking_same, walking_inside, walking_rows, walking_six}
use Rattle.book.proofs.Walking.{walking_stored, walking_full, walking_other, walking_as, walking_unread}
use Rattle.book.proofs.Walking.{walking_faulty}
use Rattle.book.proofs.Declaring.{row_declares_nothing}
use Rattle.book.proofs.walk.Goals as goal
use Rattle.book.proofs.walk.Goals.{then-rows-directory, else-rows-directory}

pub loop-r-init : goal.loop-r-init
loop-r-init c = walking_start _ _ c.nothing_declared-scheme.ensures

pub shape_of-directory-in_default : goal.shape_of-directory-in_default
shape_of-directory-in_default c = walking_same c.loop-r.invariant

pub returns-in_default : goal.returns-in_default
returns-in_default c = let e = sym c.read-found.ensures in
    let r = walking_unread c.loop-r.invariant _ _ e c.in_default.not-Found c.unread.ensures in
    record { value = r.value; numbered = r.numbered; directory_after = r.directory_after }

pub fault-requires : goal.fault-requires
fault-requires c = walking_six c.loop-r.invariant

pub shape_of-directory-in-Err : goal.shape_of-directory-in-Err
shape_of-directory-in-Err c = walking_same c.loop-r.invariant

pub returns-in-Err : goal.returns-in-Err
returns-in-Err c = let e = sym c.in-Found.ensures in
    let r = walking_faulty c.loop-r.invariant _ e c.in-Err.ensures in
    record { value = r.value; numbered = r.numbered; directory_after = r.directory_after }

pub overflow_cast-directory : goal.overflow_cast-directory
overflow_cast-directory c = let v = c.loop-r.invariant in
    omega (
      arith,
      walking_inside v,
      c.requires,
    )

pub offset_bounds-directory-rows : goal.offset_bounds-directory-rows
offset_bounds-directory-rows c = let v = c.loop-r.invariant in
    omega (
      arith,
      walking_inside v,
      walking_rows v,
      c.requires,
    )

pub overflow_add-rows : goal.overflow_add-rows
overflow_add-rows c = let v = c.loop-r.invariant in
    omega (
      arith,
      walking_inside v,
      walking_rows v,
      c.requires,
    )

pub declare-scheme-requires : goal.declare-scheme-requires
declare-scheme-requires c = sym c.in_default-fault.ensures

pub loop-r-smaller-after-rows-directory : goal.loop-r-smaller-after-rows-directory
loop-r-smaller-after-rows-directory c = let e = sym c.in-Found.ensures in
    omega (arith, found_after _ _ e, (whole_read_at _ _ e).within)

pub loop-r-preserved-after-rows-directory : goal.loop-r-preserved-after-rows-directory
loop-r-preserved-after-rows-directory c = let v = c.loop-r.invariant in
    let e = sym c.in-Found.ensures in
    let f = sym c.in_default-fault.ensures in
    let y = tested c.is_row.ensures c.if-is_row.true in
    let d = row_declares_nothing _ _ y in
    elim c.if-rows-directory.branch [
      | then-rows-directory x ↦ walking_as (walking_stored v e f y x.if-rows-directory.true) x.directory-is d refl
      | else-rows-directory x ↦ walking_as (walking_full v e f y x.if-rows-directory.false) x.directory-is d refl
    ]

pub loop-r-smaller : goal.loop-r-smaller
loop-r-smaller c = let e = sym c.in-Found.ensures in
    omega (arith, found_after _ _ e, (whole_read_at _ _ e).within)

pub loop-r-preserved : goal.loop-r-preserved
loop-r-preserved c = let v = c.loop-r.invariant in
    let e = sym c.in-Found.ensures in
    let f = sym c.in_default-fault.ensures in
    let n = tested c.is_row.ensures c.if-is_row.false in
    walking_as (walking_other v e f n) refl c.declare-scheme.ensures refl
