-- `query::read` meets its contract: at each way out the query is that of the outcome (`Loops`). Assumes nothing.
use Rattle.query.proofs.Loops.{query_over, query_faulty, query_refused_law, query_answered}
use Rattle.query.proofs.read.Goals as goal

pub returns-then-bytes-gt65536 : goal.returns-then-bytes-gt65536
returns-then-bytes-gt65536 c = let a = c.args in
    query_over a.s a.maximal.now a.bytes.now c.if-bytes-gt65536.true c.nothing_asked.ensures

pub returns-in-Some : goal.returns-in-Some
returns-in-Some c = let a = c.args in
    let w = c.walk-w.ensures in
    query_faulty a.s a.maximal.now a.bytes.now c.if-bytes-gt65536.false w.value w.numbered _ c.in-Some.is

pub returns-in-Err : goal.returns-in-Err
returns-in-Err c = let a = c.args in
    let w = c.walk-w.ensures in
    query_refused_law a.s a.maximal.now a.bytes.now c.if-bytes-gt65536.false w.value w.numbered c.in_default.is _ c.in-Err.ensures

pub returns : goal.returns
returns c = let a = c.args in
    let w = c.walk-w.ensures in
    query_answered a.s a.maximal.now a.bytes.now c.if-bytes-gt65536.false w.value w.numbered c.in_default.is c.in_default-whole_fault.ensures
