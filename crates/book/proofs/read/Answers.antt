-- `book::read` meets its contract: at each way out the book is that of the outcome (`Books`). Assumes nothing.
use Rattle.book.proofs.Books.{book_over, directory_over, directory_within, book_stopped, book_finished}
use Rattle.book.proofs.read.Goals as goal

pub returns-then-bytes-gt65536 : goal.returns-then-bytes-gt65536
returns-then-bytes-gt65536 c = let over = c.if-bytes-gt65536.true in
    record { value = book_over _ over c.nothing_declared.ensures c.stopped.ensures; directory_after = directory_over _ over _ }

pub returns-in-Some : goal.returns-in-Some
returns-in-Some c = let within = c.if-bytes-gt65536.false in
    let w = c.walk-w.ensures in
    record {
      value = book_stopped _ within w.value w.numbered _ c.in-Some.is c.stopped-in-Some.ensures;
      directory_after = directory_within _ within w.value w.numbered _ w.directory_after;
    }

pub returns : goal.returns
returns c = let within = c.if-bytes-gt65536.false in
    let w = c.walk-w.ensures in
    record {
      value = book_finished _ within w.value w.numbered c.in_default.is c.finished.ensures;
      directory_after = directory_within _ within w.value w.numbered _ w.directory_after;
    }
