-- The statements of `specs/Statements`, in its order.
-- Assumes nothing.
use mathlib.Core.Path.{ap, subst}
use mathlib.Core.List.{List}
use Prim.Native.Nat.{ℕ}
use lib.ListN.{get_or}
use Rattle.records.specs.Walking.{Rules, Sound, StopsAt}
use Rattle.records.specs.Statements.{FieldsInverse, KindThenBody, ReadsBack, WasWritten, AnswersMean, WalkExactly}
use Rattle.records.proofs.Fields.{length_bytes, bytes_are_bytes, value_bytes, bytes_value, value_below}
use Rattle.records.proofs.Records.{shape, length_bytes_of}
use Rattle.records.proofs.Reader.{read_at_iff, read_at_written, reads_written}
use Rattle.records.proofs.Reader.{read_at_stands, reads_stand, reads_unique}
use Rattle.records.proofs.Walking.{walk_stops, stops_walk}

pub fields_inverse : FieldsInverse
fields_inverse = record {
  long = length_bytes;
  small = bytes_are_bytes;
  back = value_bytes;
  again = bytes_value;
  below = value_below;
}

pub kind_then_body : KindThenBody
kind_then_body = record {
  known = λ r. (shape r).kind;
  first = λ r. ap (λ (l : List ℕ). get_or l 0 0) (shape r).split;
  long = length_bytes_of;
}

pub reads_back : ReadsBack
reads_back = record { one = read_at_written; all = reads_written }

pub was_written : WasWritten
was_written = record {
  one = λ s at r next given e. read_at_stands s at given e;
  all = λ s at rs next given h t. reads_stand given h t;
  only = λ s at rs rs' next next' a h b k. reads_unique a h b k;
}

pub answers_mean : AnswersMean
answers_mean = record { exactly = read_at_iff }

pub walk_exactly : {S : Type 0} (R : Rules S) → Sound R → (b : List ℕ) (start : S) → WalkExactly R b start
walk_exactly R v b start = record {
  exactly = λ w. (λ e. subst (StopsAt R b start) e (walk_stops R v b start), λ s. stops_walk R v b start s);
}
