-- The theorems of `Statements`, then those of `Outcomes`, each in its order.
-- Assumes nothing.
use mathlib.Core.Path.{◌≡◌, refl, sym, ◌∙◌, subst}
use mathlib.Core.List.Memᴰ
use mathlib.Core.List.{List, Memᴰ}
use Prim.Native.Nat.{ℕ}
use lib.ListN.{length-map}
use Rattle.sets.specs.Sets.{◌∈◌, ◌⊆◌}
use Rattle.reduction.specs.Steps.{Family}
use Rattle.reduction.specs.Statements.{OfAttributes}
use Rattle.values.specs.Statements.{OperatorsMean}
use Rattle.values.proofs.Theorems.{operators_mean}
use Rattle.reduction.proofs.Kept.{one_kept}
use Rattle.scheme.specs.Growing.{family_of, attributes_of}
use Rattle.scheme.specs.OfScheme.{maximal_of}
use Rattle.book.specs.Reading.{Outcome, read}
use Rattle.book.proofs.WellFormed.{family_of_attributes}
use Rattle.book.proofs.Theorems.{scheme_well_formed, maximal_objects_of_book}
use Rattle.query.specs.declared.Comparison.{Comparison}
use Rattle.query.specs.Asking.{conjunction, Asking}
use Rattle.query.proofs.Asking.{conjunction_of}
use Rattle.connection.specs.Statements.{NamesInRange, ConnectionListed, AnswerListed, AnswerInRange}
use Rattle.connection.specs.Statements.{CombinationsGive}
use Rattle.connection.specs.Statements.{AnswerFits, OneKeptSet, ComparisonMeans, ConditionMeans}
use Rattle.connection.specs.Answers.{Cells, kind_of, kind_at, right_cell, is_true, item_kinds}
use Rattle.connection.specs.Statements.{CombinationsCounted, CombinationsListed, CombinationsOrdered}
use Rattle.connection.specs.Order.{ways_picked}
use Rattle.connection.specs.Answering.{query_read, rows_answered}
use Rattle.connection.specs.Outcomes.{item_count, AnswerNumberMeans, RefusalNumbered, Demand1, PromiseE}
use Rattle.connection.proofs.InRange.{read_in_range}
use Rattle.connection.proofs.Shown.{of_shown_row, row_of_object, tables_kept}
use Rattle.connection.proofs.Connected.{of_connection_law, connection_has}
use Rattle.connection.proofs.Fitted.{part_fits, fits_part, answer_fits_query, fits_query_answer}
use Rattle.connection.proofs.Answered.{answer_rows_fact, answer_ascending, answer_rows_of_kinds, only_answer}
use Rattle.connection.proofs.Answered.{answer_rows_ranged}
use Rattle.connection.proofs.Choices.{meets_each, each_meets}
use Rattle.connection.proofs.Combined.{answer_combined, combined_answer}
use Rattle.connection.proofs.Order.{combinations_size, of_combinations, combinations_have, one_row_law}
use Rattle.connection.proofs.Order.{combinations_once, combinations_in_order, combinations_only}
use Rattle.connection.proofs.Spaces.{AllWide}
use Rattle.connection.proofs.Outcomes.{number_of_book, number_of_query, number_fourteen, number_thirteen}
use Rattle.connection.proofs.Outcomes.{number_full, number_otherwise, number_one_of, number_not_eight}
use Rattle.connection.proofs.Numbered.{refusal_number}
use Rattle.connection.proofs.Outcomes.{outcome_there, outcome_only}
use Rattle.connection.proofs.Outcomes.{cells_as_many, rows_in_front, cells_behind}

-- ---- names: those of a query that was read over a book are in range, whatever its number

pub names_in_range : (b q : List ℕ) → NamesInRange (query_read (read b) q).asking
names_in_range b q = read_in_range (read b).scheme (maximal_of (read b).scheme) q

-- the sets of a book's objects are sets of attributes
bounded : (b : List ℕ) (M : ℕ) → OfAttributes (family_of (read b).scheme.sets M)
bounded b M = family_of_attributes (scheme_well_formed b).well_formed M

-- ---- the connection

pub connection_listed : (b : List ℕ) (X : ℕ) → ConnectionListed b X
connection_listed b X = record {
  rows = λ row. (of_connection_law b (read b) X (bounded b), connection_has b (read b) X (bounded b));
}

-- ---- answer rows

pub answer_listed : (b : List ℕ) (q : Asking) → NamesInRange q → AnswerListed b q
answer_listed b q range = record {
  rows = answer_rows_fact b (bounded b) q range;
  ascending = answer_ascending b (bounded b) q range;
  of_kinds = answer_rows_of_kinds b (bounded b) q range;
  only = only_answer b (bounded b) q range;
}

-- ---- cells in range

pub answer_in_range : (b : List ℕ) (q : Asking) → NamesInRange q → AnswerInRange b q
answer_in_range b q range = record { each = answer_rows_ranged b (bounded b) q range }

-- ---- comparisons

pub comparison_means : (o : Outcome) (at : Cells) → ComparisonMeans o at
unfolding OperatorsMean is_true right_cell
comparison_means o at = record {
  two = λ x v a v2 a2. operators_mean x (kind_at o a) (kind_at o a2) (at v a) (at v2 a2);
  constant = λ x v a cell. operators_mean x (kind_at o a) (kind_at o a) (at v a) cell;
}

pub condition_means : (o : Outcome) (at : Cells) → ConditionMeans o at
condition_means o at = record {
  all = λ cs. (
    λ e c m.
        meets_each o at (conjunction cs) e c
        (subst (λ (l : List Comparison). Memᴰ c l) (sym (conjunction_of cs)) m),
    λ h. each_meets o at (conjunction cs) (λ c m.
        h c (subst (λ (l : List Comparison). Memᴰ c l) (conjunction_of cs) m)),
  );
}

-- ---- combinations

pub combinations_give : (b : List ℕ) (q : Asking) → NamesInRange q → CombinationsGive b q
combinations_give b q range = record {
  rows = λ row. (answer_combined b (read b) (bounded b) range, combined_answer b (read b) (bounded b) range);
}

-- ---- the list of combinations

pub combinations_counted : (b : List ℕ) (o : Outcome) (Xs : List ℕ) → CombinationsCounted b o Xs
combinations_counted b o Xs = record { size = combinations_size b o Xs }

pub combinations_listed : (b : List ℕ) (q : Asking) → NamesInRange q → CombinationsListed b q
combinations_listed b q range = record {
  each = λ c. (
    of_combinations b q range,
    λ (p, e). Memᴰ.cast e (combinations_have b q p),
  );
  rows = λ row. (
    λ m.
        let (p, passes, e) = ((combinations_give b q range).rows row).0 (((answer_listed b q range).rows row).0 m) in (
          ways_picked q p,
          combinations_have b q p,
          record { combination = p; picked = refl; passes = passes; shows = e },
        ),
    λ (c, m, g).
        ((answer_listed b q range).rows row).1
        (((combinations_give b q range).rows row).1 (g.combination, g.passes, g.shows)),
  );
  one_row = λ c row other. one_row_law b q range;
}

pub combinations_ordered : (b : List ℕ) (Xs : List ℕ) → CombinationsOrdered b Xs
combinations_ordered b Xs = record {
  once = combinations_once b Xs;
  in_order = combinations_in_order b Xs;
  only = combinations_only b Xs;
}

-- ---- cells that fit

pub answer_fits : (b : List ℕ) (q : Asking) → NamesInRange q → AnswerFits b q
answer_fits b q range = record {
  rows = λ row. (answer_fits_query b (read b) (bounded b) range, fits_query_answer b (read b) (bounded b) range);
}

-- ---- kept sets of one object

pub one_kept_set : (X : ℕ) (F : Family) → OneKeptSet X F
one_kept_set X F = record { at_most_one = λ s K L. one_kept X F }

-- ---- the number

pub answer_number_means : (b q : List ℕ) (serial room : ℕ) → AnswerNumberMeans b q serial room
answer_number_means b q serial room = record {
  of_book = λ n. number_of_book b q serial room;
  of_query = λ n. number_of_query b q serial room;
  fourteen = number_fourteen b q serial room;
  thirteen = number_thirteen b q serial room;
  full = number_full b q serial room;
  otherwise = λ n. number_otherwise b q serial room;
  one_of = number_one_of b q serial room;
  not_eight = number_not_eight b q serial room;
}

-- ---- why it is refused

pub refusal_numbered : (b q : List ℕ) (serial room : ℕ) → RefusalNumbered b q serial room
refusal_numbered b q serial room = record { numbered = refusal_number b q serial room }

-- ---- demand 1

-- the rows have as many cells as there are items
rows_wide : (b q : List ℕ) → AllWide (item_count b q) (rows_answered b q)
unfolding rows_answered item_kinds
rows_wide b q r m =
    let k : Asking = (query_read (read b) q).asking in
    ((answer_listed b k (names_in_range b q)).of_kinds.each r m).wide ∙ length-map k.items (kind_of (read b))

pub demand1 : (b q : List ℕ) (serial : ℕ) (space : List ℕ) → Demand1 b q serial space
demand1 b q serial space = record {
  there = outcome_there b q serial space;
  only = λ a after. outcome_only b q serial space;
  as_many = cells_as_many b q serial space (rows_wide b q);
  front = rows_in_front b q serial space (rows_wide b q);
  behind = cells_behind b q serial space (rows_wide b q);
}

-- ---- promise e

pub promise_e : (b : List ℕ) → (read b).number ≡ 0 → (M : ℕ) → Memᴰ M (maximal_of (read b).scheme) → (X : ℕ)
    → (a : ℕ) × (a ∈ X) → X ⊆ attributes_of (read b).scheme.sets M → PromiseE b M X
promise_e b z M m X some inside =
    let due = ((maximal_objects_of_book b).good z M m).demand3 X some inside in
    record {
      demand3 = due;
      kept = tables_kept b (read b) M X;
      shown = λ K row. (of_shown_row b (read b) M, λ (k, s, m). row_of_object b (read b) M s m);
      part = λ row. (
        λ j.
            let f = part_fits b (read b) (bounded b) inside (record { joined = j }) in
            (f.cells, f.fits, f.shows),
        λ (at, f, e). (fits_part b (read b) (bounded b) inside f e).joined,
      );
    }
