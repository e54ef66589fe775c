-- Worked examples: what the definitions give beside what the paper says, byte by byte.
-- In order: the printout of the paper's three queries, no rows, cells of each kind, refusals, the bytes lent.
-- Assumes nothing.
use mathlib.Core.Path.{◌≡◌, refl}
use mathlib.Core.List.{List, [], ◌∷◌, map}
use Prim.Native.Nat.{ℕ}
use Rattle.values.specs.Values.{missing, in_range, signed, value_of}
use Rattle.sorted.specs.Rows.{rows_in}
use Rattle.printout.specs.Decimal.{decimal_within, decimal, integer_text, value_text, cell_text}
use Rattle.printout.specs.Lines.{behind, line, cell_texts, row_line, row_lines, head_line, answer_text}
use Rattle.printout.specs.Lines.{book_refused, query_refused, all_known, row_fits, rows_fit, fits}
use Rattle.printout.specs.Printing.{after, after_answer}

pub record Trial : Type 0 where
  pub gives : List ℕ
  pub says : List ℕ

unfoldable pub trials : List Trial
trials =
    -- the first query of the paper, `Q 1 rows 2`: LEAD, TRIP
    record {
      gives = answer_text 1 2 (0 ∷ 0 ∷ []) (501 ∷ 7 ∷ 502 ∷ 7 ∷ []);
      says =
          81 ∷ 32 ∷ 49 ∷ 32 ∷ 114 ∷ 111 ∷ 119 ∷ 115 ∷ 32 ∷ 50 ∷ 10 ∷
          53 ∷ 48 ∷ 49 ∷ 32 ∷ 55 ∷ 10 ∷
          53 ∷ 48 ∷ 50 ∷ 32 ∷ 55 ∷ 10 ∷ [];
    }
    -- the second: "the same where DEPTH is at most -1000"
    ∷ record {
      gives = answer_text 2 1 (0 ∷ 0 ∷ []) (501 ∷ 7 ∷ []);
      says =
          81 ∷ 32 ∷ 50 ∷ 32 ∷ 114 ∷ 111 ∷ 119 ∷ 115 ∷ 32 ∷ 49 ∷ 10 ∷
          53 ∷ 48 ∷ 49 ∷ 32 ∷ 55 ∷ 10 ∷ [];
    }
    -- the third: STATION
    ∷ record {
      gives = answer_text 3 3 (0 ∷ []) (10 ∷ 11 ∷ 12 ∷ []);
      says =
          81 ∷ 32 ∷ 51 ∷ 32 ∷ 114 ∷ 111 ∷ 119 ∷ 115 ∷ 32 ∷ 51 ∷ 10 ∷
          49 ∷ 48 ∷ 10 ∷
          49 ∷ 49 ∷ 10 ∷
          49 ∷ 50 ∷ 10 ∷ [];
    }
    -- no rows: the cells are not looked at
    ∷ record {
      gives = answer_text 4294967295 0 (2 ∷ []) (7 ∷ []);
      says =
          81 ∷ 32 ∷ 52 ∷ 50 ∷ 57 ∷ 52 ∷ 57 ∷ 54 ∷ 55 ∷ 50 ∷ 57 ∷ 53 ∷ 32 ∷ 114 ∷ 111 ∷ 119 ∷ 115 ∷ 32 ∷ 48 ∷
          10 ∷ [];
    }
    -- "lengths may have a minus": -900, the lowest length, 0 and the highest
    ∷ record {
      gives = row_line (1 ∷ 1 ∷ 1 ∷ 1 ∷ []) (4294966396 ∷ 2147483649 ∷ 0 ∷ 2147483647 ∷ []);
      says =
          45 ∷ 57 ∷ 48 ∷ 48 ∷ 32 ∷ 45 ∷ 50 ∷ 49 ∷ 52 ∷ 55 ∷ 52 ∷ 56 ∷ 51 ∷ 54 ∷ 52 ∷ 55 ∷ 32 ∷ 48 ∷ 32 ∷ 50 ∷
          49 ∷ 52 ∷ 55 ∷ 52 ∷ 56 ∷ 51 ∷ 54 ∷ 52 ∷ 55 ∷ 10 ∷ [];
    }
    -- the same cell as a name, a length and a date
    ∷ record {
      gives = row_line (0 ∷ 1 ∷ 3 ∷ []) (4294967294 ∷ 4294967294 ∷ 4294967294 ∷ []);
      says =
          52 ∷ 50 ∷ 57 ∷ 52 ∷ 57 ∷ 54 ∷ 55 ∷ 50 ∷ 57 ∷ 52 ∷ 32 ∷ 45 ∷ 50 ∷ 32 ∷ 52 ∷ 50 ∷ 57 ∷ 52 ∷ 57 ∷ 54 ∷
          55 ∷ 50 ∷ 57 ∷ 52 ∷ 10 ∷ [];
    }
    -- request 5: a missing cell of each kind "prints as `-`"; the length -1 is none
    ∷ record {
      gives = row_line (0 ∷ 1 ∷ 1 ∷ 2 ∷ 3 ∷ []) (4294967295 ∷ 2147483648 ∷ 4294967295 ∷ 4294967295 ∷ 4294967295 ∷ []);
      says = 45 ∷ 32 ∷ 45 ∷ 32 ∷ 45 ∷ 49 ∷ 32 ∷ 45 ∷ 32 ∷ 45 ∷ 10 ∷ [];
    }
    -- an angle
    ∷ record {
      gives = row_line (2 ∷ []) (35999 ∷ []);
      says = 51 ∷ 53 ∷ 57 ∷ 57 ∷ 57 ∷ 10 ∷ [];
    }
    -- "A refused book prints `book refused N` only"
    ∷ record {
      gives = book_refused 9;
      says = 98 ∷ 111 ∷ 111 ∷ 107 ∷ 32 ∷ 114 ∷ 101 ∷ 102 ∷ 117 ∷ 115 ∷ 101 ∷ 100 ∷ 32 ∷ 57 ∷ 10 ∷ [];
    }
    -- "a refused query `query refused N`"
    ∷ record {
      gives = query_refused 12;
      says = 113 ∷ 117 ∷ 101 ∷ 114 ∷ 121 ∷ 32 ∷ 114 ∷ 101 ∷ 102 ∷ 117 ∷ 115 ∷ 101 ∷ 100 ∷ 32 ∷ 49 ∷ 50 ∷ 10 ∷ [];
    }
    -- the bytes behind the text stay
    ∷ record {
      gives = after_answer 1 1 (0 ∷ []) (5 ∷ []) (9 ∷ 9 ∷ 9 ∷ 9 ∷ 9 ∷ 9 ∷ 9 ∷ 9 ∷ 9 ∷ 9 ∷ 9 ∷ 9 ∷ 9 ∷ 8 ∷ []);
      says =
          81 ∷ 32 ∷ 49 ∷ 32 ∷ 114 ∷ 111 ∷ 119 ∷ 115 ∷ 32 ∷ 49 ∷ 10 ∷
          53 ∷ 10 ∷
          8 ∷ [];
    }
    -- one byte short, and an angle over 35,999: all bytes stay
    ∷ record {
      gives = after_answer 1 1 (0 ∷ []) (5 ∷ []) (9 ∷ 9 ∷ 9 ∷ 9 ∷ 9 ∷ 9 ∷ 9 ∷ 9 ∷ 9 ∷ 9 ∷ 9 ∷ 9 ∷ []);
      says = 9 ∷ 9 ∷ 9 ∷ 9 ∷ 9 ∷ 9 ∷ 9 ∷ 9 ∷ 9 ∷ 9 ∷ 9 ∷ 9 ∷ [];
    }
    ∷ record {
      gives =
          after_answer 1 1 (2 ∷ []) (36000 ∷ []) (9 ∷ 9 ∷ 9 ∷ 9 ∷ 9 ∷ 9 ∷ 9 ∷ 9 ∷ 9 ∷ 9 ∷ 9 ∷ 9 ∷ 9 ∷ 9 ∷ 9 ∷ 9 ∷
          9 ∷ []);
      says = 9 ∷ 9 ∷ 9 ∷ 9 ∷ 9 ∷ 9 ∷ 9 ∷ 9 ∷ 9 ∷ 9 ∷ 9 ∷ 9 ∷ 9 ∷ 9 ∷ 9 ∷ 9 ∷ 9 ∷ [];
    }
    ∷ []

pub trials_hold : map (λ t. t.gives) trials ≡ map (λ t. t.says) trials
unfolding trials decimal_within decimal integer_text value_text cell_text behind line cell_texts row_lines head_line answer_text
    book_refused query_refused all_known row_fits rows_fit fits after after_answer missing in_range signed value_of rows_in
trials_hold = refl
