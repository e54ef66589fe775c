-- Worked examples: what the definitions give beside what the request says, byte by byte.
-- In order: lines, a sheet, the bytes lent, how many sheets, the numbers.
-- Assumes nothing.
use mathlib.Core.Path.{◌≡◌, refl}
use mathlib.Core.List.{List, [], ◌∷◌, ◌++◌, map}
use Prim.Native.Nat.{ℕ}
use lib.ListN.{get_or, drop, replicate}
use Rattle.values.specs.Values.{missing, in_range, signed, value_of}
use Rattle.sorted.specs.Rows.{rows_in}
use Rattle.printout.specs.Decimal.{decimal_within, decimal, integer_text, value_text, cell_text}
use Rattle.printout.specs.Lines.{cell_texts, all_known, row_fits, rows_fit, fits}
use Rattle.sheets.specs.Sheets.{field_of, fields_of, rest_of, line_of, head_line, row_line, foot_line, row_lines}
use Rattle.sheets.specs.Sheets.{blank_lines}
use Rattle.sheets.specs.Sheets.{sheet_rows, lines_showing, sheet_lines, joined, sheet_text, sheet_count}
use Rattle.sheets.specs.Sheets.{unprintable, no_such_sheet, sheet_number, after_sheet}

-- as many spaces
abbrev spaces : ℕ → List ℕ
spaces n = replicate n 32

pub record Trial : Type 0 where
  pub gives : List ℕ
  pub says : List ℕ

unfoldable pub trials : List Trial
trials =
    -- the head line: the widest serial and the most rows
    record {
      gives = head_line 4294967295 999999999999;
      says =
          spaces 2 ++ 52 ∷ 50 ∷ 57 ∷ 52 ∷ 57 ∷ 54 ∷ 55 ∷ 50 ∷ 57 ∷ 53 ∷ 57 ∷ 57 ∷ 57 ∷ 57 ∷ 57 ∷ 57 ∷ 57 ∷ 57 ∷ 57 ∷
          57 ∷ 57 ∷ 57 ∷ spaces 72 ++ 10 ∷ [];
    }
    -- a row of each kind: a missing name, the lowest length, the highest angle, the highest date; "right-justified"
    ∷ record {
      gives = row_line (0 ∷ 1 ∷ 2 ∷ 3 ∷ []) (4294967295 ∷ 2147483649 ∷ 35999 ∷ 4294967294 ∷ []);
      says =
          spaces 11 ++ 45 ∷ 32 ∷ 45 ∷ 50 ∷ 49 ∷ 52 ∷ 55 ∷ 52 ∷ 56 ∷ 51 ∷ 54 ∷ 52 ∷ 55 ∷ spaces 7 ++ 51 ∷ 53 ∷ 57 ∷
          57 ∷ 57 ∷ spaces 2 ++ 52 ∷ 50 ∷ 57 ∷ 52 ∷ 57 ∷ 54 ∷ 55 ∷ 50 ∷ 57 ∷ 52 ∷ spaces 48 ++ 10 ∷ [];
    }
    -- eight items fill the line
    ∷ record {
      gives = row_line (0 ∷ 0 ∷ 0 ∷ 0 ∷ 0 ∷ 0 ∷ 0 ∷ 1 ∷ []) (1 ∷ 2 ∷ 3 ∷ 4 ∷ 5 ∷ 6 ∷ 7 ∷ 4294967295 ∷ []);
      says =
          spaces 11 ++ 49 ∷ spaces 11 ++ 50 ∷ spaces 11 ++ 51 ∷ spaces 11 ++ 52 ∷ spaces 11 ++ 53 ∷ spaces 11 ++ 54 ∷
          spaces 11 ++ 55 ∷ spaces 10 ++ 45 ∷ 49 ∷ 10 ∷ [];
    }
    -- the foot line
    ∷ record {
      gives = foot_line 26315789474;
      says = 32 ∷ 50 ∷ 54 ∷ 51 ∷ 49 ∷ 53 ∷ 55 ∷ 56 ∷ 57 ∷ 52 ∷ 55 ∷ 52 ∷ spaces 84 ++ 10 ∷ [];
    }
    -- the paper's third answer: the head line, its second row, the blank line behind its last row, the foot line
    ∷ record {
      gives = get_or (sheet_lines 3 4 (0 ∷ []) (10 ∷ 11 ∷ 12 ∷ 13 ∷ []) 1) 0 [];
      says = spaces 11 ++ 51 ∷ spaces 11 ++ 52 ∷ spaces 72 ++ 10 ∷ [];
    }
    ∷ record {
      gives = get_or (sheet_lines 3 4 (0 ∷ []) (10 ∷ 11 ∷ 12 ∷ 13 ∷ []) 1) 2 [];
      says = spaces 10 ++ 49 ∷ 49 ∷ spaces 84 ++ 10 ∷ [];
    }
    ∷ record {
      gives = get_or (sheet_lines 3 4 (0 ∷ []) (10 ∷ 11 ∷ 12 ∷ 13 ∷ []) 1) 5 [];
      says = spaces 96 ++ 10 ∷ [];
    }
    ∷ record {
      gives = get_or (sheet_lines 3 4 (0 ∷ []) (10 ∷ 11 ∷ 12 ∷ 13 ∷ []) 1) 39 [];
      says = spaces 11 ++ 49 ∷ spaces 84 ++ 10 ∷ [];
    }
    -- a byte past the sheet stays
    ∷ record {
      gives = drop 3879 (after_sheet 3 4 (0 ∷ []) (10 ∷ 11 ∷ 12 ∷ 13 ∷ []) 1 (replicate 3881 7));
      says = 10 ∷ 7 ∷ [];
    }
    -- rows of 0, 1, 38, 39, 76, 77 and the most: sheets
    ∷ record {
      gives = map sheet_count (0 ∷ 1 ∷ 38 ∷ 39 ∷ 76 ∷ 77 ∷ 999999999999 ∷ []);
      says = 1 ∷ 1 ∷ 1 ∷ 2 ∷ 2 ∷ 3 ∷ 26315789474 ∷ [];
    }
    -- spaces of 3,879, 3,880 and 3,881 bytes; sheet 0, the last, the one past it; 18 before 19; an angle of 36,000
    ∷ record {
      gives =
          sheet_number 1 (0 ∷ []) (5 ∷ []) 1 (replicate 3879 7)
          ∷ sheet_number 1 (0 ∷ []) (5 ∷ []) 1 (replicate 3880 7)
          ∷ sheet_number 1 (0 ∷ []) (5 ∷ []) 1 (replicate 3881 7)
          ∷ sheet_number 1 (0 ∷ []) (5 ∷ []) 0 (replicate 3880 7)
          ∷ sheet_number 39 (0 ∷ []) (replicate 39 5) 2 (replicate 3880 7)
          ∷ sheet_number 39 (0 ∷ []) (replicate 39 5) 3 (replicate 3880 7)
          ∷ sheet_number 1 (0 ∷ []) (5 ∷ []) 0 (replicate 3879 7)
          ∷ sheet_number 39 (2 ∷ []) (36000 ∷ replicate 38 5) 2 (replicate 3880 7)
          ∷ sheet_number 0 (0 ∷ []) [] 1 (replicate 3880 7)
          ∷ [];
      says = 18 ∷ 0 ∷ 0 ∷ 19 ∷ 0 ∷ 19 ∷ 18 ∷ 18 ∷ 0 ∷ [];
    }
    ∷ []

pub trials_hold : map (λ t. t.gives) trials ≡ map (λ t. t.says) trials
unfolding trials decimal_within decimal integer_text value_text cell_text cell_texts all_known row_fits rows_fit fits missing
    in_range
    signed value_of rows_in field_of fields_of rest_of line_of row_lines blank_lines sheet_rows lines_showing sheet_lines joined
    sheet_text sheet_count unprintable no_such_sheet sheet_number after_sheet
trials_hold = refl
