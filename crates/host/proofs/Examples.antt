-- Worked examples: what the definitions give beside what the paper and docs/REFUSALS.md say.
-- In order: the four results of an answer, the result of bytes that are given, statuses, the words of each number.
-- Assumes nothing.
use mathlib.Core.Path.{◌≡◌, refl}
use mathlib.Core.List.{List, [], ◌∷◌, map}
use Prim.Native.Nat.{ℕ}
use Rattle.std.proofs.Common.{Ok, Err, None}
use lib.ListN.{length, get_or, replicate}
use Rattle.refusals.specs.Refusals.{refusals, refusal_of_number}
use Rattle.connection.specs.Answering.{refused}
use Rattle.printout.specs.declared.Unprinted.TheVariants.{NoRoom, NotFit}
use Rattle.host.specs.Results.{answer_cells, answer_status, give_status, give_results, given_status, given_results}
use Rattle.host.specs.Results.{sheet_status, sheet_results}
use Rattle.host.specs.Words.{words, words_of}

-- the first letter of a number's words and how many bytes they are
unfoldable pub letter : ℕ → List ℕ
letter n = get_or (words_of n) 0 0 ∷ length (words_of n) ∷ []

pub record Trial : Type 0 where
  pub gives : List ℕ
  pub says : List ℕ

unfoldable pub trials : List Trial
trials =
    -- "A refusal returns its number, row count 0, the serial unchanged and 0 query bytes read."
    record { gives = answer_cells (refused 13 5); says = 13 ∷ 0 ∷ 5 ∷ 0 ∷ [] }
    -- "A full answer returns the row count, the serial plus one and the bytes of query read"
    ∷ record {
      gives = answer_cells (record { refusal = None; rows = 2; serial = 6; read = 7 });
      says = 0 ∷ 2 ∷ 6 ∷ 7 ∷ [];
    }
    -- bytes that are given: how many they are, and the other results as they were
    ∷ record { gives = given_results (Ok 3) (77 ∷ 88 ∷ []); says = 3 ∷ 88 ∷ [] }
    ∷ record { gives = given_results (Err NoRoom) (77 ∷ 88 ∷ []); says = 77 ∷ 88 ∷ [] }
    ∷ record { gives = given_results (Err NotFit) (77 ∷ 88 ∷ []); says = 77 ∷ 88 ∷ [] }
    ∷ record { gives = given_results (Ok 3) []; says = [] }
    -- a sheet: its number, in a place of its own
    ∷ record { gives = sheet_results 19 (77 ∷ 88 ∷ []); says = 19 ∷ 88 ∷ [] }
    ∷ record { gives = sheet_status [] ∷ sheet_status (7 ∷ []) ∷ []; says = 1 ∷ 0 ∷ [] }
    -- statuses: of an answer with three, four and five results; of bytes with no result, and with one
    ∷ record {
      gives =
          answer_status (replicate 3 7) ∷ answer_status (replicate 4 7) ∷ answer_status (replicate 5 7) ∷ [];
      says = 1 ∷ 0 ∷ 0 ∷ [];
    }
    ∷ record {
      gives =
          given_status (Ok 3) [] ∷ given_status (Err NoRoom) [] ∷ given_status (Err NotFit) [] ∷ given_status (Ok 3) (7 ∷ [])
          ∷ given_status (Err NoRoom) (7 ∷ []) ∷ given_status (Err NotFit) (7 ∷ []) ∷ [];
      says = 1 ∷ 1 ∷ 1 ∷ 0 ∷ 1 ∷ 2 ∷ [];
    }
    -- the table of docs/REFUSALS.md
    ∷ record { gives = letter 1; says = 116 ∷ 14 ∷ [] }  -- too many bytes
    ∷ record { gives = letter 2; says = 107 ∷ 16 ∷ [] }  -- kind not allowed
    ∷ record { gives = letter 3; says = 114 ∷ 16 ∷ [] }  -- record cut short
    ∷ record { gives = letter 4; says = 116 ∷ 20 ∷ [] }  -- too many of its kind
    ∷ record { gives = letter 5; says = 102 ∷ 18 ∷ [] }  -- field out of range
    ∷ record { gives = letter 6; says = 100 ∷ 16 ∷ [] }  -- declared already
    ∷ record { gives = letter 7; says = 110 ∷ 12 ∷ [] }  -- not declared
    ∷ record { gives = letter 8; says = 0 ∷ 0 ∷ [] }
    ∷ record { gives = letter 9; says = 99 ∷ 25 ∷ [] }  -- cycle in a maximal object
    ∷ record { gives = letter 10; says = 110 ∷ 7 ∷ [] }  -- no item
    ∷ record { gives = letter 11; says = 111 ∷ 20 ∷ [] }  -- operator not allowed
    ∷ record { gives = letter 12; says = 110 ∷ 13 ∷ [] }  -- no connection
    ∷ record { gives = letter 13; says = 115 ∷ 15 ∷ [] }  -- space too small
    ∷ record { gives = letter 14; says = 108 ∷ 18 ∷ [] }  -- last serial number
    ∷ record { gives = letter 18; says = 115 ∷ 23 ∷ [] }  -- sheet cannot be printed
    ∷ record { gives = letter 19; says = 110 ∷ 20 ∷ [] }  -- no such sheet number
    ∷ record { gives = letter 20; says = 119 ∷ 22 ∷ [] }  -- wrong comparison table
    ∷ record { gives = letter 21; says = 107 ∷ 23 ∷ [] }  -- kinds 6 and 14 together
    ∷ []

pub trials_hold : map (λ t. t.gives) trials ≡ map (λ t. t.says) trials
unfolding trials letter words answer_cells refused refusal_of_number refusals answer_status give_status give_results given_status given_results
    sheet_status sheet_results
trials_hold = refl
