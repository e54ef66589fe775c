-- What is proved of the printout. The proofs are in `proofs/Theorems.antt`.
-- In order: numbers in decimal, cells, what a text says, fit to print and its bounds, what printing gives, room.
-- Assumes nothing.
use Rattle.std.specs.Prelude.{◌≡◌, true, ◌↔◌, List, [], ◌∷◌, ◌++◌, Ok, Err, ℕ, ◌+◌, ◌*◌, ◌/◌, ◌%◌, ◌^◌, ◌≤◌, ◌<◌, ℤ, length, get_or, take, drop, replicate}
use Rattle.sorted.specs.Rows.{Row, OfKinds}
use Rattle.printout.specs.Decimal.{decimal, Numeral, number_of, integer_text, integer_of, cell_text}
use Rattle.printout.specs.Lines.{row_line, answer_text, book_refused, query_refused, FitToPrint, fits}
use Rattle.printout.specs.Printing.{printed, after, answer_printed, after_answer}
use Rattle.printout.specs.declared.Unprinted.TheVariants.{NoRoom, NotFit}

-- a number has one text in decimal: digits without a leading zero, and those that stand for it
pub record InDecimal : Type 0 where
  pub one_digit : (n : ℕ) → n < 10 → decimal n ≡ (48 + n) ∷ []
  pub more_digits : (n : ℕ) → 10 ≤ n → decimal n ≡ decimal (n / 10) ++ (48 + n % 10) ∷ []
  pub looks : (n : ℕ) → Numeral (decimal n)
  pub reads_back : (n : ℕ) → number_of (decimal n) ≡ n
  pub only : (digits : List ℕ) → Numeral digits → decimal (number_of digits) ≡ digits

-- the text of an integer can be read back; two cells of one kind with one text are the same cell
pub record CellsRead : Type 0 where
  pub reads_back : (z : ℤ) → integer_of (integer_text z) ≡ z
  pub apart : (kind : ℕ) {a b : ℕ} → a < 2 ^ 32 → b < 2 ^ 32 → cell_text kind a ≡ cell_text kind b → a ≡ b

-- a text says all that was printed, and what sort it is
pub record TextsRead : Type 0 where
  pub row : (kinds : List ℕ) (r q : Row) → OfKinds kinds r → OfKinds kinds q → row_line kinds r ≡ row_line kinds q → r ≡ q
  pub answer : (kinds cells cells' : List ℕ) (serial rows serial' rows' : ℕ) → FitToPrint rows kinds cells
      → FitToPrint rows' kinds cells' → answer_text serial rows kinds cells ≡ answer_text serial' rows' kinds cells'
      → (serial ≡ serial')
      × ((rows ≡ rows') × (take (rows * length kinds) cells ≡ take (rows * length kinds) cells'))
  pub book : (m n : ℕ) → book_refused m ≡ book_refused n → m ≡ n
  pub query : (m n : ℕ) → query_refused m ≡ query_refused n → m ≡ n
  pub answer_not_book : (serial rows : ℕ) (kinds cells : List ℕ) (n : ℕ)
      → ¬ (answer_text serial rows kinds cells ≡ book_refused n)
  pub answer_not_query : (serial rows : ℕ) (kinds cells : List ℕ) (n : ℕ)
      → ¬ (answer_text serial rows kinds cells ≡ query_refused n)
  pub book_not_query : (m n : ℕ) → ¬ (book_refused m ≡ query_refused n)

-- the tests pass exactly if the answer is "fit to print"
unfoldable pub FitTested : Type 0
FitTested = (rows : ℕ) (kinds cells : List ℕ) → (fits rows kinds cells ≡ true) ↔ FitToPrint rows kinds cells

-- the paper's numbers at their edges: "1 to 8 items of known value kinds, at most 999,999,999,999 rows"
pub record FitBounds : Type 0 where
  pub no_item : (rows : ℕ) (cells : List ℕ) → ¬ FitToPrint rows [] cells
  pub eight_items : FitToPrint 1 (0 ∷ 1 ∷ 2 ∷ 3 ∷ 0 ∷ 1 ∷ 2 ∷ 3 ∷ []) (0 ∷ 0 ∷ 0 ∷ 0 ∷ 0 ∷ 0 ∷ 0 ∷ 0 ∷ [])
  pub nine_items : (rows : ℕ) (kinds cells : List ℕ) → 9 ≤ length kinds → ¬ FitToPrint rows kinds cells
  pub four_is_no_kind : (rows : ℕ) (kinds cells : List ℕ) (j : ℕ) → j < length kinds → 4 ≤ get_or kinds j 0
      → ¬ FitToPrint rows kinds cells
  -- so many rows of one name, each 0
  pub most_rows : (rows : ℕ) → rows ≤ 999_999_999_999 → FitToPrint rows (0 ∷ []) (replicate rows 0)
  pub more_rows : (rows : ℕ) (kinds cells : List ℕ) → 1_000_000_000_000 ≤ rows → ¬ FitToPrint rows kinds cells

-- a text is printed whole, or there is no room for it and nothing changes
pub record TextPrinted (text bytes : List ℕ) : Type 0 where
  pub whole : length text ≤ length bytes
      → (printed text bytes ≡ Ok (length text)) × (after text bytes ≡ text ++ drop (length text) bytes)
  pub no_room : length bytes < length text → (printed text bytes ≡ Err NoRoom) × (after text bytes ≡ bytes)

-- an answer that is "fit to print" is printed as its text; of any other nothing is
pub record AnswerPrinted (serial rows : ℕ) (kinds cells bytes : List ℕ) : Type 0 where
  pub fit : FitToPrint rows kinds cells
      → (answer_printed serial rows kinds cells bytes ≡ printed (answer_text serial rows kinds cells) bytes)
      × (after_answer serial rows kinds cells bytes ≡ after (answer_text serial rows kinds cells) bytes)
  pub not_fit : ¬ FitToPrint rows kinds cells
      → (answer_printed serial rows kinds cells bytes ≡ Err NotFit) × (after_answer serial rows kinds cells bytes ≡ bytes)

-- `ROOM` is enough for each answer in 8,192 cells, and 18 bytes for each refusal
pub record RoomEnough : Type 0 where
  pub answer : (serial rows : ℕ) (kinds cells : List ℕ) → serial < 2 ^ 32 → FitToPrint rows kinds cells
      → rows * length kinds ≤ 8192 → length (answer_text serial rows kinds cells) ≤ 98327
  pub book : (n : ℕ) → n < 256 → length (book_refused n) ≤ 17
  pub query : (n : ℕ) → n < 256 → length (query_refused n) ≤ 18
