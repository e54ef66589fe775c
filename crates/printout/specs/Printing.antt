-- What printing gives, for all inputs: the answer of the call, and every one of the bytes lent to it afterwards.
-- In order: bytes written in their place, a text, an answer.
-- Assumes nothing.
use Rattle.std.specs.Prelude.{true, false, List, ◌++◌, ℕ, ◌+◌, Result, Ok, Err, leb, length, take, drop}
use Rattle.printout.specs.Lines.{answer_text, fits}
use Rattle.printout.specs.declared.Unprinted.{Unprinted}
use Rattle.printout.specs.declared.Unprinted.TheVariants.{NoRoom, NotFit}

-- ---- bytes written in their place

-- the bytes with a text written over those from `at` on; all others as they were
unfoldable pub written : ℕ → List ℕ → List ℕ → List ℕ
written at text bytes = take at bytes ++ (text ++ drop (at + length text) bytes)

-- ---- a text: the whole of it, or nothing where it is longer than the bytes

-- how many bytes were printed, or why none was
abbrev pub Printed : Type 0
Printed = Result ℕ Unprinted

unfoldable pub printed : List ℕ → List ℕ → Printed
printed text bytes = elim (leb (length text) (length bytes)) [ true ↦ Ok (length text) | false ↦ Err NoRoom ]

unfoldable pub after : List ℕ → List ℕ → List ℕ
after text bytes =
    elim (leb (length text) (length bytes)) [ true ↦ text ++ drop (length text) bytes | false ↦ bytes ]

-- ---- an answer: nothing is written of one that is not fit to print

unfoldable pub answer_printed : ℕ → ℕ → List ℕ → List ℕ → List ℕ → Printed
answer_printed serial rows kinds cells bytes =
    elim (fits rows kinds cells) [ true ↦ printed (answer_text serial rows kinds cells) bytes | false ↦ Err NotFit ]

unfoldable pub after_answer : ℕ → ℕ → List ℕ → List ℕ → List ℕ → List ℕ
after_answer serial rows kinds cells bytes =
    elim (fits rows kinds cells) [ true ↦ after (answer_text serial rows kinds cells) bytes | false ↦ bytes ]
