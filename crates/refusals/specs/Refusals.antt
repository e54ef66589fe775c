-- The fixed list of refusals and their numbers: `docs/REFUSALS.md` has the same table.
-- In order: the number of a refusal, the refusal with a number, what is proved of the two.
-- Assumes nothing.
use Rattle.std.specs.Prelude.{◌≡◌, List, [], ◌∷◌, ℕ, Option, None, Some, Result, Ok, Err, get_or}
use Rattle.refusals.specs.declared.Refusal.{Refusal}
use Rattle.refusals.specs.declared.Refusal.TheVariants.{TooManyBytes, KindNotAllowed, CutShort, TooManyOfItsKind, OutOfRange, DeclaredAlready, NotDeclared, CyclicMaximalObject, NoItem, OperatorNotAllowed, NoConnection, SpaceTooSmall, LastSerialNumber, SheetNotPrintable, NoSuchSheet, WrongComparisonTable, RemovedWithOnlyDeclared}

-- ---- the number of a refusal

abbrev pub number_of : Refusal → ℕ
number_of TooManyBytes = 1
number_of KindNotAllowed = 2
number_of CutShort = 3
number_of TooManyOfItsKind = 4
number_of OutOfRange = 5
number_of DeclaredAlready = 6
number_of NotDeclared = 7
number_of CyclicMaximalObject = 9
number_of NoItem = 10
number_of OperatorNotAllowed = 11
number_of NoConnection = 12
number_of SpaceTooSmall = 13
number_of LastSerialNumber = 14
number_of SheetNotPrintable = 18
number_of NoSuchSheet = 19
number_of WrongComparisonTable = 20
number_of RemovedWithOnlyDeclared = 21

-- of a refusal that may be none, and of a check that may refuse: 0 where there is none
abbrev pub number_of_any : Option Refusal → ℕ
number_of_any None = 0
number_of_any (Some r) = number_of r

abbrev pub number_of_check : {A : Type 0} → Result A Refusal → ℕ
number_of_check (Ok x) = 0
number_of_check (Err r) = number_of r

-- ---- the refusal with a number

-- from number 0 on: 8 is no longer given, and no refusal has 15 to 17
unfoldable pub refusals : List (Option Refusal)
refusals =
    None
    ∷ Some TooManyBytes
    ∷ Some KindNotAllowed
    ∷ Some CutShort
    ∷ Some TooManyOfItsKind
    ∷ Some OutOfRange
    ∷ Some DeclaredAlready
    ∷ Some NotDeclared
    ∷ None
    ∷ Some CyclicMaximalObject
    ∷ Some NoItem
    ∷ Some OperatorNotAllowed
    ∷ Some NoConnection
    ∷ Some SpaceTooSmall
    ∷ Some LastSerialNumber
    ∷ None ∷ None ∷ None
    ∷ Some SheetNotPrintable
    ∷ Some NoSuchSheet
    ∷ Some WrongComparisonTable
    ∷ Some RemovedWithOnlyDeclared
    ∷ []

unfoldable pub refusal_of_number : ℕ → Option Refusal
refusal_of_number n = get_or refusals n None

-- ---- what is proved of the two

-- each refusal is the one with its number, and no other number gives it
pub record NumberedExactly (r : Refusal) (n : ℕ) : Type 0 where
  pub of_its_number : refusal_of_number (number_of r) ≡ Some r
  pub its_number : refusal_of_number n ≡ Some r → n ≡ number_of r
