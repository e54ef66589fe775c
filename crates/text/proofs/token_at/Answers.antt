-- `text::token_at` meets its contract. Behind the spaces, by the first byte (`Finding`).
-- Assumes nothing.
use Rattle.text.proofs.Finding.{token_end, at_capital, at_dotted, at_digit, at_minus, at_other, dot_inside}
use Rattle.text.proofs.token_at.Goals.{in_default-b-via-then-b-lt48, in_default-b-via-else-b-lt48+else-b-lt58+then-b-lt65, in_default-b-via-else-b-lt48+else-b-lt58+else-b-lt65+else-b-lt91+then-b-lt97, in_default-b-via-in-97-to-122+else-byte_at-eq46, in_default-b-via-else-b-lt48+else-b-lt58+else-b-lt65+else-b-lt91+else-b-lt97+else-b-lt123}
use borrow.Author.Rules.{rules}
use Rattle.text.proofs.token_at.Goals as goal

pub returns-in_default : goal.returns-in_default
returns-in_default c = search (rules, token_end)

pub returns-in-65-to-90 : goal.returns-in-65-to-90
returns-in-65-to-90 c = search (rules, at_capital)

pub item-requires-in-97-to-122 : goal.item-requires-in-97-to-122
item-requires-in-97-to-122 c = search (rules, dot_inside)

pub returns-in-97-to-122 : goal.returns-in-97-to-122
returns-in-97-to-122 c = search (rules, at_dotted)

pub returns-in-48-to-57 : goal.returns-in-48-to-57
returns-in-48-to-57 c = search (rules, at_digit)

pub returns-in-45 : goal.returns-in-45
returns-in-45 c = search (rules, at_minus)

pub returns-in_default-b : goal.returns-in_default-b
returns-in_default-b c =
    elim c.in_default-b.branch [
      | in_default-b-via-then-b-lt48 w ↦ search (rules, at_other)
      | in_default-b-via-else-b-lt48+else-b-lt58+then-b-lt65 w ↦ search (rules, at_other)
      | in_default-b-via-else-b-lt48+else-b-lt58+else-b-lt65+else-b-lt91+then-b-lt97 w ↦ search (rules, at_other)
      | in_default-b-via-in-97-to-122+else-byte_at-eq46 w ↦ search (rules, at_other)
      | in_default-b-via-else-b-lt48+else-b-lt58+else-b-lt65+else-b-lt91+else-b-lt97+else-b-lt123 w ↦ search (rules, at_other)
    ]
