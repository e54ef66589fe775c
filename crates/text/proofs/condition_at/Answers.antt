-- `text::condition_at` meets its contract. The parser of `or` from the first word on (`condition_shows`).
-- Assumes nothing.
use Rattle.text.proofs.Parsers.{condition_shows}
use Rattle.text.proofs.condition_at.Goals as goal

pub returns : goal.returns
returns c = condition_shows _ _ _ _ _ c.or_at.ensures
