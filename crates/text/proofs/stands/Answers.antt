-- `text::stands` meets its contract. Byte by byte (`begins_is`).
-- Assumes nothing.
use Rattle.text.proofs.Scanning.{begins_is}
use Rattle.text.proofs.stands.Goals as goal

pub returns : goal.returns
returns c = begins_is c.args.s.now c.args.text.now c.args.at _ c.starts_with.ensures.value
