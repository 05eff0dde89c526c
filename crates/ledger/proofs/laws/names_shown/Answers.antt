use Rattle.ledger.proofs.Names.{kinds, deltas}
use Rattle.ledger.proofs.laws.names_shown.Goals as goal

pub returns : goal.returns
returns c = record { kinds = kinds; deltas = deltas }
