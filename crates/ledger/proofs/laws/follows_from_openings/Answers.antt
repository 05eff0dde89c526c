use Rattle.ledger.proofs.Openings.{from_openings}
use Rattle.ledger.proofs.laws.follows_from_openings.Goals as goal

pub returns : goal.returns
returns c = from_openings
