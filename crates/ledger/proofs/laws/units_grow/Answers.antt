use Rattle.ledger.proofs.Sums.{units_event, units_flush}
use Rattle.ledger.proofs.laws.units_grow.Goals as goal

pub returns : goal.returns
returns c = record { event = units_event; flush = units_flush }
