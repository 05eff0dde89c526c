use Rattle.ledger.proofs.OneEvent.{acked_once}
use Rattle.ledger.proofs.laws.one_way.Goals as goal

pub returns : goal.returns
returns c = λ rules s seat e one other made others packed a steps b later. acked_once rules seat s e one other made others packed a steps b later
