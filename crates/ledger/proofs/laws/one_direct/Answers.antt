use Rattle.ledger.proofs.Contents.{one_direct}
use Rattle.ledger.proofs.laws.one_direct.Goals as goal

pub returns : goal.returns
returns c = one_direct
