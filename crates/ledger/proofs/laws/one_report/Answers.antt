use Rattle.ledger.proofs.OneFlush.{one_report}
use Rattle.ledger.proofs.laws.one_report.Goals as goal

pub returns : goal.returns
returns c = λ contents others events plan one other a b. one_report plan events contents others one other a b
