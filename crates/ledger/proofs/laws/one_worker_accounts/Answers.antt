use Rattle.ledger.proofs.OneWorker.{accounts}
use Rattle.ledger.proofs.laws.one_worker_accounts.Goals as goal

pub returns : goal.returns
returns c = accounts
