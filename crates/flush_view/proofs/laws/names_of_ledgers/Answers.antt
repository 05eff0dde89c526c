use Rattle.flush_view.proofs.LedgerNames.{names_of_ledgers}
use Rattle.flush_view.proofs.laws.names_of_ledgers.Goals as goal

pub returns : goal.returns
returns c = names_of_ledgers
