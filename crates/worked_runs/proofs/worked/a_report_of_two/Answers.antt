use Rattle.worked_runs.proofs.Breaking.{ledger}
use Rattle.worked_runs.proofs.worked.a_report_of_two.Goals as goal

pub returns : goal.returns
returns c = ledger
