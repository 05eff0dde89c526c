use Rattle.worked_runs.proofs.Breaking.{without_end}
use Rattle.worked_runs.proofs.worked.a_worker_without_an_end.Goals as goal

pub returns : goal.returns
returns c = without_end
