use Rattle.worked_runs.proofs.Breaking.{beside}
use Rattle.worked_runs.proofs.worked.a_flush_beside_its_sweep.Goals as goal

pub returns : goal.returns
returns c = beside
