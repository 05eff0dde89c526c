use Rattle.worked_runs.proofs.Breaking.{moved}
use Rattle.worked_runs.proofs.worked.a_part_of_another_worker.Goals as goal

pub returns : goal.returns
returns c = moved
