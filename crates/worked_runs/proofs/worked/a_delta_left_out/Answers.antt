use Rattle.worked_runs.proofs.Breaking.{without_delta}
use Rattle.worked_runs.proofs.worked.a_delta_left_out.Goals as goal

pub returns : goal.returns
returns c = without_delta
