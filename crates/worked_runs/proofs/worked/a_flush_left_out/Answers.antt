use Rattle.worked_runs.proofs.Breaking.{joined}
use Rattle.worked_runs.proofs.worked.a_flush_left_out.Goals as goal

pub returns : goal.returns
returns c = joined
