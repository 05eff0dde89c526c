use Rattle.worked_runs.proofs.Breaking.{gauge_early}
use Rattle.worked_runs.proofs.worked.a_gauge_read_before_it_was_made.Goals as goal

pub returns : goal.returns
returns c = gauge_early
