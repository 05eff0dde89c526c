use Rattle.worked_runs.proofs.Breaking.{early_gauge}
use Rattle.worked_runs.proofs.worked.a_gauge_before_it_was_made.Goals as goal

pub returns : goal.returns
returns c = early_gauge
