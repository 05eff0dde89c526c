use Rattle.worked_runs.proofs.Breaking.{twice}
use Rattle.worked_runs.proofs.worked.units_counted_twice.Goals as goal

pub returns : goal.returns
returns c = twice
