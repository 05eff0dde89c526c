use Rattle.worked_runs.proofs.Breaking.{fallen}
use Rattle.worked_runs.proofs.worked.a_reading_that_falls.Goals as goal

pub returns : goal.returns
returns c = fallen
