use Rattle.worked_runs.proofs.Breaking.{made_up}
use Rattle.worked_runs.proofs.worked.a_reading_above_the_units.Goals as goal

pub returns : goal.returns
returns c = made_up
