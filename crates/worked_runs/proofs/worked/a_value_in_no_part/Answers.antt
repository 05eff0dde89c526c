use Rattle.worked_runs.proofs.Breaking.{lost}
use Rattle.worked_runs.proofs.worked.a_value_in_no_part.Goals as goal

pub returns : goal.returns
returns c = lost
