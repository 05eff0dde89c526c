use Rattle.worked_runs.proofs.Breaking.{displaced}
use Rattle.worked_runs.proofs.worked.a_place_that_falls.Goals as goal

pub returns : goal.returns
returns c = displaced
