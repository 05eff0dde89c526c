use Rattle.worked_runs.proofs.Breaking.{behind_the_log}
use Rattle.worked_runs.proofs.worked.a_place_behind_the_log.Goals as goal

pub returns : goal.returns
returns c = behind_the_log
