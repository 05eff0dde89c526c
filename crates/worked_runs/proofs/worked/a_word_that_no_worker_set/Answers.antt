use Rattle.worked_runs.proofs.Breaking.{unset}
use Rattle.worked_runs.proofs.worked.a_word_that_no_worker_set.Goals as goal

pub returns : goal.returns
returns c = unset
