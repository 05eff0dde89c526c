use Rattle.worked_runs.proofs.Breaking.{fewer_flushes}
use Rattle.worked_runs.proofs.worked.a_flush_too_few.Goals as goal

pub returns : goal.returns
returns c = fewer_flushes
