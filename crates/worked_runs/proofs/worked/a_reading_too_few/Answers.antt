use Rattle.worked_runs.proofs.Breaking.{fewer_reads}
use Rattle.worked_runs.proofs.worked.a_reading_too_few.Goals as goal

pub returns : goal.returns
returns c = fewer_reads
