use Rattle.worked_runs.proofs.Breaking.{exchanged}
use Rattle.worked_runs.proofs.worked.flushes_in_another_order.Goals as goal

pub returns : goal.returns
returns c = exchanged
