use Rattle.worked_runs.proofs.Breaking.{without_counter}
use Rattle.worked_runs.proofs.worked.a_counter_left_out.Goals as goal

pub returns : goal.returns
returns c = without_counter
