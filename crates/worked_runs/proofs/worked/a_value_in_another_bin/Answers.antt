use Rattle.worked_runs.proofs.Breaking.{another_bin}
use Rattle.worked_runs.proofs.worked.a_value_in_another_bin.Goals as goal

pub returns : goal.returns
returns c = another_bin
