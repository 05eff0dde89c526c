use Rattle.load_run.proofs.ViewsTold.{summaries_same}
use Rattle.load_run.proofs.laws.same_summary.Goals as goal

pub returns : goal.returns
returns c = summaries_same c.same_output.ensures
