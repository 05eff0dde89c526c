use Rattle.flush_view.proofs.Ends.{ends_of_workers}
use Rattle.flush_view.proofs.laws.ends_of_workers.Goals as goal

pub returns : goal.returns
returns c = ends_of_workers
