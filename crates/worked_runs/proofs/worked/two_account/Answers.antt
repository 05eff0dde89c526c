use Rattle.worked_runs.proofs.Accounted.{two_account}
use Rattle.worked_runs.proofs.worked.two_account.Goals as goal

pub returns : goal.returns
returns c = two_account
