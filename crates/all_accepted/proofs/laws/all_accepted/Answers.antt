use Rattle.all_accepted.proofs.AllAccepted.{accepted_by_run, accepted_by_replay}
use Rattle.all_accepted.proofs.laws.all_accepted.Goals as goal

pub returns : goal.returns
returns c = record { run = accepted_by_run; replay = accepted_by_replay }
