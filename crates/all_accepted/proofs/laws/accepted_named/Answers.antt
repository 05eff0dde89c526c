use Rattle.all_accepted.proofs.Named.{accepted_named}
use Rattle.all_accepted.proofs.laws.accepted_named.Goals as goal

pub returns : goal.returns
returns c = accepted_named
