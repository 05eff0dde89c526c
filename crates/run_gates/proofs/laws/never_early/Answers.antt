use Rattle.run_gates.proofs.Packets.{never_early}
use Rattle.run_gates.proofs.laws.never_early.Goals as goal

pub returns : goal.returns
returns c = never_early
