use Rattle.same_output.proofs.WorkedParts.{three_independent}
use Rattle.same_output.proofs.laws.three_independent.Goals as goal

pub returns : goal.returns
returns c = three_independent
