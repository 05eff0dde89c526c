use Rattle.flush_cells.proofs.Least.{tells-least}
use Rattle.flush_cells.proofs.laws.a_pass_tells_the_least.Goals as goal

pub returns : goal.returns
returns c = tells-least
