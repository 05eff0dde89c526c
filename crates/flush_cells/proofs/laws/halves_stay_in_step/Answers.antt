use Rattle.flush_cells.proofs.InStep.{stay-in-step}
use Rattle.flush_cells.proofs.laws.halves_stay_in_step.Goals as goal

pub returns : goal.returns
returns c = stay-in-step
