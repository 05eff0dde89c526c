use Rattle.std.proofs.Common.{ap}
use Rattle.flush_view.specs.Output.{output}
use Rattle.flush_view.proofs.laws.no_end_shown.Goals as goal

pub returns : goal.returns
returns c = λ text rules symbols one other same. ap (λ report. output text rules symbols report) same
