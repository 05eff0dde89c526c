use Rattle.std.proofs.Common.{arith}
use Rattle.std.proofs.lemmas.Grind.{common_steps}
use Rattle.std.proofs.lemmas.List.FromFn.{length-enumerate_from}
use Rattle.flush_view.proofs.Picked.{enumerate_from-push}
use Rattle.flush_view.proofs.naming.numbered.Goals as goal

pub loop-metric-preserved : goal.loop-metric-preserved
loop-metric-preserved c = grind (arith, common_steps, enumerate_from-push, length-enumerate_from)
