use Rattle.flush_view.proofs.InLog.{legal_with_ends, flushes_in_log}
use Rattle.flush_view.proofs.laws.flushes_in_log.Goals as goal

pub returns : goal.returns
returns c = record { legal = legal_with_ends; flushes = flushes_in_log }
