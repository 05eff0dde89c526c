use Rattle.std.proofs.Common.{refl}
use Rattle.envoy_stats.proofs.serve.Goals as goal

pub returns-in-Ok-clause-called : goal.returns-in-Ok-clause-called
returns-in-Ok-clause-called g c =
    rw (c.in-Ok.is) (c.envoy_stats_with-outcome.result, refl, rw c.deref.ensures.value at c.envoy_stats_with-outcome.ensures)
