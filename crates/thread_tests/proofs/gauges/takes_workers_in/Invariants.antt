use Rattle.std.proofs.Common.{◌≡◌, ◌+◌, ◌≤◌, length, All}
use Rattle.metric_words.specs.GaugeLedger.{gauges_id, gauges_workers, gauge_known}
use Rattle.thread_tests.proofs.gauges.takes_workers_in.Given as goal

abbrev pub invariant-loop-worker : goal.invariant-loop-worker
invariant-loop-worker g l =
    ((gauge_known l.flusher).bank ≡ gauges_id l.bank) × (gauges_workers l.bank ≤ length l.workers.items + length (gauge_known l.flusher).taken)
    × All (λ w. (gauge_known w).bank ≡ gauges_id l.bank) l.workers.items

abbrev pub decreases-loop-worker : goal.decreases-loop-worker
decreases-loop-worker g l = goal.left-loop-worker g l
