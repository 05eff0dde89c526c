use Rattle.std.proofs.Common.{◌≡◌, ◌+◌, length, All}
use Rattle.metric_words.specs.CounterLedger.{bank_id, workers_of, worker_known, flush_known}
use Rattle.thread_tests.proofs.counters.takes_workers_in.Given as goal

abbrev pub invariant-loop-worker : goal.invariant-loop-worker
invariant-loop-worker g l =
    ((flush_known l.flusher).bank ≡ bank_id l.bank) × (length l.workers.items + length (flush_known l.flusher).taken ≡ workers_of l.bank)
    × All (λ w. (worker_known w).bank ≡ bank_id l.bank) l.workers.items

abbrev pub decreases-loop-worker : goal.decreases-loop-worker
decreases-loop-worker g l = goal.left-loop-worker g l
