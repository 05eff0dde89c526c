use Rattle.std.proofs.Common.{◌≡◌, ◌++◌, map}
use Rattle.std.specs.Vec.Iter.{into_iter_items}
use Rattle.metric_words.specs.Known.{with_parts}
use Rattle.metric_words.specs.CounterLedger.{flush_known, worker_part}
use Rattle.flush_words.proofs.counter_ends.take_workers.Given as goal

abbrev pub invariant-loop-worker : goal.invariant-loop-worker
invariant-loop-worker l =
    (l.fn.workers.items ≡ l.yielded ++ into_iter_items l.worker-iterator)
    × (flush_known l.flush ≡ with_parts (map worker_part l.yielded) (flush_known l.initial.flush))
