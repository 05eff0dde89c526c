use Rattle.std.proofs.Common.{◌≡◌, ◌++◌, length, All}
use Rattle.std.specs.List.{flat_map}
use Rattle.metric_words.specs.GaugeLedger.{gauges_id, gauge_known, gauge_all}
use Rattle.metric_words.proofs.gauge_bank.GaugeBank.gather.Given as goal

abbrev pub invariant-loop-worker : goal.invariant-loop-worker
invariant-loop-worker l =
    (l.all.table_id ≡ gauges_id l.self) × (length l.all.me.1 ≡ 0)
    × (flat_map gauge_all l.workers.items ++ l.all.me.0.parts ≡ flat_map gauge_all l.fn.seats.workers.items ++ gauge_all l.fn.seats.reader)
    × All (λ w. (gauge_known w).bank ≡ gauges_id l.self) l.workers.items

abbrev pub decreases-loop-worker : goal.decreases-loop-worker
decreases-loop-worker l = goal.left-loop-worker l
