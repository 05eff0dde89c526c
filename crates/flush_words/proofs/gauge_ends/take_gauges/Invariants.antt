use Rattle.std.proofs.Common.{◌≡◌, ◌++◌, flat_map}
use Rattle.std.specs.Vec.Iter.{into_iter_items}
use Rattle.metric_words.specs.Known.{with_parts}
use Rattle.metric_words.specs.GaugeLedger.{gauge_known, gauge_all}
use Rattle.flush_words.proofs.gauge_ends.take_gauges.Given as goal

abbrev pub invariant-loop-other : goal.invariant-loop-other
invariant-loop-other l =
    (l.fn.others.items ≡ l.yielded ++ into_iter_items l.other-iterator)
    × (gauge_known l.seat ≡ with_parts (flat_map gauge_all l.yielded) (gauge_known l.initial.seat))
