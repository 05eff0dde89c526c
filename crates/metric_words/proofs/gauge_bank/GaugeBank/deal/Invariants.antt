use Rattle.std.proofs.Common.{◌≡◌, ◌+◌, ◌-◌, length, map, [], All}
use Rattle.std.specs.List.{range_with_len}
use Rattle.metric_words.specs.GaugeLedger.{gauge_part, IsNewGauge}
use Rattle.metric_words.specs.Gauges.{new_gauges}
use Rattle.metric_words.proofs.gauge_bank.GaugeBank.deal.Given as goal

abbrev pub invariant-loop : goal.invariant-loop
invariant-loop l =
    (l.seat.table_id ≡ l.fn.seat.table_id) × (l.seat.me ≡ (record { parts = new_gauges l.fn.workers (1 + l.counter) (l.fn.workers + 1 - l.counter) }, []))
    × (length l.list.items ≡ l.counter) × (map (λ w. (gauge_part w).seat) l.list.items ≡ range_with_len 1 l.counter) × All (IsNewGauge l.fn.seat.table_id l.fn.workers) l.list.items
