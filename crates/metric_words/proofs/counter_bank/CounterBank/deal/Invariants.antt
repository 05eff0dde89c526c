use Rattle.std.proofs.Common.{◌≡◌, ◌+◌, ◌-◌, length, map, [], All}
use Rattle.std.specs.List.{range_with_len}
use Rattle.metric_words.specs.CounterLedger.{worker_part, IsNewWorker}
use Rattle.metric_words.specs.Counters.{later_parts}
use Rattle.metric_words.proofs.counter_bank.CounterBank.deal.Given as goal

abbrev pub invariant-loop : goal.invariant-loop
invariant-loop l =
    (l.seat.table_id ≡ l.fn.seat.table_id) × (l.seat.me ≡ (record { parts = later_parts l.fn.workers (1 + l.counter) (l.fn.workers - l.counter) }, []))
    × (length l.list.items ≡ l.counter) × (map (λ w. (worker_part w).seat) l.list.items ≡ range_with_len 1 l.counter) × All (IsNewWorker l.fn.seat.table_id l.fn.workers) l.list.items
