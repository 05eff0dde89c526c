use Rattle.std.proofs.Common.{◌≡◌, ℕ, ◌+◌, ◌<◌, length, All}
use Rattle.seat_parts.specs.Parts.{total}
use Rattle.metric_words.specs.Counters.{own_steps}
use Rattle.metric_words.specs.declared.counter_view.CountPart.{CountPart}
use Rattle.metric_words.specs.CounterLedger.{bank_id, read_steps, worker_known, worker_part, seats_total}
use Rattle.metric_words.proofs.counter_bank.CounterBank.gather.Given as goal

abbrev pub invariant-loop-worker : goal.invariant-loop-worker
invariant-loop-worker l =
    (l.all.table_id ≡ bank_id l.self) × (length l.all.me.1 ≡ 0) × (0 < length l.all.me.0.parts)
    × ((f : CountPart → ℕ) → total f l.all.me.0.parts + total (λ w. f (worker_part w)) l.workers.items ≡ seats_total f l.fn.seats)
    × (own_steps l.all.me.0 ≡ read_steps l.fn.seats)
    × All (λ w. (worker_known w).bank ≡ bank_id l.self) l.workers.items

abbrev pub decreases-loop-worker : goal.decreases-loop-worker
decreases-loop-worker l = goal.left-loop-worker l
