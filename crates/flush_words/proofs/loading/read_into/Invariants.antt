use Rattle.std.proofs.Common.{◌≡◌, ◌≤◌, length, map, take, vec_capacity}
use Rattle.metric_words.specs.CounterLedger.{read_known}
use Rattle.flush_words.specs.Words.{after_loads}
use Rattle.flush_words.proofs.loading.read_into.Given as goal

abbrev pub invariant-loop-id : goal.invariant-loop-id
invariant-loop-id l =
    ((read_known l.seat).bank ≡ (read_known l.initial.seat).bank)
    × (read_known l.seat ≡ after_loads l.readings.items (read_known l.initial.seat))
    × (map (λ r. r.id) l.readings.items ≡ take l.id-index l.ids)
    × (length l.ids ≤ vec_capacity l.readings)
    × (length l.readings.items ≡ l.id-index)
