use Rattle.std.proofs.Common.{◌≡◌, ◌≤◌, length, map, take, All, vec_capacity}
use Rattle.metric_words.specs.CounterLedger.{flush_known, LatchedAll}
use Rattle.flush_words.specs.Words.{after_latches}
use Rattle.flush_words.proofs.latching.latch_into.Given as goal

abbrev pub invariant-loop-id : goal.invariant-loop-id
invariant-loop-id l =
    ((flush_known l.flush).bank ≡ (flush_known l.initial.flush).bank)
    × (flush_known l.flush ≡ after_latches l.deltas.items (flush_known l.initial.flush))
    × (map (λ d. d.id) l.deltas.items ≡ take l.id-index l.ids)
    × All (λ d. LatchedAll d.id.0 (flush_known l.flush)) l.deltas.items
    × (length l.ids ≤ vec_capacity l.deltas)
    × (length l.deltas.items ≡ l.id-index)
