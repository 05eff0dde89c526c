use Rattle.std.proofs.Common.{◌≤◌, vec_capacity}
use Rattle.std.specs.Mem.Slots.{slots_items}
use Rattle.metric_words.specs.CounterLedger.{HasWords}
use Rattle.metric_words.proofs.counter_closing.read_out.Given as goal

abbrev pub invariant-loop-id : goal.invariant-loop-id
invariant-loop-id l = HasWords l.id (slots_items l.closed.words) l.values.items l.pending.items × (l.size ≤ vec_capacity l.values) × (l.size ≤ vec_capacity l.pending)
