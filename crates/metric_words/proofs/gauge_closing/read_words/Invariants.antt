use Rattle.std.proofs.Common.{◌≤◌, vec_capacity}
use Rattle.std.specs.Mem.Slots.{slots_items}
use Rattle.metric_words.specs.GaugeLedger.{SameWords}
use Rattle.metric_words.proofs.gauge_closing.read_words.Given as goal

abbrev pub invariant-loop-id : goal.invariant-loop-id
invariant-loop-id l = SameWords l.id (slots_items l.closed.words) l.words.items × (l.size ≤ vec_capacity l.words)
