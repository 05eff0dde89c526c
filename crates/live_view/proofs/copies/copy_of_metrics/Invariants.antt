use Rattle.std.proofs.Common.{◌≡◌, map, take}
use Rattle.live_view.proofs.copies.copy_of_metrics.Given as goal

abbrev pub invariant-loop-id : goal.invariant-loop-id
invariant-loop-id l = l.metrics.items ≡ map (λ row. row.metric) (take l.id l.book.state.metrics)
