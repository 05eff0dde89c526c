use Rattle.std.proofs.Common.{◌≡◌, map, take}
use Rattle.flush_view.specs.Before.{left_of}
use Rattle.flush_view.proofs.before.before_of.Given as goal

abbrev pub invariant-loop-id : goal.invariant-loop-id
invariant-loop-id l = l.lefts.items ≡ map (λ row. left_of row.metric) (take l.id l.book.state.metrics)
