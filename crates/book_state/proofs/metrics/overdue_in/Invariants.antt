use Rattle.std.proofs.Common.{◌≡◌, take}
use Rattle.book_state.specs.Metrics.{overdue_among}
use Rattle.book_state.proofs.metrics.overdue_in.Given as goal

abbrev pub invariant-loop-id : goal.invariant-loop-id
invariant-loop-id l = l.all.items ≡ overdue_among l.least l.rows (take l.id-index l.ids)
