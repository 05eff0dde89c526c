use Rattle.std.proofs.Common.{◌≡◌, length, take}
use Rattle.book_state.specs.Metrics.{lose, change_all}
use Rattle.book_state.proofs.metrics.lose_each.Given as goal

abbrev pub invariant-loop-id : goal.invariant-loop-id
invariant-loop-id l = record {
  same : length l.rows.items ≡ length l.fn.rows.items;
  done : l.rows.items ≡ change_all (lose l.tag) (take l.id-index l.ids) l.fn.rows.items;
}
