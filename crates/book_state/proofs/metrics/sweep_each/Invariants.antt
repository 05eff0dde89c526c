use Rattle.std.proofs.Common.{◌≡◌, length, take}
use Rattle.book_state.specs.Metrics.{swept_row, change_all}
use Rattle.book_state.proofs.metrics.sweep_each.Given as goal

abbrev pub invariant-loop-id : goal.invariant-loop-id
invariant-loop-id l = record {
  same : length l.rows.items ≡ length l.fn.rows.items;
  done : l.rows.items ≡ change_all (swept_row l.least) (take l.id-index l.ids) l.fn.rows.items;
}
