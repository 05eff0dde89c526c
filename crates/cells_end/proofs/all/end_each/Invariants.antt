use Rattle.std.proofs.Common.{◌≡◌, ◌≤◌, ◌++◌, ◌+◌, ◌*◌, List, length}
use Rattle.std.specs.Vec.Iter.{into_iter_items, into_iter_len}
use Rattle.flush_cells.specs.declared.tokens.FlushCell.{FlushCell}
use Rattle.flush_cells.specs.Cells.{merged_count}
use Rattle.cells_end.specs.Ends.{EndsEach, most_left}
use Rattle.cells_end.proofs.all.end_each.Given as goal

abbrev pub invariant-loop-end : goal.invariant-loop-end
invariant-loop-end l = record {
  whole : l.fn.ends.items ≡ l.yielded ++ into_iter_items l.end-iterator;
  taken : List FlushCell;
  all : l.fn.tokens.items ≡ taken ++ into_iter_items l.waiting;
  at : length taken ≡ length l.yielded;
  ends : EndsEach 1 taken l.yielded l.initial.parents l.parents;
  worker : l.worker ≡ length l.yielded;
  few : merged_count l.parents ≤ merged_count l.initial.parents + length l.yielded * most_left;
  ends_left : into_iter_len l.end-iterator ≡ length (into_iter_items l.end-iterator);
  tokens_left : into_iter_len l.waiting ≡ length (into_iter_items l.waiting);
}
