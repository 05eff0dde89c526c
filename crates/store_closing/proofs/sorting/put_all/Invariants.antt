use Rattle.std.proofs.Common.{◌≡◌, ◌+◌, ◌++◌, ℕ, List, length}
use Rattle.std.specs.Vec.Iter.{into_iter_items, into_iter_len}
use Rattle.merge_round.specs.Halves.{HalfState}
use Rattle.turn_cell.specs.declared.cell.TurnCell.{TurnCell}
use Rattle.store_closing.specs.Sorting.{HasRoomFor, Sorts}
use Rattle.store_closing.proofs.sorting.put_all.Given as goal

abbrev pub invariant-loop-worker : goal.invariant-loop-worker
invariant-loop-worker l = record {
  whole : l.fn.ended.items ≡ l.yielded ++ into_iter_items l.worker-iterator;
  taken : List (TurnCell HalfState);
  all : l.fn.cells.items ≡ taken ++ into_iter_items l.waiting;
  at : length taken ≡ length l.yielded;
  sorts : Sorts taken l.yielded l.initial.sorted l.sorted;
  room : (more : ℕ) → HasRoomFor (length l.fn.ended.items + more) l.initial.sorted → HasRoomFor (length (into_iter_items l.worker-iterator) + more) l.sorted;
  ended_left : into_iter_len l.worker-iterator ≡ length (into_iter_items l.worker-iterator);
  cells_left : into_iter_len l.waiting ≡ length (into_iter_items l.waiting);
}
