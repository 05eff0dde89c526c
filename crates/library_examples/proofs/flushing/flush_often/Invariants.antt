use Rattle.std.proofs.Common.{◌≡◌, ◌+◌, length}
use Rattle.library_examples.specs.Counting.{AreFlushes, Stays}
use Rattle.library_examples.proofs.flushing.flush_often.Given as goal

abbrev pub invariant-loop-done : goal.invariant-loop-done
invariant-loop-done l = record {
  told : l.flushes.items ≡ l.store.flushes;
  often : AreFlushes l._done l.fn.store l.store;
  kept : Stays l.fn.store l.store;
  more : length l.flushes.items ≡ length l.fn.flushes.items + l._done;
}
