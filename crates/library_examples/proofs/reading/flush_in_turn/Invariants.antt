use Rattle.std.proofs.Common.{◌≡◌, length}
use Rattle.std.specs.Vec.Iter.{into_iter_items, into_iter_len}
use Rattle.library_examples.proofs.InTurn.{FlushedSoFar}
use Rattle.library_examples.proofs.reading.flush_in_turn.Given as goal

abbrev pub invariant-loop-source : goal.invariant-loop-source
invariant-loop-source g l = record {
  flushed : FlushedSoFar g.S.Source.state l.fn.sources.items l.yielded (into_iter_items l.source-iterator) l.fn.store
      l.store l.fn.flushes.items l.flushes.items;
  left : into_iter_len l.source-iterator ≡ length (into_iter_items l.source-iterator);
}
