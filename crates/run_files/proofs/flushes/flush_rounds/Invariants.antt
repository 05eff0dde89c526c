use Rattle.std.proofs.Common.{◌≡◌, length}
use Rattle.run_files.specs.Flushes.{HasFlushed}
use Rattle.run_files.proofs.flushes.flush_rounds.Given as goal

abbrev pub invariant-loop-round : goal.invariant-loop-round
invariant-loop-round g l = HasFlushed l.hall.store.now l.records.items l.flusher × (length l.records.items ≡ l.round)
