use Rattle.std.proofs.Common.{rules}
use Rattle.thread_tests.proofs.counters.adds_latches_and_loads.Goals as goal

pub close-requires : goal.close-requires
close-requires g c = record {
  count = search rules;
  workers_bank = search rules;
  flusher_bank = search rules;
  reader_bank = search rules;
}
