use Rattle.std.proofs.Common.{rules}
use Rattle.metric_words.proofs.GaugeLaws.{all-given}
use Rattle.thread_tests.proofs.gauges.sets_and_subtracts.Goals as goal

pub close-requires : goal.close-requires
close-requires g c = record { count = all-given _ _ _ (search rules); workers_bank = search rules; flusher_bank = search rules; reader_bank = search rules }
