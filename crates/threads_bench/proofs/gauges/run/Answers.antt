use Rattle.std.proofs.Common.{rules}
use Rattle.metric_words.proofs.GaugeLaws.{all-given}
use Rattle.threads_bench.proofs.gauges.run.Goals as goal

pub close-requires : goal.close-requires
close-requires g c = record { count = all-given _ _ _ (search rules); workers_bank = search rules; flusher_bank = search rules; reader_bank = search rules }
