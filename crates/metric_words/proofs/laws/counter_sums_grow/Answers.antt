use Rattle.metric_words.proofs.CounterLaws.{sums-grow}
use Rattle.metric_words.proofs.laws.counter_sums_grow.Goals as goal

pub returns : goal.returns
returns c = sums-grow
