use Rattle.metric_words.proofs.CounterLaws.{end-of-one}
use Rattle.metric_words.proofs.laws.one_counter_at_the_end.Goals as goal

pub returns : goal.returns
returns c = record { each = end-of-one }
