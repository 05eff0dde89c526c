use Rattle.metric_words.proofs.CounterLaws.{loads-below, newest-load}
use Rattle.metric_words.proofs.laws.the_newest_load_is_the_greatest.Goals as goal

pub returns : goal.returns
returns c = record { below = loads-below; newest = newest-load }
