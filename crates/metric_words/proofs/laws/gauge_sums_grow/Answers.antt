use Rattle.metric_words.proofs.GaugeLaws.{gauge-sums-grow}
use Rattle.metric_words.proofs.laws.gauge_sums_grow.Goals as goal

pub returns : goal.returns
returns c = gauge-sums-grow
