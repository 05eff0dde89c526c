use Rattle.std.proofs.Common.{rules}
use Rattle.metric_words.proofs.GaugeEnds.{words-push}
use Rattle.metric_words.proofs.gauge_closing.read_words.Goals as goal

pub loop-id-preserved : goal.loop-id-preserved
loop-id-preserved c = (words-push _ _ _ _ _ c.loop-id.invariant.0 c.push_reserved.ensures.items c.word.ensures, search rules)
