use Rattle.std.proofs.Common.{rules}
use Rattle.metric_words.proofs.CounterEnds.{words-push}
use Rattle.metric_words.proofs.counter_closing.read_out.Goals as goal

pub loop-id-preserved : goal.loop-id-preserved
loop-id-preserved c = (
  words-push _ _ _ _ _ _ _ _ c.loop-id.invariant.0 c.push_reserved.ensures.items c.push_reserved-in-loop-id.ensures.items c.word.ensures c.word-in-loop-id.ensures,
  search rules,
  search rules,
)
