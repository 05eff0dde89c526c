use Rattle.metric_words.specs.CounterLedger.{size_of}
use Rattle.store_closing.proofs.Words.{ends_counters}
use Rattle.store_closing.proofs.last_words.last_deltas.Goals as goal

pub returns-clause-ends : goal.returns-clause-ends
returns-clause-ends c = ends_counters (size_of c.args.bank) c.args.seats c.args.ids.now c.in_ok-ends.ends c.requires.size c.in_ok-ends.ensures
