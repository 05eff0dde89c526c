use Rattle.std.proofs.Common.{◌≡◌}
use Rattle.metric_words.specs.CounterLedger.{bank_id, flush_known}
use Rattle.thread_tests.proofs.counters.latch_often.Given as goal

abbrev pub invariant-loop : goal.invariant-loop
invariant-loop l = ((flush_known l.seat).bank ≡ bank_id l.bank) × ((flush_known l.seat).taken ≡ (flush_known l.fn.seat).taken)
