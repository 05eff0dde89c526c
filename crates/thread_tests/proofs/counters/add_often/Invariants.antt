use Rattle.std.proofs.Common.{◌≡◌, ◌*◌, ◌≤◌}
use Rattle.metric_words.specs.Counters.{firsts}
use Rattle.metric_words.specs.CounterLedger.{bank_id, worker_known}
use Rattle.thread_tests.proofs.counters.add_often.Given as goal

abbrev pub invariant-loop : goal.invariant-loop
invariant-loop l = ((worker_known l.seat).bank ≡ bank_id l.bank) × (firsts 0 (worker_known l.seat).own.steps ≤ l.counter * 4294967296)
