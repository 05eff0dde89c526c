use Rattle.std.proofs.Common.{◌≡◌, ◌≤◌}
use Rattle.metric_words.specs.Counters.{firsts}
use Rattle.metric_words.specs.CounterLedger.{bank_id, worker_known}
use Rattle.threads_bench.proofs.counters.add_often.Given as goal

abbrev pub invariant-loop : goal.invariant-loop
invariant-loop l = ((worker_known l.seat).bank ≡ bank_id l.bank) × (firsts l.id.0 (worker_known l.seat).own.steps ≤ l.counter)
