use Rattle.std.proofs.Common.{rules}
use Rattle.metric_words.specs.CounterLedger.{bank_id, IsNewWorker}
use Rattle.threads_bench.proofs.Fours.{each-of-four}
use Rattle.threads_bench.proofs.counters.run.Goals as goal

pub add_by_four-requires-clause-ready : goal.add_by_four-requires-clause-ready
add_by_four-requires-clause-ready g c κs within =
    let new = each-of-four (IsNewWorker (bank_id c.in_ok-bank.bank) 4) _ _ _ _ _ c.in_ok-bank.ensures.seats.workers_new c.four_of-four.ensures in
    search (rules, new)

pub add_by_four-requires-in-FourCounters-clause-ready : goal.add_by_four-requires-in-FourCounters-clause-ready
add_by_four-requires-in-FourCounters-clause-ready g c κs within =
    let new = each-of-four (IsNewWorker (bank_id c.in_ok-bank.bank) 4) _ _ _ _ _ c.in_ok-bank.ensures.seats.workers_new c.four_of-four.ensures in
    search (rules, new)

pub close-requires : goal.close-requires
close-requires g c = record { count = search rules; workers_bank = search rules; flusher_bank = search rules; reader_bank = search rules }
