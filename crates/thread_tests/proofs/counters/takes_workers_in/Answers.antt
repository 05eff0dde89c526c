use Rattle.std.proofs.Common.{rules, arith, ap, length, length-append, ◌∷◌, [], Some, ◌≡◌}
use Rattle.std.proofs.lemmas.List.Elements.{All-pop}
use Rattle.metric_words.specs.CounterLedger.{bank_id, worker_known, worker_part, flush_known}
use Rattle.thread_tests.proofs.counters.takes_workers_in.Goals as goal

pub loop-worker-preserved : goal.loop-worker-preserved
loop-worker-preserved g c = let w = c.in-Some.worker in let i = c.loop-worker.invariant in let all = c.in-Some.ensures.items in (
  search rules,
  omega (arith, i.1, ap length all, length-append c.pop.new.self.items (w ∷ []), ap (λ k. length k.taken) c.take_in.ensures, length-append (flush_known c.loop-worker.flusher).taken (worker_part w ∷ [])),
  (All-pop (λ z. (worker_known z).bank ≡ bank_id c.in_ok-bank.bank) _ _ (Some w) all i.2).0,
)
