use Rattle.std.proofs.Common.{rules, arith, refl, ap, sym, subst, ◌∙◌, ◌+◌, ◌-◌, All}
use Rattle.std.proofs.lemmas.List.Elements.{All-push}
use Rattle.metric_words.specs.declared.counter_view.SeatRole.TheVariants.{Worker, Reader}
use Rattle.metric_words.specs.Counters.{new_part, later_parts, worker_weight, firsts, seconds, latches}
use Rattle.metric_words.specs.CounterLedger.{worker_part, IsNewWorker}
use Rattle.metric_words.proofs.CounterDeals.{splits}
use Rattle.metric_words.proofs.Knowing.{cut, known-new, numbers-push}
use Rattle.metric_words.proofs.counter_bank.CounterBank.deal.Goals as goal

pub split_seat-requires : goal.split_seat-requires
split_seat-requires c = (search rules, search rules, splits _ _ _)

pub split_seat-worker-requires : goal.split_seat-worker-requires
split_seat-worker-requires c = (search rules, search rules, splits _ _ _)

pub invariant_of-push : goal.invariant_of-push
invariant_of-push c = let n = c.loop.counter in let w = c.args.workers in
    let k = cut (new_part Reader 0 0) (new_part Worker w) (later_parts w) (λ _ _. refl) c.loop.seat.me (1 + n) (w - n) (1 + (n + 1)) (w - (n + 1)) c.loop.invariant.1 (search rules) (omega arith) (omega arith) in
    let p = known-new (new_part Reader 0 0) (new_part Worker w) (later_parts w) (λ z. z.seat) _ _ c.split_seat-worker.result.me (1 + n) refl (c.split_seat-worker.ensures.3 ∙ c.loop.invariant.0) (c.split_seat-worker.ensures.4 ∙ k.0) in record {
      alone = (p.0, p.1);
      role = ap (λ z. worker_weight z.role) p.2;
      kinds = λ i. ap (λ z. latches i z.steps) p.2;
      even = λ i. ap (λ z. firsts i z.steps) p.2 ∙ ap (λ z. seconds i z.steps) (sym p.2);
    }

pub loop-preserved : goal.loop-preserved
loop-preserved c = let n = c.loop.counter in let w = c.args.workers in let i = c.loop.invariant in let items = c.in_ok-push.ensures.items in
    let k = cut (new_part Reader 0 0) (new_part Worker w) (later_parts w) (λ _ _. refl) c.loop.seat.me (1 + n) (w - n) (1 + (n + 1)) (w - (n + 1)) i.1 (search rules) (omega arith) (omega arith) in
    let p = known-new (new_part Reader 0 0) (new_part Worker w) (later_parts w) (λ z. z.seat) _ _ c.split_seat-worker.result.me (1 + n) refl (c.split_seat-worker.ensures.3 ∙ c.loop.invariant.0) (c.split_seat-worker.ensures.4 ∙ k.0) in let P = IsNewWorker c.args.seat.table_id w in (
      search rules,
      c.split_seat-worker.ensures.2 ∙ k.1,
      search rules,
      numbers-push (λ z. (worker_part z).seat) c.loop.list.items _ _ n i.3 items (ap (λ z. z.seat) p.2),
      subst (All P) (sym items) (All-push P c.loop.list.items _ i.4 p.3),
    )
