use Rattle.std.proofs.Common.{rules, arith, refl, ap, sym, subst, ◌∙◌, ◌+◌, ◌-◌, All}
use Rattle.std.proofs.lemmas.List.Elements.{All-push}
use Rattle.metric_words.specs.GaugeLedger.{gauge_part, IsNewGauge}
use Rattle.metric_words.specs.Gauges.{new_gauge, new_gauges}
use Rattle.metric_words.proofs.GaugeDeals.{splits}
use Rattle.metric_words.proofs.Knowing.{cut, known-new, numbers-push}
use Rattle.metric_words.proofs.gauge_bank.GaugeBank.deal.Goals as goal

pub split_seat-requires : goal.split_seat-requires
split_seat-requires c = (search rules, search rules, splits _ _ _)

pub split_seat-worker-requires : goal.split_seat-worker-requires
split_seat-worker-requires c = (search rules, search rules, splits _ _ _)

pub invariant_of-push : goal.invariant_of-push
invariant_of-push c = let n = c.loop.counter in let w = c.args.workers in
    let k = cut (new_gauge 0 0) (new_gauge w) (new_gauges w) (λ _ _. refl) c.loop.seat.me (1 + n) (w + 1 - n) (1 + (n + 1)) (w + 1 - (n + 1)) c.loop.invariant.1 (search rules) (omega arith) (omega arith) in
    let p = known-new (new_gauge 0 0) (new_gauge w) (new_gauges w) (λ z. z.seat) _ _ c.split_seat-worker.result.me (1 + n) refl (c.split_seat-worker.ensures.3 ∙ c.loop.invariant.0) (c.split_seat-worker.ensures.4 ∙ k.0) in let l = p.0 in record { leads = (omega arith, p.1) }

pub loop-preserved : goal.loop-preserved
loop-preserved c = let n = c.loop.counter in let w = c.args.workers in let i = c.loop.invariant in let items = c.in_ok-push.ensures.items in
    let k = cut (new_gauge 0 0) (new_gauge w) (new_gauges w) (λ _ _. refl) c.loop.seat.me (1 + n) (w + 1 - n) (1 + (n + 1)) (w + 1 - (n + 1)) i.1 (search rules) (omega arith) (omega arith) in
    let p = known-new (new_gauge 0 0) (new_gauge w) (new_gauges w) (λ z. z.seat) _ _ c.split_seat-worker.result.me (1 + n) refl (c.split_seat-worker.ensures.3 ∙ c.loop.invariant.0) (c.split_seat-worker.ensures.4 ∙ k.0) in let P = IsNewGauge c.args.seat.table_id w in (
      search rules,
      c.split_seat-worker.ensures.2 ∙ k.1,
      search rules,
      numbers-push (λ z. (gauge_part z).seat) c.loop.list.items _ _ n i.3 items (ap (λ z. z.seat) p.2),
      subst (All P) (sym items) (All-push P c.loop.list.items _ i.4 p.3),
    )
