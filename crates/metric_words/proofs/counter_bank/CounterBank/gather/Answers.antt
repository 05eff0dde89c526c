use Rattle.std.proofs.Common.{rules, arith, ◌≡◌, ◌∙◌, Some, ap, ◌∷◌, []}
use Rattle.seat_parts.specs.Parts.{total}
use Rattle.seat_parts.proofs.Sums.{total-append}
use Rattle.std.proofs.lemmas.List.Elements.{All-pop}
use Rattle.seat_parts.proofs.Cuts.{no-slots}
use Rattle.metric_words.specs.CounterLedger.{worker_known, worker_part, bank_id}
use Rattle.metric_words.proofs.CounterDeals.{joins}
use Rattle.metric_words.proofs.CounterEnds.{joined-seat, one-total, view-total}
use Rattle.metric_words.proofs.counter_bank.CounterBank.gather.Goals as goal

pub join_seat-requires : goal.join_seat-requires
join_seat-requires c = (search rules, search rules, no-slots _ c.args.seats.flusher.leads.1, search rules, joins _ _ _ _ _)

pub join_seat-requires-in-Some : goal.join_seat-requires-in-Some
join_seat-requires-in-Some c = (search rules, (All-pop (λ w. (worker_known w).bank ≡ bank_id c.args.self.now) _ _ (Some c.in-Some.worker) c.in-Some.ensures.items c.loop-worker.invariant.5).1, no-slots _ c.in-Some.worker.alone.1, search rules, joins _ _ _ _ _)

pub loop-worker-init : goal.loop-worker-init
loop-worker-init c = let r = c.args.seats.reader in let f = c.args.seats.flusher in
    let j = joined-seat c.join_seat.new.seat.me r.seat.me.0 f.seat.me.0 r.seat.me.1 c.join_seat.ensures.2 (omega (arith, r.alone.0)) in (
      c.join_seat.ensures.0 ∙ c.requires.reader_bank,
      j.3 ∙ r.alone.1,
      j.2,
      (λ g. omega (arith, j.1 g, one-total g r.seat.me.0.parts r.alone.0, view-total g f.seat.me.0.parts f.leads.0)),
      ap (λ p. p.steps) j.0,
      c.requires.workers_bank,
    )

pub loop-worker-preserved : goal.loop-worker-preserved
loop-worker-preserved c = let w = c.in-Some.worker in let i = c.loop-worker.invariant in let all = c.in-Some.ensures.items in
    let j = joined-seat c.join_seat-in-Some.new.seat.me c.loop-worker.all.me.0 w.seat.me.0 c.loop-worker.all.me.1 c.join_seat-in-Some.ensures.2 i.2 in (
      c.join_seat-in-Some.ensures.0 ∙ i.0,
      j.3 ∙ i.1,
      j.2,
      (λ g. omega (arith, j.1 g, i.3 g, one-total g w.seat.me.0.parts w.alone.0, ap (total (λ z. g (worker_part z))) all, total-append (λ z. g (worker_part z)) c.pop.new.self.items (w ∷ []))),
      ap (λ p. p.steps) j.0 ∙ i.4,
      (All-pop (λ z. (worker_known z).bank ≡ bank_id c.args.self.now) _ _ (Some w) all i.5).0,
    )
