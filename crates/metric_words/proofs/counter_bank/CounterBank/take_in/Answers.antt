use Rattle.std.proofs.Common.{rules, arith, ap, ◌∙◌, ◌∷◌, [], length, length-append}
use Rattle.seat_parts.specs.Parts.{total}
use Rattle.seat_parts.proofs.Sums.{total-append}
use Rattle.seat_parts.proofs.Cuts.{no-slots}
use Rattle.metric_words.specs.Counters.{worker_weight, flusher_weight, firsts, seconds, latches}
use Rattle.metric_words.specs.CounterLedger.{worker_part, flush_known}
use Rattle.metric_words.proofs.CounterDeals.{joins}
use Rattle.metric_words.proofs.Stepping.{taken-one}
use Rattle.metric_words.proofs.counter_bank.CounterBank.take_in.Goals as goal

pub join_seat-requires : goal.join_seat-requires
join_seat-requires c = (search rules, search rules, no-slots _ c.args.worker.alone.1, search rules, joins _ _ _ _ _)

pub invariant_of-flush : goal.invariant_of-flush
invariant_of-flush c = let f = c.args.flush.now in let w = c.args.worker in let parts = (flush_known f).taken in let p = worker_part w in
    let j = taken-one _ _ f.seat.me c.join_seat.new.seat.me w.seat.me.0 f.leads.0 w.alone.0 c.join_seat.ensures.0 c.join_seat.ensures.2 in record {
      leads = (j.1, j.2 ∙ f.leads.1);
      role = ap (λ k. flusher_weight k.own.role) j.0 ∙ f.role;
      others = omega (arith, ap (λ k. total (λ p. worker_weight p.role) k.taken) j.0, total-append (λ p. worker_weight p.role) parts (p ∷ []), ap (λ k. length k.taken) j.0, length-append parts (p ∷ []), f.others, w.role);
      kinds = λ i. (let n = f.kinds i in let n2 = n.2 in let o = w.kinds i in
          (ap (λ k. firsts i k.own.steps) j.0 ∙ n.0, ap (λ k. seconds i k.own.steps) j.0 ∙ n.1, omega (arith, ap (λ k. total (λ p. latches i p.steps) k.taken) j.0, total-append (λ p. latches i p.steps) parts (p ∷ []), n2, o)));
      even = λ i. (let e = w.even i in let d = f.even i in omega (arith, ap (λ k. total (λ p. firsts i p.steps) k.taken) j.0, ap (λ k. total (λ p. seconds i p.steps) k.taken) j.0, total-append (λ p. firsts i p.steps) parts (p ∷ []), total-append (λ p. seconds i p.steps) parts (p ∷ []), e, d));
    }

pub returns : goal.returns
returns c = let f = c.args.flush.now in let w = c.args.worker in
    (taken-one _ _ f.seat.me c.join_seat.new.seat.me w.seat.me.0 f.leads.0 w.alone.0 c.join_seat.ensures.0 c.join_seat.ensures.2).0
