use Rattle.std.proofs.Common.{rules, ◌∙◌, ◌++◌, Some, ap, ◌≡◌, sym, []}
use Rattle.std.specs.List.{flat_map}
use Rattle.std.proofs.lemmas.List.Elements.{All-pop}
use Rattle.seat_parts.proofs.Cuts.{no-slots}
use Rattle.metric_words.specs.Gauges.{new_gauge}
use Rattle.metric_words.specs.GaugeLedger.{gauges_id, gauge_known, gauge_all}
use Rattle.metric_words.proofs.Knowing.{known-parts}
use Rattle.metric_words.proofs.GaugeDeals.{joins}
use Rattle.metric_words.proofs.GaugeEnds.{joined-all, gathered}
use Rattle.metric_words.proofs.gauge_bank.GaugeBank.gather.Goals as goal

pub join_seat-requires : goal.join_seat-requires
join_seat-requires c = ((All-pop (λ w. (gauge_known w).bank ≡ gauges_id c.args.self.now) _ _ (Some c.in-Some.worker) c.in-Some.ensures.items c.loop-worker.invariant.3).1, search rules, no-slots _ c.loop-worker.invariant.1, search rules, joins _ _ _ _ _)

pub loop-worker-init : goal.loop-worker-init
loop-worker-init c = let r = c.args.seats.reader in
    (c.requires.reader_bank, r.leads.1, ap (λ ps. flat_map gauge_all c.args.seats.workers.items ++ ps) (known-parts (new_gauge 0 0) r.seat.table_id r.seat.me r.leads.0), c.requires.workers_bank)

pub loop-worker-preserved : goal.loop-worker-preserved
loop-worker-preserved c = let w = c.in-Some.worker in let i = c.loop-worker.invariant in let all = c.in-Some.ensures.items in
    let rest = All-pop (λ z. (gauge_known z).bank ≡ gauges_id c.args.self.now) _ _ (Some w) all i.3 in
    let j = joined-all w c.loop-worker.all.me.0 c.join_seat.new.seat.me c.join_seat.ensures.2 in
    (c.join_seat.ensures.0 ∙ rest.1, j.1, gathered _ _ w _ _ all j.0 ∙ i.2, rest.0)

pub join_seat-requires-2 : goal.join_seat-requires-2
join_seat-requires-2 c = (search rules, search rules, no-slots _ c.loop-worker.invariant.1, search rules, joins _ _ _ _ _)

pub returns-clause-parts : goal.returns-clause-parts
returns-clause-parts c = let i = c.loop-worker.invariant in let f = c.args.seats.flusher in
    let j = joined-all f c.loop-worker.all.me.0 c.join_seat-2.new.seat.me c.join_seat-2.ensures.2 in
    let none : c.loop-worker.workers.items ≡ [] = search rules in
    j.0 ∙ ap (λ ps. gauge_all f ++ ps) (sym (ap (λ gs. flat_map gauge_all gs ++ c.loop-worker.all.me.0.parts) none) ∙ i.2)
