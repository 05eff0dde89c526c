use Rattle.std.proofs.Common.{ap, sym, ◌∙◌}
use Rattle.stat_defs.specs.declared.events.GaugeOp.{GaugeOp}
use Rattle.metric_words.specs.Gauges.{gauge_step}
use Rattle.metric_words.specs.GaugeLedger.{gauge_known, after_gauge_step}
use Rattle.run_ledger.specs.Grows.{kind_of}
use Rattle.recorder.proofs.hand.step.Goals as goal

pub returns-in-Add : goal.returns-in-Add
returns-in-Add c = let s = c.add.ensures in
    (s.0, s.1 ∙ ap (λ (o : GaugeOp). after_gauge_step (gauge_step (kind_of o) c.args.id.0 c.args.n s.0) (gauge_known c.args.seat.now)) (sym c.in-Add.is))

pub returns-in-Sub : goal.returns-in-Sub
returns-in-Sub c = let s = c.sub.ensures in
    (s.0, s.1 ∙ ap (λ (o : GaugeOp). after_gauge_step (gauge_step (kind_of o) c.args.id.0 c.args.n s.0) (gauge_known c.args.seat.now)) (sym c.in-Sub.is))

pub returns-in-Set : goal.returns-in-Set
returns-in-Set c = let found = c.set-displaced.result in
    (found, c.set-displaced.ensures ∙ ap (λ (o : GaugeOp). after_gauge_step (gauge_step (kind_of o) c.args.id.0 c.args.n found) (gauge_known c.args.seat.now)) (sym c.in-Set.is))
