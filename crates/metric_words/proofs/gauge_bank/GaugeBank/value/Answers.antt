use Rattle.std.proofs.Common.{rules, refl}
use Rattle.metric_words.specs.declared.gauge_view.GaugeKind.TheVariants.{Load}
use Rattle.metric_words.specs.Gauges.{gauge_step}
use Rattle.metric_words.proofs.GaugeKeeps.{load-allowed}
use Rattle.metric_words.proofs.Stepping.{gauge-after, reads-all}
use Rattle.metric_words.proofs.gauge_bank.GaugeBank.value.Goals as goal

pub load-requires : goal.load-requires
load-requires c = let s = c.args.seat.now in (search rules, search rules, load-allowed _ _ _ _ s.seat.me s.leads.0 s.leads.1 c.requires.id)

pub invariant_of-seat : goal.invariant_of-seat
invariant_of-seat c = let a = gauge-after c.args.seat.now (gauge_step Load c.args.id.0 0 c.load.result) _ c.load.new.seat.me c.load.ensures.0 (c.load.ensures.2 c.args.id.0 refl).0 in record { leads = (a.1, a.2) }

pub returns-clause-known : goal.returns-clause-known
returns-clause-known c = (gauge-after c.args.seat.now (gauge_step Load c.args.id.0 0 c.load.result) _ c.load.new.seat.me c.load.ensures.0 (c.load.ensures.2 c.args.id.0 refl).0).0

pub returns-clause-whole : goal.returns-clause-whole
returns-clause-whole c = reads-all c.args.seat.now c.args.id.0 c.load.result (c.load.ensures.2 c.args.id.0 refl).1
