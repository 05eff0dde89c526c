use Rattle.std.proofs.Common.{rules, refl}
use Rattle.metric_words.specs.declared.gauge_view.GaugeKind.TheVariants.{Set}
use Rattle.metric_words.specs.Gauges.{gauge_step}
use Rattle.metric_words.proofs.GaugeKeeps.{write-allowed}
use Rattle.metric_words.proofs.Stepping.{gauge-after}
use Rattle.metric_words.proofs.gauge_bank.GaugeBank.set.Goals as goal

pub swap-requires : goal.swap-requires
swap-requires c = let s = c.args.seat.now in (search rules, search rules, write-allowed _ _ _ _ Set s.seat.me c.args.n refl s.leads.0 s.leads.1 c.requires.id (search rules))

pub invariant_of-seat : goal.invariant_of-seat
invariant_of-seat c = let a = gauge-after c.args.seat.now (gauge_step Set c.args.id.0 c.args.n c.swap.result) _ c.swap.new.seat.me c.swap.ensures.0 (c.swap.ensures.2 c.args.id.0 refl) in record { leads = (a.1, a.2) }

pub returns : goal.returns
returns c = (gauge-after c.args.seat.now (gauge_step Set c.args.id.0 c.args.n c.swap.result) _ c.swap.new.seat.me c.swap.ensures.0 (c.swap.ensures.2 c.args.id.0 refl)).0
