use Rattle.std.proofs.Common.{rules, refl}
use Rattle.metric_words.specs.declared.gauge_view.GaugeKind.TheVariants.{Add}
use Rattle.metric_words.specs.Gauges.{gauge_step}
use Rattle.metric_words.proofs.GaugeKeeps.{write-allowed}
use Rattle.metric_words.proofs.Stepping.{gauge-after}
use Rattle.metric_words.proofs.gauge_bank.GaugeBank.add.Goals as goal

pub fetch_add-requires : goal.fetch_add-requires
fetch_add-requires c = let s = c.args.seat.now in (search rules, search rules, write-allowed _ _ _ _ Add s.seat.me c.args.n refl s.leads.0 s.leads.1 c.requires.id (search rules))

pub invariant_of-seat : goal.invariant_of-seat
invariant_of-seat c = let a = gauge-after c.args.seat.now (gauge_step Add c.args.id.0 c.args.n c.fetch_add.result) _ c.fetch_add.new.seat.me c.fetch_add.ensures.0 (c.fetch_add.ensures.2 c.args.id.0 refl) in record { leads = (a.1, a.2) }

pub returns : goal.returns
returns c = (c.fetch_add.result, (gauge-after c.args.seat.now (gauge_step Add c.args.id.0 c.args.n c.fetch_add.result) _ c.fetch_add.new.seat.me c.fetch_add.ensures.0 (c.fetch_add.ensures.2 c.args.id.0 refl)).0)
