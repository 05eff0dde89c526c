use Rattle.std.proofs.Common.{rules, arith, refl}
use Rattle.metric_words.specs.declared.counter_view.CountKind.TheVariants.{Load}
use Rattle.metric_words.specs.Counters.{step_of}
use Rattle.metric_words.proofs.CounterKeeps.{loads-one}
use Rattle.metric_words.proofs.Stepping.{counter-after}
use Rattle.metric_words.proofs.counter_bank.CounterBank.value.Goals as goal

pub load-requires : goal.load-requires
load-requires c = let r = c.args.seat.now in (search rules, search rules, loads-one _ _ _ _ _ (omega (arith, r.alone.0)) r.alone.1 r.role c.requires.id)

pub invariant_of-seat : goal.invariant_of-seat
invariant_of-seat c = let r = c.args.seat.now in
    let a = counter-after (step_of Load c.args.id.0 0 c.load.result) _ _ r.seat.me c.load.new.seat.me (omega (arith, r.alone.0)) c.load.ensures.0 (c.load.ensures.2 c.args.id.0 refl).0 in search (rules, a)

pub returns-clause-known : goal.returns-clause-known
returns-clause-known c = let r = c.args.seat.now in
    (counter-after (step_of Load c.args.id.0 0 c.load.result) _ _ r.seat.me c.load.new.seat.me (omega (arith, r.alone.0)) c.load.ensures.0 (c.load.ensures.2 c.args.id.0 refl).0).0

pub returns-clause-rises : goal.returns-clause-rises
returns-clause-rises c = (c.load.ensures.2 c.args.id.0 refl).1
