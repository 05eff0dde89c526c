use Rattle.std.proofs.Common.{rules, refl}
use Rattle.metric_words.specs.declared.counter_view.CountKind.TheVariants.{Latch}
use Rattle.metric_words.specs.Counters.{step_of}
use Rattle.metric_words.proofs.CounterKeeps.{latches-one}
use Rattle.metric_words.proofs.Stepping.{counter-after, latched}
use Rattle.metric_words.proofs.counter_bank.CounterBank.latch.Goals as goal

pub swap-requires : goal.swap-requires
swap-requires c = let f = c.args.seat.now in (search rules, search rules, latches-one _ _ _ _ _ f.leads.0 f.leads.1 f.role f.others c.requires.id)

pub invariant_of-seat : goal.invariant_of-seat
invariant_of-seat c = let f = c.args.seat.now in
    let a = counter-after (step_of Latch c.args.id.0 0 c.swap.result) _ _ f.seat.me c.swap.new.seat.me f.leads.0 c.swap.ensures.0 (c.swap.ensures.2 c.args.id.0 refl).0 in search (rules, a)

pub returns-clause-known : goal.returns-clause-known
returns-clause-known c = let f = c.args.seat.now in
    (counter-after (step_of Latch c.args.id.0 0 c.swap.result) _ _ f.seat.me c.swap.new.seat.me f.leads.0 c.swap.ensures.0 (c.swap.ensures.2 c.args.id.0 refl).0).0

pub returns-clause-whole : goal.returns-clause-whole
returns-clause-whole c = let f = c.args.seat.now in
    latched c.args.id.0 c.swap.result _ _ (counter-after (step_of Latch c.args.id.0 0 c.swap.result) _ _ f.seat.me c.swap.new.seat.me f.leads.0 c.swap.ensures.0 (c.swap.ensures.2 c.args.id.0 refl).0).0
    (c.swap.ensures.2 c.args.id.0 refl).1
