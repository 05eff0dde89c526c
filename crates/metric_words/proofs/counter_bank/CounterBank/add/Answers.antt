use Rattle.std.proofs.Common.{rules, arith, refl}
use Rattle.metric_words.specs.declared.counter_view.CountKind.TheVariants.{First, Second}
use Rattle.metric_words.specs.Counters.{step_of}
use Rattle.metric_words.proofs.CounterKeeps.{adds-first, adds-second}
use Rattle.metric_words.proofs.Stepping.{added}
use Rattle.metric_words.proofs.counter_bank.CounterBank.add.Goals as goal

pub fetch_add-requires : goal.fetch_add-requires
fetch_add-requires c = let w = c.args.seat.now in (search rules, search rules, adds-first _ _ _ _ _ _ (omega (arith, w.alone.0)) w.alone.1 w.role w.even c.requires.id c.requires.units)

pub fetch_add-requires-2 : goal.fetch_add-requires-2
fetch_add-requires-2 c = let w = c.args.seat.now in
    (search rules, search rules, adds-second _ _ _ _ w.seat.me _ _ c.fetch_add.result (omega (arith, w.alone.0)) w.alone.1 w.role (c.fetch_add.ensures.2 c.args.id.0 refl) c.requires.id)

pub invariant_of-seat : goal.invariant_of-seat
invariant_of-seat c = let w = c.args.seat.now in let i = c.args.id.0 in let n = c.args.n in
    let a = added (step_of First i n c.fetch_add.result) (step_of Second i n c.fetch_add-2.result) _ _ _ w.seat.me c.fetch_add.new.seat.me c.fetch_add-2.new.seat.me
    w.alone.0 c.fetch_add.ensures.0 (c.fetch_add.ensures.2 i refl) c.fetch_add-2.ensures.0 (c.fetch_add-2.ensures.2 i refl) in search (rules, a)

pub returns : goal.returns
returns c = let w = c.args.seat.now in let i = c.args.id.0 in let n = c.args.n in
    let a = added (step_of First i n c.fetch_add.result) (step_of Second i n c.fetch_add-2.result) _ _ _ w.seat.me c.fetch_add.new.seat.me c.fetch_add-2.new.seat.me
    w.alone.0 c.fetch_add.ensures.0 (c.fetch_add.ensures.2 i refl) c.fetch_add-2.ensures.0 (c.fetch_add-2.ensures.2 i refl) in
    (c.fetch_add.result, c.fetch_add-2.result, a.0)
