use Rattle.std.proofs.Common.{rules, arith, ℕ, ap, ◌∙◌}
use Rattle.load_scripts.specs.Load.{event_at}
use Rattle.load_report.proofs.ScriptSoFar.{so_far_none, as_many, room_so_far, one_event_more}
use Rattle.load_report.proofs.applying.apply_script.Goals as goal

pub loop-init : goal.loop-init
loop-init c = record {
  so = so_far_none c.args.script _ c.args.store.now _ (search rules) c.in_ok-verdicts.ensures.items;
  room = search rules;
}

pub tell_verdict-requires-clause-few : goal.tell_verdict-requires-clause-few
tell_verdict-requires-clause-few c =
    room_so_far c.args.script c.loop.counter c.loop.state c.args.store.now c.loop.store c.loop.verdicts.items
    c.loop.invariant.so c.args.events (omega arith) c.requires.room

pub tell_verdict-requires-clause-room : goal.tell_verdict-requires-clause-room
tell_verdict-requires-clause-room c =
    let many = as_many c.args.script c.loop.counter c.loop.state c.args.store.now c.loop.store c.loop.verdicts.items
    c.loop.invariant.so in
    let room = c.loop.invariant.room in omega (arith, many, room)

pub loop-preserved : goal.loop-preserved
loop-preserved c = record {
  so = one_event_more c.args.script c.loop.counter c.loop.state c.args.store.now c.loop.store c.loop.verdicts.items
      c.loop.invariant.so c.next_state-state.result _ c.tell_verdict.new.store c.tell_verdict.new.verdicts.items
      c.next_state-state.ensures
      (c.event.ensures.value ∙ ap (λ (n : ℕ). event_at n c.next_state-state.result) c.in_ok-names.ensures)
      c.in_ok-tell_verdict.ensures.told;
  room = search rules;
}
