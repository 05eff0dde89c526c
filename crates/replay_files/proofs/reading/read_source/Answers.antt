use Rattle.std.proofs.Common.{ap}
use Rattle.stat_defs.specs.Borrowed.{event_of}
use Rattle.event_script.specs.Told.{answer_of}
use Rattle.file_reading.proofs.ReadSoFar.{answered_step, answered_event, lawful_now, room_now, read_more}
use Rattle.file_reading.proofs.ReadToEnd.{read_all}
use Rattle.replay_files.proofs.SoFar.{so_far_none, room_so_far, applied_more}
use Rattle.replay_files.proofs.reading.read_source.Goals as goal

pub loop-lines-init : goal.loop-lines-init
loop-lines-init g c =
    so_far_none g.S.Source.state c.in_ok-lines.lines c.args.store.now c.new-verdicts.result.items
    (ap (λ r. r.given) c.in_ok-lines.ensures) c.new-verdicts.ensures.items

pub tell_verdict-requires-clause-lawful : goal.tell_verdict-requires-clause-lawful
tell_verdict-requires-clause-lawful g c =
    let old = c.loop-lines.lines in let new = c.next_ref.follows.lender-at-none in let event = event_of c.in-Ok.event in
    lawful_now g.S.Source.state old new event
    (answered_event g.S.Source.state old new c.next_ref.result c.in_ok-step.step event c.in_ok-step.was c.in-Ok.ensures
    c.next_ref.follows.holds-at-none.answer)

pub tell_verdict-requires-clause-few : goal.tell_verdict-requires-clause-few
tell_verdict-requires-clause-few g c =
    let old = c.loop-lines.lines in let new = c.next_ref.follows.lender-at-none in let event = event_of c.in-Ok.event in
    let so = c.loop-lines.invariant in
    room_so_far c.args.store.now c.loop-lines.store so.events c.loop-lines.verdicts.items so.are_applied
    (room_now g.S.Source.state c.in_ok-lines.lines old new so.events so.read event
    (answered_event g.S.Source.state old new c.next_ref.result c.in_ok-step.step event c.in_ok-step.was c.in-Ok.ensures
    c.next_ref.follows.holds-at-none.answer)) c.requires

pub loop-lines-preserved : goal.loop-lines-preserved
loop-lines-preserved g c =
    let old = c.loop-lines.lines in let new = c.next_ref.follows.lender-at-none in let event = event_of c.in-Ok.event in
    let so = c.loop-lines.invariant in record {
      events = _;
      read = read_more g.S.Source.state c.in_ok-lines.lines old new so.events so.read event
          (answered_event g.S.Source.state old new c.next_ref.result c.in_ok-step.step event c.in_ok-step.was
          c.in-Ok.ensures c.next_ref.follows.holds-at-none.answer);
      are_applied = applied_more c.args.store.now c.loop-lines.store c.tell_verdict.new.store so.events event
          c.loop-lines.verdicts.items c.tell_verdict.new.verdicts.items so.are_applied
          c.in_ok-tell_verdict-in-Ok.ensures;
    }

pub returns-in-Err : goal.returns-in-Err
returns-in-Err g c =
    let old = c.loop-lines.lines in let new = c.next_ref.follows.lender-at-none in let step = c.in_ok-step.step in
    let so = c.loop-lines.invariant in record {
      events = so.events;
      read = read_all g.S.Source.state c.args.source c.in_ok-lines.lines old new so.events c.in-Err.end _ so.read
          c.in_ok-lines.ensures (answer_of step) c.in-Err.ensures
          (answered_step g.S.Source.state old new c.next_ref.result step c.in_ok-step.was
          c.next_ref.follows.holds-at-none.answer)
          (rw c.fault_count-faults_before.ensures at c.end_of-end.ensures);
      are_applied = so.are_applied;
    }
