use Rattle.std.proofs.Common.{Ok, ap}
use Rattle.file_reading.proofs.ReadSoFar.{lawful_now, room_now, read_more}
use Rattle.replay_files.proofs.SoFar.{so_far_none, room_so_far, applied_more}
use Rattle.library_examples.proofs.LinesFlushed.{lines_stay, lines_few, no_flush}
use Rattle.library_examples.proofs.LinesRead.{lines_read}
use Rattle.library_examples.proofs.reading.apply_lines.Goals as goal

pub loop-lines-init : goal.loop-lines-init
loop-lines-init g c =
    so_far_none g.S.Source.state c.in_ok-lines.lines c.args.store.now c.new-verdicts.result.items
    (ap (λ r. r.given) c.in_ok-lines.ensures) c.new-verdicts.ensures.items

pub apply_event-requires-clause-lawful : goal.apply_event-requires-clause-lawful
apply_event-requires-clause-lawful g c =
    lawful_now g.S.Source.state c.loop-lines.lines c.next.new.self c.in-Ok.event
    (rw c.in-Ok.ensures at c.in_ok-step.ensures.answer)

pub apply_event-requires-clause-few : goal.apply_event-requires-clause-few
apply_event-requires-clause-few g c =
    let so = c.loop-lines.invariant in
    room_so_far c.args.store.now c.loop-lines.store so.events c.loop-lines.verdicts.items so.are_applied
    (room_now g.S.Source.state c.in_ok-lines.lines c.loop-lines.lines c.next.new.self so.events so.read c.in-Ok.event
    (rw c.in-Ok.ensures at c.in_ok-step.ensures.answer)) c.requires

pub loop-lines-preserved : goal.loop-lines-preserved
loop-lines-preserved g c =
    let so = c.loop-lines.invariant in record {
      events = _;
      read = read_more g.S.Source.state c.in_ok-lines.lines c.loop-lines.lines c.next.new.self so.events so.read
          c.in-Ok.event (rw c.in-Ok.ensures at c.in_ok-step.ensures.answer);
      are_applied = applied_more c.args.store.now c.loop-lines.store c.apply_event.new.store so.events c.in-Ok.event
          c.loop-lines.verdicts.items c.apply_event.new.verdicts.items so.are_applied
          c.in_ok-apply_event-in-Ok.ensures;
    }

pub returns-in-Err : goal.returns-in-Err
returns-in-Err g c =
    let lines = lines_read g.S.Source.state c.args.source c.in_ok-lines.lines c.loop-lines.lines c.next.new.self
    c.args.store.now c.loop-lines.store c.loop-lines.verdicts.items c.loop-lines.invariant c.in_ok-lines.ensures
    (Ok c.in_ok-step.step) c.in-Err.end c.in-Err.ensures c.in_ok-step.ensures.answer in
    record {
      applied = lines;
      flushes = no_flush g.S.Source.state c.args.source c.args.store.now c.loop-lines.store _ _ lines c.requires;
      kept = lines_stay g.S.Source.state c.args.source c.args.store.now c.loop-lines.store _ _ lines c.requires;
      few = lines_few g.S.Source.state c.args.source c.args.store.now c.loop-lines.store _ _ lines c.requires;
    }
