use Rattle.std.proofs.Common.{List, sym, subst}
use Rattle.stat_defs.specs.Borrowed.{event_of}
use Rattle.stat_defs.specs.declared.events.Event.{Event}
use Rattle.event_script.specs.Told.{answer_of}
use Rattle.file_reading.proofs.ReadSoFar.{ReadSoFar, answered_step, answered_event, lawful_now, read_more}
use Rattle.file_reading.proofs.ReadToEnd.{read_all}
use Rattle.ledger.specs.Work.{events_in}
use Rattle.worker_run.proofs.working.read_source.Goals as goal

pub tell_verdict-requires-clause-lawful : goal.tell_verdict-requires-clause-lawful
tell_verdict-requires-clause-lawful g c =
    let old = c.loop-lines.lines in let new = c.next_ref.follows.lender-at-none in let event = event_of c.in-Ok.event in
    lawful_now g.S.Source.state old new event
    (answered_event g.S.Source.state old new c.next_ref.result c.in_ok-step.step event c.in_ok-step.was c.in-Ok.ensures
    c.next_ref.follows.holds-at-none.answer)

pub loop-lines-preserved : goal.loop-lines-preserved
loop-lines-preserved g c =
    let old = c.loop-lines.lines in let new = c.next_ref.follows.lender-at-none in let event = event_of c.in-Ok.event in
    let told = c.in_ok-tell_verdict-in-Ok.ensures in record {
      read = subst (λ (events : List Event). ReadSoFar g.S.Source.state c.in_ok-lines.lines new events) (sym told.event)
          (read_more g.S.Source.state c.in_ok-lines.lines old new (events_in c.loop-lines.recorder.work)
          c.loop-lines.invariant.read event
          (answered_event g.S.Source.state old new c.next_ref.result c.in_ok-step.step event c.in_ok-step.was
          c.in-Ok.ensures c.next_ref.follows.holds-at-none.answer));
      at_work = told.at_work;
    }

pub returns-in-Err-clause-read : goal.returns-in-Err-clause-read
returns-in-Err-clause-read g c =
    let old = c.loop-lines.lines in let new = c.next_ref.follows.lender-at-none in let step = c.in_ok-step.step in
    read_all g.S.Source.state c.args.source c.in_ok-lines.lines old new (events_in c.loop-lines.recorder.work)
    c.in-Err.end _ c.loop-lines.invariant.read c.in_ok-lines.ensures (answer_of step) c.in-Err.ensures
    (answered_step g.S.Source.state old new c.next_ref.result step c.in_ok-step.was
    c.next_ref.follows.holds-at-none.answer)
    (rw c.fault_count-faults_before.ensures at c.end_of-end.ensures)
