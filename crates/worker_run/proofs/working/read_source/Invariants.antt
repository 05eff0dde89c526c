use Rattle.std.proofs.Common.{◌-◌}
use Rattle.event_script.specs.declared.limits.TheConstants.{MAX_EVENTS}
use Rattle.file_reading.proofs.ReadSoFar.{ReadSoFar}
use Rattle.ledger.specs.Work.{events_in}
use Rattle.worker_run.specs.Working.{IsAtWork}
use Rattle.worker_run.proofs.working.read_source.Given as goal

abbrev pub invariant-loop-lines : goal.invariant-loop-lines
invariant-loop-lines g l = record {
  read : ReadSoFar g.S.Source.state l.initial.lines l.lines (events_in l.recorder.work);
  at_work : IsAtWork l.desk.store.now l.desk.number l.verdicts.items l.recorder;
}

abbrev pub decreases-loop-lines : goal.decreases-loop-lines
decreases-loop-lines g l = MAX_EVENTS - l.lines.given
