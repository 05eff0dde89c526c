use Rattle.stat_defs.specs.Borrowed.{event_of}
use Rattle.recorder.proofs.recorder.Recorder.apply.Given as goal

abbrev pub ghost-with_event : goal.ghost-with_event
ghost-with_event g a = (event_of a.event.now, a.verdict)
