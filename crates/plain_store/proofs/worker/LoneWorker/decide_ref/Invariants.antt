use Rattle.stat_defs.specs.Borrowed.{event_of}
use Rattle.plain_store.proofs.worker.LoneWorker.decide_ref.Given as goal

abbrev pub ghost-with_event : goal.ghost-with_event
ghost-with_event a = event_of a.event.now
