use Rattle.stat_defs.specs.Borrowed.{event_of}
use Rattle.plain_store.proofs.store.PlainStore.apply_ref.Given as goal

abbrev pub ghost-with_counted : goal.ghost-with_counted
ghost-with_counted a = (event_of a.event.now, a.verdict)
