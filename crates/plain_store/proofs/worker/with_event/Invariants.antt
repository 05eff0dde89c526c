use Rattle.plain_store.proofs.worker.with_event.Given as goal

abbrev pub ghost-and_for : goal.ghost-and_for
ghost-and_for g a = g.item
