use Rattle.plain_store.proofs.store.with_counted.Given as goal

abbrev pub ghost-and_for : goal.ghost-and_for
ghost-and_for g a = g.item
