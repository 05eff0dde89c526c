use Rattle.name_list.proofs.list.with_batch.Given as goal

abbrev pub ghost-and_for : goal.ghost-and_for
ghost-and_for a = record { changes = a.given.now.now }
