use Rattle.admin_side.proofs.admin.with_read.Given as goal

abbrev pub ghost-and_for : goal.ghost-and_for
ghost-and_for a = record { shown = a.given.now.0.now; names = a.given.now.1.now }
