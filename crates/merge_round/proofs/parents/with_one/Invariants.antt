use Rattle.merge_round.proofs.parents.with_one.Given as goal

abbrev pub ghost-and_for : goal.ghost-and_for
ghost-and_for a = (a.given.now.0, a.given.now.1.now)
