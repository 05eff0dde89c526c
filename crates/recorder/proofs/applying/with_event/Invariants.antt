use Rattle.recorder.proofs.applying.with_event.Given as goal

abbrev pub ghost-and_for : goal.ghost-and_for
ghost-and_for g a = g.told
