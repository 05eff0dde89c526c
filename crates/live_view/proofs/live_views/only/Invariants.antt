use Rattle.live_view.proofs.live_views.only.Given as goal

abbrev pub ghost-and_for : goal.ghost-and_for
ghost-and_for a = a.given.now.now
