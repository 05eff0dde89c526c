use Rattle.flusher.specs.FlusherKept.{round_in}
use Rattle.flusher.proofs.rounds.round_of.Given as goal

abbrev pub ghost-and_for : goal.ghost-and_for
ghost-and_for a = round_in a.given.now.0.now a.given.now.1.now
