use Rattle.seat_parts.specs.Parts.{first_or}
use Rattle.flusher.specs.FlusherKept.{no_round}
use Rattle.flusher.proofs.rounds.with_flush.Given as goal

abbrev pub ghost-and_for : goal.ghost-and_for
ghost-and_for a = record { shown = a.given.now.0.now; round = first_or no_round a.given.now.1.now.items }
