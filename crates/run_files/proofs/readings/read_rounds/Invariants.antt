use Rattle.std.proofs.Common.{◌≡◌, length}
use Rattle.run_files.specs.Readings.{HasRead}
use Rattle.run_files.proofs.readings.read_rounds.Given as goal

abbrev pub invariant-loop-round : goal.invariant-loop-round
invariant-loop-round g l = HasRead l.hall.store.now l.records.items l.admin × (length l.records.items ≡ l.round)
