use Rattle.std.proofs.Common.{length, ◌-◌}
use Rattle.stat_name.proofs.Storing.{DataRead}
use Rattle.stat_name.proofs.names.numbers_of.Given as goal

abbrev pub invariant-loop-at : goal.invariant-loop-at
invariant-loop-at l = DataRead l.bytes l.numbers.items l.at

abbrev pub decreases-loop-at : goal.decreases-loop-at
decreases-loop-at l = length l.bytes - l.at
