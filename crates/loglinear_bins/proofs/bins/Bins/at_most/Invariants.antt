use Rattle.std.proofs.Common.{◌≡◌, ◌+◌, drop}
use Rattle.loglinear_bins.specs.Counts.{count_at_most}
use Rattle.loglinear_bins.specs.Table.{listed}
use Rattle.loglinear_bins.proofs.Reading.{Shows}
use Rattle.loglinear_bins.proofs.bins.Bins.at_most.Given as goal

abbrev pub invariant-loop-place : goal.invariant-loop-place
invariant-loop-place l = Shows l.n-items l.self × (l.sum + count_at_most (listed l.place (drop l.place l.n-items)) l.bound.halves ≡ count_at_most l.self l.bound.halves)
