use Rattle.std.proofs.Common.{◌≡◌, drop}
use Rattle.loglinear_bins.specs.Counts.{value_at}
use Rattle.loglinear_bins.specs.Table.{listed}
use Rattle.loglinear_bins.proofs.Reading.{Shows}
use Rattle.loglinear_bins.proofs.bins.Bins.value_at_rank.Given as goal

abbrev pub invariant-loop-place : goal.invariant-loop-place
invariant-loop-place l = Shows l.n-items l.self × (value_at (listed l.place (drop l.place l.n-items)) l.rest ≡ value_at l.self l.rank)
