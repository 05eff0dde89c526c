use Rattle.std.proofs.Common.{◌≡◌, ◌++◌, drop}
use Rattle.loglinear_bins.specs.Table.{listed}
use Rattle.loglinear_bins.proofs.Reading.{Shows}
use Rattle.loglinear_bins.proofs.bins.Bins.pairs.Given as goal

abbrev pub invariant-loop-place : goal.invariant-loop-place
invariant-loop-place l = Shows l.self-inside.counts.items l.self × (l.pairs.items ++ listed l.place (drop l.place l.self-inside.counts.items) ≡ l.self)
