use Rattle.std.proofs.Common.{◌≡◌, ◌+◌, ◌*◌, ◌^◌, ◌≤◌, drop}
use Rattle.loglinear_bins.specs.declared.place.TheConstants.{MAX_COUNT}
use Rattle.loglinear_bins.specs.Counts.{sum_of, total}
use Rattle.loglinear_bins.specs.Table.{listed}
use Rattle.loglinear_bins.proofs.Reading.{Shows}
use Rattle.loglinear_bins.proofs.bins.Bins.sum_twentieths.Given as goal

abbrev pub invariant-loop-place : goal.invariant-loop-place
invariant-loop-place l =
    Shows l.n-items l.self
    × (l.sum + sum_of (listed l.place (drop l.place l.n-items)) ≡ sum_of l.self)
    × (l.sum + total (listed l.place (drop l.place l.n-items)) * 2 ^ 73 ≤ MAX_COUNT * 2 ^ 73)
