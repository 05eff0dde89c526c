use Rattle.std.proofs.Common.{ℕ, ◌+◌, min, max}
use Rattle.std.specs.List.{sum}
use Rattle.loglinear_bins.specs.Table.{listed, IsOccupied}
use Rattle.loglinear_bins.proofs.Merging.{Merges}
use Rattle.loglinear_bins.proofs.bins.Bins.merge.Given as goal

abbrev pub invariant-loop-place : goal.invariant-loop-place
invariant-loop-place l =
    Merges l.others l.place l.counts (sum l.initial.counts + sum l.others) (listed 0 l.initial.counts)
    × ((first past : ℕ) → IsOccupied l.initial.counts first past → IsOccupied l.counts (min first l.initial.place) (max past l.place-end))
