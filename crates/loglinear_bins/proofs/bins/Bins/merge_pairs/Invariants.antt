use Rattle.std.proofs.Common.{◌≡◌, ◌+◌, ◌≤◌, drop}
use Rattle.loglinear_bins.specs.declared.place.TheConstants.{MAX_COUNT}
use Rattle.loglinear_bins.specs.Counts.{AreLawful, total, merged}
use Rattle.loglinear_bins.proofs.bins.Bins.merge_pairs.Given as goal

abbrev pub invariant-loop-pair : goal.invariant-loop-pair
invariant-loop-pair l =
    AreLawful (drop l.pair-index l.pairs)
    × (total l.self + total (drop l.pair-index l.pairs) ≤ MAX_COUNT)
    × (merged l.self (drop l.pair-index l.pairs) ≡ merged l.initial.self l.pairs)
