use Rattle.std.proofs.Common.{◌≡◌, ◌≤◌, ◌*◌, ◌^◌, take}
use Rattle.loglinear_bins.specs.Counts.{sum_of, total}
use Rattle.text_parts.proofs.listed.sum_twentieths.Given as goal

abbrev pub invariant-loop-c : goal.invariant-loop-c
invariant-loop-c l =
    (l.sum ≡ sum_of (take l.c-index l.counts)) × (l.sum ≤ total (take l.c-index l.counts) * 2 ^ 73)
