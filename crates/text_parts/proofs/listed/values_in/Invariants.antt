use Rattle.std.proofs.Common.{◌≡◌, take}
use Rattle.loglinear_bins.specs.Counts.{total}
use Rattle.text_parts.proofs.listed.values_in.Given as goal

abbrev pub invariant-loop-c : goal.invariant-loop-c
invariant-loop-c l = l.sum ≡ total (take l.c-index l.counts)
