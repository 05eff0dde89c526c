use Rattle.std.proofs.Common.{◌≡◌, take}
use Rattle.loglinear_bins.specs.Counts.{count_at_most}
use Rattle.text_parts.proofs.listed.values_up_to.Given as goal

abbrev pub invariant-loop-c : goal.invariant-loop-c
invariant-loop-c l = l.sum ≡ count_at_most (take l.c-index l.counts) l.bound.halves
