use Rattle.std.proofs.Common.{◌≡◌, ◌≤◌, drop}
use Rattle.loglinear_bins.specs.declared.place.TheConstants.{MAX_COUNT}
use Rattle.loglinear_bins.specs.Counts.{value_at}
use Rattle.text_parts.proofs.listed.value_at_rank.Given as goal

abbrev pub invariant-loop-c : goal.invariant-loop-c
invariant-loop-c l = (l.rest ≤ MAX_COUNT) × (value_at (drop l.c-index l.counts) l.rest ≡ value_at l.counts l.rank)
