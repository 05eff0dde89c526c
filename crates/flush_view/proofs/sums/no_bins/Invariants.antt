use Rattle.std.proofs.Common.{◌≡◌, replicate, None}
use Rattle.flush_view.proofs.sums.no_bins.Given as goal

abbrev pub invariant-loop-i : goal.invariant-loop-i
invariant-loop-i l = l.slots.items ≡ replicate l._i None
