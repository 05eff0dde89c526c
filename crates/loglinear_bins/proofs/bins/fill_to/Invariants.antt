use Rattle.std.proofs.Common.{◌≡◌, ◌-◌, ◌≤◌, ◌++◌, max, length, replicate, vec_capacity}
use Rattle.loglinear_bins.proofs.bins.fill_to.Given as goal

abbrev pub invariant-loop : goal.invariant-loop
invariant-loop l =
    (l.counts.items ≡ l.initial.counts.items ++ replicate (l.counter - length l.initial.counts.items) 0)
    × (l.counter ≤ max l.len (length l.initial.counts.items))
    × (vec_capacity l.counts ≡ vec_capacity l.initial.counts)
