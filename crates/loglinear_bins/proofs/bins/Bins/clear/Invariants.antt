use Rattle.loglinear_bins.proofs.Occupied.{Clears}
use Rattle.loglinear_bins.proofs.bins.Bins.clear.Given as goal

abbrev pub invariant-loop-place : goal.invariant-loop-place
invariant-loop-place l = Clears l.counts l.place l.place-end
