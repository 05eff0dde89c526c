use Rattle.std.proofs.Common.{◌≡◌, drop}
use Rattle.flush_view.specs.Sums.{with_deltas}
use Rattle.flush_view.proofs.sums.add_deltas.Given as goal

abbrev pub invariant-loop-delta : goal.invariant-loop-delta
invariant-loop-delta l = with_deltas l.sums (drop l.delta-index l.deltas) ≡ with_deltas l.fn.sums l.deltas
