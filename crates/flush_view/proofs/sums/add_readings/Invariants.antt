use Rattle.std.proofs.Common.{◌≡◌, drop}
use Rattle.flush_view.specs.Sums.{with_readings}
use Rattle.flush_view.proofs.sums.add_readings.Given as goal

abbrev pub invariant-loop-reading : goal.invariant-loop-reading
invariant-loop-reading l = with_readings l.sums (drop l.reading-index l.readings) ≡ with_readings l.fn.sums l.readings
