use Rattle.flush_view.proofs.Intervals.{interval}
use Rattle.flush_view.proofs.laws.interval_of_values.Goals as goal

pub returns : goal.returns
returns c = λ rules log last segs flush id fits. record { each = λ bin. interval id bin segs flush.parts fits.parts }
