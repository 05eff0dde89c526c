use Rattle.loglinear_bins.proofs.Adding.{count_of-added, total-added, AreBinsOf-added}
use Rattle.loglinear_bins.proofs.laws.record_law.Goals as goal

pub returns : goal.returns
returns c = record { count = count_of-added; total = total-added; values = AreBinsOf-added }
