use Rattle.loglinear_bins.proofs.Adding.{count_of-merged, total-merged, AreBinsOf-merged}
use Rattle.loglinear_bins.proofs.Joined.{merged_values}
use Rattle.loglinear_bins.proofs.laws.merge_law.Goals as goal

pub returns : goal.returns
returns c = record { count = count_of-merged; total = total-merged; values = AreBinsOf-merged; joined = merged_values }
