use Rattle.loglinear_bins.proofs.Restored.{merged-IsBinList}
use Rattle.loglinear_bins.proofs.Values.{bins_of-more, AreBinsOf-bins_of, IsBinList-bins_of}
use Rattle.loglinear_bins.proofs.laws.values_law.Goals as goal

pub returns : goal.returns
returns c = record { more = bins_of-more; each = AreBinsOf-bins_of; rising = IsBinList-bins_of; alone = merged-IsBinList }
