use Rattle.loglinear_bins.proofs.Powers.{power_at}
use Rattle.loglinear_bins.proofs.digits.power_of_ten.Goals as goal

pub returns : goal.returns
returns c = power_at c.args.exp c.requires
