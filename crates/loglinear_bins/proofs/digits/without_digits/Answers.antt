use Rattle.std.proofs.Common.{sym, subst, ◌<◌}
use Rattle.loglinear_bins.proofs.Powers.{pow_ten_some}
use Rattle.loglinear_bins.proofs.digits.without_digits.Goals as goal

pub nonzero_div-result-in_default : goal.nonzero_div-result-in_default
nonzero_div-result-in_default c = subst (λ n. 0 < n) (sym c.power_of_ten.ensures) (pow_ten_some c.args.count)
