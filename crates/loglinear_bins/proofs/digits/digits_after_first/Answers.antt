use Rattle.std.proofs.Common.{arith}
use Rattle.loglinear_bins.proofs.Powers.{one_less}
use Rattle.loglinear_bins.proofs.digits.digits_after_first.Goals as goal

pub returns-then-v-power_of_ten-clause-reached : goal.returns-then-v-power_of_ten-clause-reached
returns-then-v-power_of_ten-clause-reached c =
    let less = one_less c.digits_guessed-guess.result (omega arith) in
    omega (arith, less)
