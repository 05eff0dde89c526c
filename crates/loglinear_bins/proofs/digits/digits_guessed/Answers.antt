use Rattle.loglinear_bins.proofs.Powers.{guess_near}
use Rattle.loglinear_bins.proofs.digits.digits_guessed.Goals as goal

pub returns-clause-enough : goal.returns-clause-enough
returns-clause-enough c = (guess_near c.args.log c.requires).0

pub returns-clause-close : goal.returns-clause-close
returns-clause-close c = (guess_near c.args.log c.requires).1
