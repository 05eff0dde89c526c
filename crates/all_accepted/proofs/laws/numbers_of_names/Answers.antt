use Rattle.all_accepted.proofs.Named.{number_hit}
use Rattle.all_accepted.proofs.laws.numbers_of_names.Goals as goal

pub returns : goal.returns
returns c = number_hit
